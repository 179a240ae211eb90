-- That files are accepted, and what they stand for, by computing: none of their records is refused, and what these say under each key
-- is what a list of entries has there.
use Rattle.std.proofs.Common.{◌≡◌, ℕ, zero, suc, ◌==◌, Bool, true, false, ◌&&◌, ◌||◌, List, [], ◌∷◌, ◌++◌, Option, Some, None, ap, sym, ◌∙◌, refl, subst, append_assoc, arith}
use Rattle.std.specs.Prelude.{cond, is_none, replicate, slice_index_or, IfSome, T}
use Rattle.std.specs.declared.cmp.Ordering.{Ordering}
use Rattle.std.specs.BTreeMap.{is_at}
use Rattle.std.specs.FinMap.{is_sorted}
use Rattle.std.specs.Ordering.{nat_cmp}
use Rattle.std.proofs.lemmas.Bool.{and_parts}
use Rattle.std.proofs.lemmas.Bool.Decides.{nat_tests}
use Rattle.std.proofs.lemmas.List.{append-nil}
use Rattle.fr_base.specs.declared.reason.Reason.{Reason}
use Rattle.fr_text.specs.Fields.{or_else}
use Rattle.fr_text.specs.Keys.{found_at}
use Rattle.fr_text.specs.Records.{FileRecord}
use Rattle.fr_text.specs.Refusal.{NoneRefused, Refusing}
use Rattle.fr_text.proofs.Cuts.{none-empty, none-more}
use Rattle.fr_drift.specs.Keys.{delay_cmp, length_cmp}
use Rattle.fr_drift.specs.declared.keys.DelayKey.{DelayKey}
use Rattle.fr_drift.specs.declared.keys.LengthKey.{LengthKey}
use Rattle.fr_script.specs.Deeds.{DeedsAscend, deed_in, passage_cmp}
use Rattle.fr_script.specs.Reasons.{is_same_passage}
use Rattle.fr_script.specs.Deed.{IsProperDeed}
use Rattle.fr_script.specs.View.{AreDeeds}
use Rattle.fr_script.specs.declared.deed.Deed.{Deed}
use Rattle.fr_script.specs.declared.deeds.Passage.{Passage}
use Rattle.fr_script.proofs.Existence.{ordered-keys}

-- ---- none is refused

-- whether each of some records is accepted behind those before it
unfoldable pub are_accepted : Refusing → List FileRecord → List FileRecord → Bool
are_accepted reason done [] = true
are_accepted reason done (r ∷ rest) = is_none (reason done r) && are_accepted reason (done ++ r ∷ []) rest

none_is : (o : Option Reason) → is_none o ≡ true → o ≡ None
none_is None is = refl
none_is (Some why) is = absurd (cc)

accepted_behind : (reason : Refusing) (done rest : List FileRecord) → NoneRefused reason done → are_accepted reason done rest ≡ true → NoneRefused reason (done ++ rest)
unfolding are_accepted
accepted_behind reason done [] none is = rw (append-nil done) none
accepted_behind reason done (r ∷ rest) none is =
    let parts = and_parts (is_none (reason done r)) (are_accepted reason (done ++ r ∷ []) rest) is in
    subst (NoneRefused reason) (append_assoc done (r ∷ []) rest)
    (accepted_behind reason (done ++ r ∷ []) rest (none-more reason done r none (none_is (reason done r) parts.0)) parts.1)

pub none_refused : (reason : Refusing) (records : List FileRecord) → are_accepted reason [] records ≡ true → NoneRefused reason records
none_refused reason records is = accepted_behind reason [] records (none-empty reason) is

-- ---- entries

-- what some entries have under a key, by a test of their own key and the asked one
unfoldable pub told_by : {K V : Type 0} → (K → K → Bool) → List (K × V) → K → Option V
told_by test [] key = None
told_by test (e ∷ rest) key = or_else (cond (test e.0 key) (Some e.1) None) (told_by test rest key)

pub found_is_told :
    {K V : Type 0} (cmp : K → K → Ordering) (test : K → K → Bool) → ((row asked : K) → is_at (cmp asked) row ≡ test row asked) → (rows : List (K × V)) (key : K)
    → found_at cmp rows key ≡ told_by test rows key
unfolding told_by
found_is_told cmp test same [] key = refl
found_is_told cmp test same (e ∷ rest) key = (λ i. cond (same e.0 key i) (Some e.1) (found_is_told cmp test same rest key i)) ∙ chosen (test e.0 key) e.1 (told_by test rest key)
  where
    chosen : {V : Type 0} (b : Bool) (v : V) (o : Option V) → cond b (Some v) o ≡ or_else (cond b (Some v) None) o
    chosen true v o = refl
    chosen false v o = refl

-- ---- tables by number

-- one value that differs
pub one_differs : {X : Type 0} (at count node : ℕ) (x other : X) → slice_index_or (replicate at other ++ x ∷ replicate count other) node other ≡ cond (at == node) x other
one_differs zero count zero x other = refl
one_differs zero count (suc node) x other =
    let e : (zero == suc node) ≡ false = grind (arith, nat_tests) in all_same count node other ∙ ap (λ (b : Bool). cond b x other) (sym e)
  where
    all_same : {X : Type 0} (count node : ℕ) (other : X) → slice_index_or (replicate count other) node other ≡ other
    all_same zero node other = refl
    all_same (suc count) zero other = refl
    all_same (suc count) (suc node) other = all_same count node other
one_differs (suc at) count zero x other = let e : (suc at == zero) ≡ false = grind (arith, nat_tests) in ap (λ (b : Bool). cond b x other) (sym e)
one_differs (suc at) count (suc node) x other =
    let e : (suc at == suc node) ≡ (at == node) = grind (arith, nat_tests) in one_differs at count node x other ∙ ap (λ (b : Bool). cond b x other) (sym e)

-- two in a row
pub two_differ : {X : Type 0} (at count node : ℕ) (x next other : X) → slice_index_or (replicate at other ++ x ∷ next ∷ replicate count other) node other ≡ cond (at == node) x (cond (suc at == node) next other)
two_differ zero count zero x next other = refl
two_differ zero count (suc node) x next other =
    let e : (zero == suc node) ≡ false = grind (arith, nat_tests) in
    let f : (zero == node) ≡ (suc zero == suc node) = grind (arith, nat_tests) in
    one_differs zero count node next other ∙ (λ i. cond (sym e i) x (cond (f i) next other))
two_differ (suc at) count zero x next other =
    let e : (suc at == zero) ≡ false = grind (arith, nat_tests) in
    let f : (suc (suc at) == zero) ≡ false = grind (arith, nat_tests) in
    λ i. cond (sym e i) x (cond (sym f i) next other)
two_differ (suc at) count (suc node) x next other =
    let e : (suc at == suc node) ≡ (at == node) = grind (arith, nat_tests) in
    let f : (suc (suc at) == suc node) ≡ (suc at == node) = grind (arith, nat_tests) in
    two_differ at count node x next other ∙ (λ i. cond (sym e i) x (cond (sym f i) next other))

-- as records say it
pub marked : (b : Bool) → cond b true false ≡ (b || false)
marked true = refl
marked false = refl

pub said_once : {V : Type 0} (b : Bool) (v : V) → cond b (Some v) None ≡ or_else (cond b (Some v) None) None
said_once true v = refl
said_once false v = refl

pub said_twice : {V : Type 0} (b c : Bool) (v w : V) → cond b (Some v) (cond c (Some w) None) ≡ or_else (cond b (Some v) None) (or_else (cond c (Some w) None) None)
said_twice true c v w = refl
said_twice false c v w = said_once c w

-- ---- the keys of a drift and of a script

pub same_number : (row asked : ℕ) → is_at (nat_cmp asked) row ≡ (row == asked)
same_number row asked = grind (arith, nat_tests)

abbrev pub length_is : LengthKey → LengthKey → Bool
length_is row asked = (row.node == asked.node) && (row.from == asked.from)

pub same_length : (row asked : LengthKey) → is_at (length_cmp asked) row ≡ length_is row asked
same_length row asked = grind (arith, nat_tests)

abbrev pub delay_is : DelayKey → DelayKey → Bool
delay_is row asked = (row.sender == asked.sender) && ((row.receiver == asked.receiver) && (row.from == asked.from))

pub same_delay : (row asked : DelayKey) → is_at (delay_cmp asked) row ≡ delay_is row asked
same_delay row asked = grind (arith, nat_tests)

pub same_passage : (row asked : Passage) → is_at (passage_cmp asked) row ≡ is_same_passage row asked
same_passage row asked = grind (arith, nat_tests)

-- ---- what holds of each entry holds of what is found

unfoldable pub AllKept : {K V : Type 0} → (V → Type 0) → List (K × V) → Type 0
AllKept P [] = Unit {0}
AllKept P (e ∷ rest) = P e.1 × AllKept P rest

found_is_kept : {K V : Type 0} (P : V → Type 0) (test : K → K → Bool) (rows : List (K × V)) (key : K) → AllKept P rows → IfSome (told_by test rows key) P
unfolding told_by AllKept
found_is_kept P test [] key all = tt
found_is_kept P test (e ∷ rest) key all = by (test e.0 key) (found_is_kept P test rest key all.1)
  where
    by : (b : Bool) → IfSome (told_by test rest key) P → IfSome (or_else (cond b (Some e.1) None) (told_by test rest key)) P
    by true later = all.0
    by false later = later

-- so the deeds of a channel are such as a script has
pub are_deeds : (deeds : List (Passage × Deed)) → T (is_sorted passage_cmp deeds) → AllKept IsProperDeed deeds → AreDeeds deeds
unfolding DeedsAscend deed_in
are_deeds deeds sorted all = record {
  ascending = ordered-keys passage_cmp deeds sorted;
  proper =
      λ passage.
      let Kept : Option Deed → Type 0 = λ o. IfSome o IsProperDeed in
      subst Kept (sym (found_is_told passage_cmp is_same_passage same_passage deeds passage)) (found_is_kept IsProperDeed is_same_passage deeds passage all);
}
