-- A drift that is made of tables.
use Rattle.std.proofs.Common.{◌≡◌, ℕ, ℤ, Bool, true, false, cond, List, [], ◌∷◌, Some, ap, sym, ◌∙◌, refl}
use Rattle.std.specs.Prelude.{IfSome, T}
use Rattle.std.specs.Cmp.{IsTotalOrder}
use Rattle.std.specs.List.{AllByRecursion}
use Rattle.std.specs.List.Sorted.{IsStrictlySortedBy}
use Rattle.std.specs.Map.{keys_of}
use Rattle.std.specs.Ordering.{nat_cmp}
use Rattle.std.specs.declared.cmp.Ordering.{Ordering}
use Rattle.std.specs.declared.cmp.Ordering.TheVariants.{Less}
use Rattle.std.specs.BTreeMap.{is_at}
use Rattle.std.specs.FinMap as map
use Rattle.std.specs.FinMap.{FinMap, IsAntisymmetric, entries-from_sorted, find, get-entries, get-from_sorted, is_sorted, same_map}
use Rattle.std.specs.FinMap.Entries.{below_all}
use Rattle.std.proofs.lemmas.Cmp.{nat_cmp_total, on_total, then_total}
use Rattle.fr_base.specs.declared.channel.Channel.{Channel}
use Rattle.fr_base.specs.declared.channel.Channel.TheVariants as channel
use Rattle.fr_text.specs.Records.{FileRecord}
use Rattle.fr_cluster.specs.Values.{Values}
use Rattle.fr_cluster.specs.Questions.{compensation_of}
use Rattle.fr_drift.specs.Keys.{delay_cmp, length_cmp}
use Rattle.fr_text.specs.Keys.{found_at}
use Rattle.fr_drift.specs.Rows.{IsProperDelay}
use Rattle.fr_drift.specs.View.{DriftView, compensation_on, delay_rows, delays_on}
use Rattle.fr_drift.specs.Sane.{IsDrift, IsProperCompensation}
use Rattle.fr_drift.specs.Draft.{AreProper, IsDriftDraft}
use Rattle.fr_drift.specs.Files.{DriftStandsFor}
use Rattle.fr_drift.specs.Reasons.{delay_at}
use Rattle.fr_drift.specs.declared.draft.Draft.{Draft}
use Rattle.fr_drift.specs.declared.keys.LengthKey.{LengthKey}
use Rattle.fr_drift.specs.declared.keys.DelayKey.{DelayKey}

pub length_total : IsTotalOrder length_cmp
length_total = then_total (on_total (λ (k : LengthKey). k.node) nat_cmp_total) (on_total (λ (k : LengthKey). k.from) nat_cmp_total)

pub delay_total : IsTotalOrder delay_cmp
delay_total =
    then_total (on_total (λ (k : DelayKey). k.sender) nat_cmp_total)
    (then_total (on_total (λ (k : DelayKey). k.receiver) nat_cmp_total) (on_total (λ (k : DelayKey). k.from) nat_cmp_total))

-- entries in the order of their keys, by either word for it
below-all : {K V : Type 0} (R : K → K → Ordering) (x : K) (es : List (K × V)) → AllByRecursion (λ y. R x y ≡ Less) (keys_of es) → below_all R x es ≡ true
below-all R x [] h = refl
below-all R x (e ∷ es) h = rw (h.0, below-all R x es h.1) refl

pub sorted-from_ordered : {K V : Type 0} (R : K → K → Ordering) (es : List (K × V)) → IsStrictlySortedBy R (keys_of es) → is_sorted R es ≡ true
unfolding IsStrictlySortedBy
sorted-from_ordered R [] h = refl
sorted-from_ordered R (e ∷ es) h = rw (below-all R e.0 es h.0, sorted-from_ordered R es h.1) refl

-- what is found along entries, by either word for it
find-found : {K V : Type 0} (R : K → K → Ordering) (es : List (K × V)) (q : K) → find R q es ≡ found_at R es q
find-found R [] q = refl
find-found R (e ∷ es) q = ap (cond (is_at (R q) e.0) (Some e.1)) (find-found R es q)

holds : (b : Bool) → b ≡ true → T b
holds true e = tt
holds false e = cc e

is-true : (b : Bool) → T b → b ≡ true
is-true true h = refl
is-true false h = absurd h

-- lists in the order of their keys that answer alike are one
pub same-rows : {K V : Type 0} {R : K → K → Ordering} → IsTotalOrder R → IsAntisymmetric R → (es fs : List (K × V)) → is_sorted R es ≡ true → is_sorted R fs ≡ true
    → ((q : K) → found_at R es q ≡ found_at R fs q) → es ≡ fs
same-rows {K} {V} {R} total exact es fs s t alike =
    let one = holds (is_sorted R es) s in
    let other = holds (is_sorted R fs) t in
    let maps : map.from_sorted {R = R} es ≡ map.from_sorted fs =
    same_map total exact (map.from_sorted es) (map.from_sorted fs)
    (λ q. get-from_sorted R es q one ∙ find-found R es q ∙ alike q ∙ sym (get-from_sorted R fs q other ∙ find-found R fs q))
    in
    sym (entries-from_sorted R es one) ∙ ap (λ (m : FinMap R V). map.entries m) maps ∙ entries-from_sorted R fs other

-- the entries of a finite map
pub found-entries : {K V : Type 0} {R : K → K → Ordering} (m : FinMap R V) (q : K) → found_at R (map.entries m) q ≡ map.get m q
found-entries {R = R} m q = sym (get-entries m q ∙ find-found R (map.entries m) q)

pub sorted-entries : {K V : Type 0} {R : K → K → Ordering} (m : FinMap R V) → is_sorted R (map.entries m) ≡ true
sorted-entries {R = R} m = is-true (is_sorted R (map.entries m)) (map.entries_sorted m)

-- the view of tables and compensations
unfoldable pub made : ℕ → ℤ → ℤ → Draft → DriftView
made doubles a b draft = record {
  doubles = doubles;
  compensation_a = a;
  compensation_b = b;
  starts = draft.starts.entries;
  lengths = draft.lengths.entries;
  delays_a = draft.delays_a.entries;
  delays_b = draft.delays_b.entries;
}

-- tables in which nothing is out of range make a drift in which nothing is
pub sane-made : (doubles : ℕ) (a b : ℤ) (draft : Draft) → AreProper draft → draft.doubles ≡ Some doubles → IsProperCompensation a → IsProperCompensation b → IsDrift (made doubles a b draft)
unfolding made
sane-made doubles a b draft h told on_a on_b = record {
  count = rw told at h.count;
  compensation = λ ch. compensations ch;
  starts = λ node. h.starts node;
  lengths = λ key. h.lengths key;
  delays = λ ch key. delays ch key;
}
  where
    compensations : (ch : Channel) → IsProperCompensation (compensation_on (made doubles a b draft) ch)
    compensations channel.A = on_a
    compensations channel.B = on_b

    delays : (ch : Channel) (key : DelayKey) → IfSome (found_at delay_cmp (delays_on (made doubles a b draft) ch) key) IsProperDelay
    delays channel.A key = (h.delays_a key)
    delays channel.B key = (h.delays_b key)

-- and stand for the records that the tables hold
pub stands-made : (p : Values) (doubles : ℕ) (a b : ℤ) (draft : Draft) (records : List FileRecord) → IsDriftDraft draft records → draft.doubles ≡ Some doubles
    → a ≡ compensation_of p channel.A → b ≡ compensation_of p channel.B → DriftStandsFor p (made doubles a b draft) records
unfolding made
stands-made p doubles a b draft records h told on_a on_b = record {
  doubles = sym h.doubles ∙ told;
  compensation = λ ch. compensations ch;
  starts = λ node. h.starts node;
  lengths = λ node from. h.lengths node from;
  delays = λ sender receiver ch from. delays sender receiver ch from;
  order = record {
    starts = sorted-from_ordered nat_cmp draft.starts.entries h.proper.starts_ordered;
    lengths = sorted-from_ordered length_cmp draft.lengths.entries h.proper.lengths_ordered;
    delays_a = sorted-from_ordered delay_cmp draft.delays_a.entries h.proper.delays_a_ordered;
    delays_b = sorted-from_ordered delay_cmp draft.delays_b.entries h.proper.delays_b_ordered;
  };
}
  where
    compensations : (ch : Channel) → compensation_on (made doubles a b draft) ch ≡ compensation_of p ch
    compensations channel.A = on_a
    compensations channel.B = on_b

    delays : (sender receiver : ℕ) (ch : Channel) (from : ℕ) → delay_rows (made doubles a b draft) sender receiver ch from ≡ delay_at sender receiver ch from records
    delays sender receiver channel.A from = h.delays_a sender receiver from
    delays sender receiver channel.B from = h.delays_b sender receiver from
