-- What reading a script may answer is one answer, but for want of memory; and what fits has its key slots.
use Rattle.std.proofs.Common.{◌≡◌, ℕ, ◌<◌, ◌≤◌, List, [], ◌∷◌, ◌++◌, Option, Some, None, Result, Ok, Err, ap, sym, ◌∙◌, refl, arith, true, false, Bool}
use Rattle.std.specs.Prelude.{IsSome, cond, slice_index_or, nat_lt, ◌||◌, ◌&&◌, ◌==◌, T, is_none, if◌then◌else◌, nat_le}
use Rattle.std.specs.declared.cmp.Ordering.{Ordering}
use Rattle.std.specs.declared.cmp.Ordering.TheVariants.{Less, Equal}
use Rattle.std.specs.Ordering.{is_eq, is_lt}
use Rattle.std.specs.BTreeMap.{is_at}
use Rattle.std.specs.Cmp.{IsTotalOrder}
use Rattle.std.specs.List.{list_any}
use Rattle.std.proofs.lemmas.Cmp.{on_total, then_total, nat_cmp_total}
use Rattle.std.specs.FinMap.Entries.{find, below_all, is_sorted, same_entries}
use Rattle.std.specs.Map.{lookup, keys_of}
use Rattle.std.specs.List.{AllByRecursion}
use Rattle.std.specs.List.Sorted.{IsStrictlySortedBy}
use Rattle.std.proofs.lemmas.List.{ext_get_or, get_or_past}
use Rattle.std.proofs.lemmas.Bool.Decides.{nat_tests}
use borrow.Author.Tests.{ltb-true, ltb-false}
use Rattle.fr_base.specs.declared.channel.Channel.{Channel}
use Rattle.fr_base.specs.declared.channel.Channel.TheVariants as channel
use Rattle.fr_base.specs.declared.reason.Reason.{Reason}
use Rattle.fr_base.specs.declared.reason.Reason.TheVariants as reason
use Rattle.fr_text.specs.Records.{FileRecord, records_of}
use Rattle.fr_text.specs.Kind.{HasOneAnswer}
use Rattle.fr_text.proofs.Cuts.{first-same, refused-none}
use Rattle.fr_cluster.specs.Values.{Values}
use Rattle.fr_cluster.specs.Questions.{node_of, own_key}
use Rattle.fr_text.specs.Fields.{is_channel, or_else, looked_up}
use Rattle.fr_script.specs.Deeds.{deed_in, passage_cmp, DeedsAscend, passage_of}
use Rattle.fr_script.specs.Rows.{script_row_of}
use Rattle.fr_script.specs.Deed.{bits_of, is_after_frame}
use Rattle.fr_script.specs.Reasons.{names, is_named_in, has_acted, node_reason, script_row_reason, script_reason_after, deed_said, is_same_passage}
use Rattle.fr_script.specs.View.{ScriptView, is_arbitrary, join_of, deeds_on, deed_of}
use Rattle.fr_base.specs.Event as event
use Rattle.fr_script.specs.Events.{event_of}
use Rattle.fr_script.specs.Files.{ScriptStandsFor, ScriptFits, script_file}
use Rattle.fr_script.specs.declared.deeds.Passage.{Passage}
use Rattle.fr_script.specs.declared.deed.Deed.{Deed}
use Rattle.fr_script.specs.declared.deed.Deed.TheVariants as deed
use Rattle.fr_script.specs.declared.rows.Row.{Row}
use Rattle.fr_script.specs.declared.rows.Row.TheVariants as row
use Rattle.fr_script.specs.declared.fault.ScriptFault.TheVariants as fault
use Rattle.fr_script.proofs.DeedKinds.{flip-deed}
use Rattle.fr_script.proofs.Tables.{same-passage}

pub passages_total : IsTotalOrder passage_cmp
passages_total =
    then_total (on_total (λ (p : Passage). p.sender) nat_cmp_total)
    (then_total (on_total (λ (p : Passage). p.receiver) nat_cmp_total) (on_total (λ (p : Passage). p.cycle) nat_cmp_total))

both_true : (a b : Bool) → T a → T b → T (a && b)
both_true true b p q = q
both_true false b p q = p

is_less : (o : Ordering) → o ≡ Less → T (is_lt o)
is_less o e = rw e tt

module _ {K X : Type 0} (R : K → K → Ordering) where
  below-all : (k : K) (es : List (K × X)) → AllByRecursion (λ y. R k y ≡ Less) (keys_of es) → T (below_all R k es)
  below-all k [] h = tt
  below-all k (e ∷ es) h = both_true (is_lt (R k e.0)) (below_all R k es) (is_less (R k e.0) h.0) (below-all k es h.1)

  sorted-keys : (es : List (K × X)) → IsStrictlySortedBy R (keys_of es) → T (is_sorted R es)
  unfolding IsStrictlySortedBy
  sorted-keys [] h = tt
  sorted-keys (e ∷ es) h = both_true (below_all R e.0 es) (is_sorted R es) (below-all e.0 es h.0) (sorted-keys es h.1)

  pub find-lookup : (q : K) (es : List (K × X)) → find R q es ≡ lookup (is_at (R q)) es
  find-lookup q [] = refl
  find-lookup q (e ∷ es) = ap (cond (is_at (R q) e.0) (Some e.1)) (find-lookup q es)

passages_exact : (a b : Passage) → passage_cmp a b ≡ Equal → a ≡ b
passages_exact a b e = same-passage a b (ap is_eq e)

-- tables in order that say the same of each passage are the same
deeds-same : (a b : List (Passage × Deed)) → DeedsAscend a → DeedsAscend b → ((q : Passage) → deed_in a q ≡ deed_in b q) → a ≡ b
unfolding DeedsAscend deed_in
deeds-same a b p q h =
    same_entries passage_cmp passages_total passages_exact a b (sorted-keys passage_cmp a p) (sorted-keys passage_cmp b q)
    (λ k. find-lookup passage_cmp k a ∙ h k ∙ sym (find-lookup passage_cmp k b))

nodes-same : (s t : ScriptView) (records : List FileRecord) → ScriptStandsFor s records → ScriptStandsFor t records → s.arbitrary ≡ t.arbitrary
unfolding is_arbitrary
nodes-same s t records f g =
    ext_get_or false s.arbitrary t.arbitrary (f.long ∙ sym g.long) (λ i below. let low : i ≤ 64 = omega (arith, f.long) in f.nodes i low ∙ sym (g.nodes i low))

joins-same : (s t : ScriptView) (records : List FileRecord) → ScriptStandsFor s records → ScriptStandsFor t records → s.joins ≡ t.joins
unfolding join_of
joins-same s t records f g =
    ext_get_or None s.joins t.joins (f.joins_long ∙ sym g.joins_long) (λ i below. let low : i ≤ 64 = omega (arith, f.joins_long) in f.joins i low ∙ sym (g.joins i low))

-- records stand for one script
pub stands-same : (s t : ScriptView) (records : List FileRecord) → ScriptStandsFor s records → ScriptStandsFor t records → s ≡ t
stands-same s t records f g =
    let nodes = nodes-same s t records f g in
    let joins = joins-same s t records f g in
    λ i. record { arbitrary = nodes i; joins = joins i; on_a = on channel.A i; on_b = on channel.B i }
  where
    on : (ch : Channel) → deeds_on s ch ≡ deeds_on t ch
    on ch = deeds-same (deeds_on s ch) (deeds_on t ch) (f.ascending ch) (g.ascending ch) (λ q. f.deeds ch q ∙ sym (g.deeds ch q))

-- two answers to one file are the same, but for want of memory
pub reads-same : (p : Values) → HasOneAnswer (script_file p)
reads-same p bytes (Ok s) (Ok t) na nb f g = ap (λ (v : ScriptView). Ok v) (stands-same s t (records_of bytes) f.stands g.stands)
reads-same p bytes (Ok s) (Err (fault.Row n why)) na nb f g = absurd (refused-none (script_reason_after p) (records_of bytes) n why g f.none_refused)
reads-same p bytes (Ok s) (Err fault.NoMemory) na nb f g = absurd (nb refl)
reads-same p bytes (Err (fault.Row n why)) (Ok t) na nb f g = absurd (refused-none (script_reason_after p) (records_of bytes) n why f g.none_refused)
reads-same p bytes (Err (fault.Row n why)) (Err (fault.Row m other)) na nb f g = let same = first-same (script_reason_after p) (records_of bytes) n m why other f g in cc
reads-same p bytes (Err (fault.Row n why)) (Err fault.NoMemory) na nb f g = absurd (nb refl)
reads-same p bytes (Err fault.NoMemory) b na nb f g = absurd (na refl)

-- a test that holds of some record holds of one after those before it
pub record IsFound (test : FileRecord → Bool) (records : List FileRecord) : Type 0 where
  pub before : List FileRecord
  pub found : FileRecord
  pub after : List FileRecord
  pub cut : records ≡ before ++ found ∷ after
  pub holds : test found ≡ true

found-cons : (test : FileRecord → Bool) (r : FileRecord) (rest : List FileRecord) → IsFound test rest → IsFound test (r ∷ rest)
found-cons test r rest later = record {
  before = r ∷ later.before;
  found = later.found;
  after = later.after;
  cut = ap (λ (xs : List FileRecord). r ∷ xs) later.cut;
  holds = later.holds;
}

found-head : (test : FileRecord → Bool) (r : FileRecord) (rest : List FileRecord) (b : Bool) → test r ≡ b → (b ≡ false → IsFound test rest) → IsFound test (r ∷ rest)
found-head test r rest true e later = record { before = []; found = r; after = rest; cut = refl; holds = e }
found-head test r rest false e later = found-cons test r rest (later refl)

found-any : (test : FileRecord → Bool) (records : List FileRecord) → list_any test records ≡ true → IsFound test records
found-any test [] h = cc h
found-any test (r ∷ rest) h =
    found-head test r rest (test r) refl (λ e. found-any test rest (sym (ap (λ (b : Bool). b || list_any test rest) e) ∙ h))

equal-of : (m n : ℕ) → (m == n) ≡ true → m ≡ n
equal-of m n h = grind (arith, nat_tests)

-- a row that names a node is an `arbitrary` row of it
names-row : (node : ℕ) (x : Result Row Reason) → names node x ≡ true → x ≡ Ok (row.Arbitrary node)
names-row node (Ok (row.Arbitrary other)) h = ap (λ (n : ℕ). Ok (row.Arbitrary n)) (equal-of other node h)
names-row node (Ok (row.Deed d)) h = cc h
names-row node (Ok (row.Join j)) h = cc h
names-row node (Err why) h = cc h

-- a node that is named has a key slot
key-of : (unknown acted named : Bool) (slot : Option ℕ)
    → (if unknown then Some reason.UnknownNode else if is_none slot || acted then Some reason.Role else if named then Some reason.Repeated else None) ≡ None → IsSome slot
key-of true acted named slot h = cc h
key-of false acted named None h = cc h
key-of false acted named (Some k) h = refl

named-key : (p : Values) (records : List FileRecord) (node : ℕ) → node_reason p records node ≡ None → IsSome (own_key p node)
named-key p records node h = key-of (is_none (node_of p node)) (has_acted records) (is_named_in node records) (own_key p node) h

-- an arbitrary node of a script that fits has a key slot
pub fits-key : (p : Values) (s : ScriptView) (node : ℕ) → ScriptFits p s → is_arbitrary s node ≡ true → IsSome (own_key p node)
unfolding is_arbitrary
fits-key p s node f h = by (nat_lt node 65) refl
  where
    low : node ≤ 64 → IsSome (own_key p node)
    low le =
        let cut = found-any (λ r. names node (script_row_of r)) f.records (sym (f.stands.nodes node le) ∙ h) in
        let said = names-row node (script_row_of cut.found) cut.holds in
        let none : script_reason_after p cut.before cut.found ≡ None = f.none_refused cut.before cut.found cut.after cut.cut in
        named-key p cut.before node (sym (ap (λ (x : Result Row Reason). script_row_reason p cut.before x) said) ∙ none)

    by : (b : Bool) → nat_lt node 65 ≡ b → IsSome (own_key p node)
    by true e = let lt = ltb-true node 65 e in low (omega arith)
    by false e =
        let high = ltb-false node 65 e in
        let past : slice_index_or s.arbitrary node false ≡ false = get_or_past s.arbitrary node false (omega (arith, f.stands.long)) in
        cc (sym past ∙ h)

-- what is looked up stands in a record after those before it
pub record IsTold {A : Type 0} (what : FileRecord → Option A) (records : List FileRecord) (x : A) : Type 0 where
  pub before : List FileRecord
  pub told : FileRecord
  pub after : List FileRecord
  pub cut : records ≡ before ++ told ∷ after
  pub says : what told ≡ Some x

told-cons : {A : Type 0} (what : FileRecord → Option A) (r : FileRecord) (rest : List FileRecord) (x : A) → IsTold what rest x → IsTold what (r ∷ rest) x
told-cons what r rest x later = record {
  before = r ∷ later.before;
  told = later.told;
  after = later.after;
  cut = ap (λ (xs : List FileRecord). r ∷ xs) later.cut;
  says = later.says;
}

told-head : {A : Type 0} (what : FileRecord → Option A) (r : FileRecord) (rest : List FileRecord) (x : A) (o : Option A) → what r ≡ o → or_else o (looked_up what rest) ≡ Some x
    → (looked_up what rest ≡ Some x → IsTold what rest x) → IsTold what (r ∷ rest) x
told-head what r rest x (Some y) e h later = record { before = []; told = r; after = rest; cut = refl; says = e ∙ h }
told-head what r rest x None e h later = told-cons what r rest x (later h)

told-look : {A : Type 0} (what : FileRecord → Option A) (records : List FileRecord) (x : A) → looked_up what records ≡ Some x → IsTold what records x
unfolding looked_up
told-look what [] x h = cc h
told-look what (r ∷ rest) x h = told-head what r rest x (what r) refl h (λ e. told-look what rest x e)

chosen : (b : Bool) (o : Option Deed) (x : Deed) → (if b then o else None) ≡ Some x → o ≡ Some x
chosen true o x h = h
chosen false o x h = cc h

not-refused : (b : Bool) (why : Reason) (o : Option Reason) → (if b then Some why else o) ≡ None → b ≡ false
not-refused true why o h = cc h
not-refused false why o h = refl

below-not : (bits bit : ℕ) → nat_le bits bit ≡ false → bit < bits
below-not bits bit h = grind (arith, nat_tests)

-- a row that inverts a bit and is not refused inverts one of a frame
flip-row : (p : Values) (before : List FileRecord) (ch : Channel) (passage : Passage) (bit : ℕ) (x : Result Row Reason) → deed_said ch passage x ≡ Some (deed.Flip bit)
    → script_row_reason p before x ≡ None → bit < bits_of p
flip-row p before ch passage bit (Ok (row.Arbitrary node)) says none = cc says
flip-row p before ch passage bit (Ok (row.Join j)) says none = cc says
flip-row p before ch passage bit (Err why) says none = cc says
flip-row p before ch passage bit (Ok (row.Deed d)) says none =
    let what = chosen (is_channel ch d.channel && is_same_passage d.passage passage) d.deed (deed.Flip bit) says in
    let fits = not-refused (is_after_frame p d.deed) reason.OutOfRange _ none in
    below-not (bits_of p) bit (sym (ap (is_after_frame p) what) ∙ fits)

-- a bit that a script inverts is one of a frame of the parameters that it fits
pub fits-flip : (p : Values) (s : ScriptView) (cycle sender receiver : ℕ) (ch : Channel) (bit : ℕ) → ScriptFits p s → event_of s cycle sender receiver ch ≡ event.Flip bit → bit < bits_of p
unfolding event_of deed_of
fits-flip p s cycle sender receiver ch bit f h =
    let what = flip-deed (is_arbitrary s sender) (deed_of s cycle sender receiver ch) bit h in
    let passage = passage_of sender receiver cycle in
    let cut = told-look (λ r. deed_said ch passage (script_row_of r)) f.records (deed.Flip bit) (sym (f.stands.deeds ch passage) ∙ what) in
    flip-row p cut.before ch passage bit (script_row_of cut.told) cut.says (f.none_refused cut.before cut.told cut.after cut.cut)
