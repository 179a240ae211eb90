-- What a log that fits parameters promises.
use Rattle.std.proofs.Common.{◌≡◌, ℕ, ◌≤◌, Bool, true, false, List, [], ◌∷◌, ◌++◌, Option, Some, None, Result, Ok, Err, ap, sym, subst, ◌∙◌, refl, arith}
use Rattle.std.specs.Prelude.{IsSome, cond, slice_index_or, nat_lt, not, ◌||◌, ◌&&◌, ◌==◌, is_none, is_some, if◌then◌else◌}
use Rattle.std.specs.List.{list_any}
use Rattle.std.proofs.lemmas.List.{get_or_past}
use Rattle.std.proofs.lemmas.Bool.Decides.{nat_tests}
use Rattle.std.proofs.lemmas.Option.{same_Some}
use borrow.Author.Tests.{ltb-true, ltb-false}
use Rattle.fr_base.specs.declared.channel.Channel.{Channel}
use Rattle.fr_base.specs.declared.channel.Channel.TheVariants as channel
use Rattle.fr_base.specs.declared.reason.Reason.{Reason}
use Rattle.fr_base.specs.declared.reason.Reason.TheVariants as reason
use Rattle.fr_text.specs.Fields.{or_else}
use Rattle.fr_text.specs.Records.{FileRecord}
use Rattle.fr_cluster.specs.Questions.{has_channel, key_in, node_of, own_key}
use Rattle.fr_cluster.specs.Searches.{node_in}
use Rattle.fr_cluster.specs.Values.{Values}
use Rattle.fr_cluster.specs.declared.nodes.NodeSpec.{NodeSpec}
use Rattle.fr_log.specs.Files.{HaveLimits, HaveOwnSlots, LogFits, lacks_limits, lacks_on}
use Rattle.fr_log.specs.Reasons.{delay_limits_by, each_by, has_entry, is_arbitrary_by, log_node_reason, log_reason_after, log_row_reason, names_arbitrary}
use Rattle.fr_log.specs.Rows.{log_row_of}
use Rattle.fr_log.specs.View.{LogView, delay_limits_of, is_arbitrary_in}
use Rattle.fr_log.specs.declared.rows.Row.{Row}
use Rattle.fr_log.specs.declared.rows.Row.TheVariants as row

equal-of : (m n : ℕ) → (m == n) ≡ true → m ≡ n
equal-of m n h = grind (arith, nat_tests)

or-none : (a b : Bool) → (a || b) ≡ false → (a ≡ false) × (b ≡ false)
or-none true b h = cc h
or-none false b h = (refl, h)

-- a node that is found does not pass a test that none passes
record IsFoundSo (test : NodeSpec → Bool) (id : ℕ) (node : NodeSpec) : Type 0 where
  fails : test node ≡ false
  own : node.id ≡ id

found-head-node : (test : NodeSpec → Bool) (id : ℕ) (n node : NodeSpec) (b : Bool) (rest : Option NodeSpec) → test n ≡ false → (n.id == id) ≡ b → cond b (Some n) rest ≡ Some node
    → (rest ≡ Some node → IsFoundSo test id node) → IsFoundSo test id node
found-head-node test id n node true rest fails e is later = subst (IsFoundSo test id) (same_Some n node is) (record { fails = fails; own = equal-of n.id id e })
found-head-node test id n node false rest fails e is later = later is

found-so : (test : NodeSpec → Bool) (id : ℕ) (nodes : List NodeSpec) (node : NodeSpec) → list_any test nodes ≡ false → node_in nodes id ≡ Some node → IsFoundSo test id node
found-so test id [] node none found = cc found
found-so test id (n ∷ rest) node none found =
    let parts = or-none (test n) (list_any test rest) none in
    found-head-node test id n node (n.id == id) (node_in rest id) parts.0 refl found (λ later. found-so test id rest node parts.1 later)

and-so : (a b : Bool) → a ≡ true → (a && b) ≡ false → b ≡ false
and-so true b e h = h
and-so false b e h = cc e

some-of : {A : Type 0} (o : Option A) → is_none o ≡ false → IsSome o
some-of None h = cc h
some-of (Some x) h = refl

correct-so : (b : Bool) → b ≡ false → not b ≡ true
correct-so true h = cc h
correct-so false h = refl

limited-on : (records : List FileRecord) (node : NodeSpec) (ch : Channel) → IsSome node.key → is_arbitrary_by node.id records ≡ false → lacks_limits records node ≡ false → lacks_on records node ch ≡ false
limited-on records node channel.A key correct h =
    (or-none (lacks_on records node channel.A) (lacks_on records node channel.B)
    (and-so (is_some node.key && not (is_arbitrary_by node.id records)) _ (rw (key, correct) refl) h)).0
limited-on records node channel.B key correct h =
    (or-none (lacks_on records node channel.A) (lacks_on records node channel.B)
    (and-so (is_some node.key && not (is_arbitrary_by node.id records)) _ (rw (key, correct) refl) h)).1

has-limits : (p : Values) (l : LogView) (node : ℕ) (ch : Channel) (o : Option NodeSpec) → LogFits p l → node ≤ 64 → node_of p node ≡ o → IsSome (key_in o) → is_arbitrary_in l node ≡ false
    → has_channel o ch ≡ true → IsSome (delay_limits_of l node ch)
unfolding delay_limits_of is_arbitrary_in
has-limits p l node ch None f low is key correct on = cc on
has-limits p l node ch (Some n) f low is key correct on =
    let so = found-so (lacks_limits f.records) node p.nodes n f.limited is in
    let named : is_arbitrary_by n.id f.records ≡ false = rw so.own (sym (f.stands.arbitrary node low) ∙ correct) in
    let lacks : lacks_on f.records n ch ≡ false = limited-on f.records n ch key named so.fails in
    let there : is_none (or_else (delay_limits_by n.id ch f.records) (each_by f.records)) ≡ false = and-so (has_channel (Some n) ch) _ on lacks in
    let own : is_none (or_else (delay_limits_by node ch f.records) (each_by f.records)) ≡ false = rw so.own at there in
    rw (f.stands.limits node ch low, f.stands.each) (some-of (or_else (delay_limits_by node ch f.records) (each_by f.records)) own)

-- the delay of each correct node with a key slot is limited on each channel that it has
pub fits-limits : (p : Values) (l : LogView) → LogFits p l → HaveLimits p l
fits-limits p l f node ch low sender on = has-limits p l node ch (node_of p node) f low refl sender.key sender.correct on

-- a test that holds of some record holds of one after those before it
record IsFoundRecord (test : FileRecord → Bool) (records : List FileRecord) : Type 0 where
  before : List FileRecord
  found : FileRecord
  after : List FileRecord
  cut : records ≡ before ++ found ∷ after
  holds : test found ≡ true

found-cons : (test : FileRecord → Bool) (r : FileRecord) (rest : List FileRecord) → IsFoundRecord test rest → IsFoundRecord test (r ∷ rest)
found-cons test r rest later = record {
  before = r ∷ later.before;
  found = later.found;
  after = later.after;
  cut = ap (λ (xs : List FileRecord). r ∷ xs) later.cut;
  holds = later.holds;
}

found-head : (test : FileRecord → Bool) (r : FileRecord) (rest : List FileRecord) (b : Bool) → test r ≡ b → (b ≡ false → IsFoundRecord test rest) → IsFoundRecord test (r ∷ rest)
found-head test r rest true e later = record { before = []; found = r; after = rest; cut = refl; holds = e }
found-head test r rest false e later = found-cons test r rest (later refl)

found-any : (test : FileRecord → Bool) (records : List FileRecord) → list_any test records ≡ true → IsFoundRecord test records
found-any test [] h = cc h
found-any test (r ∷ rest) h =
    found-head test r rest (test r) refl (λ e. found-any test rest (sym (ap (λ (b : Bool). b || list_any test rest) e) ∙ h))

-- a row that names a node is an `arbitrary` row of it
names-row : (node : ℕ) (x : Result Row Reason) → names_arbitrary node x ≡ true → x ≡ Ok (row.Arbitrary node)
names-row node (Ok (row.Number name n)) h = cc h
names-row node (Ok row.Whole) h = cc h
names-row node (Ok (row.Arbitrary other)) h = ap (λ (n : ℕ). Ok (row.Arbitrary n)) (equal-of other node h)
names-row node (Ok (row.Delay d)) h = cc h
names-row node (Ok (row.EachDelay limits)) h = cc h
names-row node (Ok (row.Came e)) h = cc h
names-row node (Err why) h = cc h

-- a node that is named has a key slot
key-of : (unknown behind named : Bool) (slot : Option ℕ)
    → (if unknown then Some reason.UnknownNode else if is_none slot || behind then Some reason.Role else if named then Some reason.Repeated else None) ≡ None → IsSome slot
key-of true behind named slot h = cc h
key-of false behind named None h = cc h
key-of false behind named (Some k) h = refl

named-key : (p : Values) (records : List FileRecord) (node : ℕ) → log_node_reason p records node ≡ None → IsSome (own_key p node)
named-key p records node h = key-of (is_none (node_of p node)) (has_entry records) (is_arbitrary_by node records) (own_key p node) h

-- an arbitrary node of a log that fits has a key slot
pub fits-key : (p : Values) (l : LogView) → LogFits p l → HaveOwnSlots p l
unfolding is_arbitrary_in
fits-key p l f node h = by (nat_lt node 65) refl
  where
    low : node ≤ 64 → IsSome (own_key p node)
    low le =
        let cut = found-any (λ r. names_arbitrary node (log_row_of r)) f.records (sym (f.stands.arbitrary node le) ∙ h) in
        let said = names-row node (log_row_of cut.found) cut.holds in
        let none : log_reason_after p cut.before cut.found ≡ None = f.none_refused cut.before cut.found cut.after cut.cut in
        named-key p cut.before node (sym (ap (λ (x : Result Row Reason). log_row_reason p cut.before x) said) ∙ none)

    by : (b : Bool) → nat_lt node 65 ≡ b → IsSome (own_key p node)
    by true e = let lt = ltb-true node 65 e in low (omega arith)
    by false e =
        let high = ltb-false node 65 e in
        let past : slice_index_or l.arbitrary node false ≡ false = get_or_past l.arbitrary node false (omega (arith, f.stands.arbitrary_long)) in
        cc (sym past ∙ h)
