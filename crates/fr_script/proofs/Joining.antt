-- Nodes that join a running cluster have references: what the records so far say of them holds with each record more.
use Rattle.std.proofs.Common.{◌≡◌, ℕ, ℤ, pos, negsuc, ◌<◌, ◌≤◌, Bool, true, false, List, [], ◌∷◌, ◌++◌, length, Option, Some, None, Result, Ok, Err, ap, sym, ◌∙◌, refl, arith, append_assoc, subst}
use Rattle.std.specs.Prelude.{IsSome, slice_index_or, nat_lt, not, ◌||◌, ◌&&◌, ◌==◌, is_none, is_some, if◌then◌else◌, codes}
use Rattle.std.specs.Str.{bytes_eq}
use Rattle.std.proofs.lemmas.List.{append-nil, get_or_past}
use Rattle.std.proofs.lemmas.Bool.Decides.{nat_tests}
use borrow.Author.Tests.{ltb-true, ltb-false}
use Rattle.fr_base.specs.Number.{number_of}
use Rattle.fr_base.specs.declared.channel.Channel.{Channel}
use Rattle.fr_base.specs.declared.channel.Channel.TheVariants as channel
use Rattle.fr_base.specs.declared.numbers.NumberFault.{NumberFault}
use Rattle.fr_base.specs.declared.numbers.NumberFault.TheVariants as fault
use Rattle.fr_base.specs.declared.reason.Reason.{Reason}
use Rattle.fr_base.specs.declared.reason.Reason.TheVariants as reason
use Rattle.fr_text.specs.Records.{FileRecord}
use Rattle.fr_text.specs.Refusal.{NoneRefused}
use Rattle.fr_text.specs.Fields.{both_of, field_of, natural_of, natural_within, or_else, or_reason}
use Rattle.fr_text.proofs.Lookups.{looked_up-nil, or_else-none}
use Rattle.fr_cluster.specs.Values.{Values}
use Rattle.fr_cluster.specs.Questions.{is_common, node_of, own_key}
use Rattle.fr_cluster.specs.declared.join.Join.{Join}
use Rattle.fr_script.specs.Rows.{arbitrary_row, is_node_alone, is_reference_last, join_in, join_row, joining, row_of_no_deed, script_file_row, script_row_of}
use Rattle.fr_script.specs.Reasons.{has_acted, is_deed_or_join, is_named_in, is_reference, join_by, join_reason, join_said, knows_joining, may_not_join, names, refers, script_reason_after, script_row_reason, share_channel}
use Rattle.fr_script.specs.View.{ScriptView, is_arbitrary, join_of}
use Rattle.fr_script.specs.Files.{ScriptFits}
use Rattle.fr_script.specs.Promises.{JoinsProperly, NodesJoinProperly}
use Rattle.fr_script.specs.declared.rows.JoinRow.{JoinRow}
use Rattle.fr_script.specs.declared.rows.Row.{Row}
use Rattle.fr_script.specs.declared.rows.Row.TheVariants as row
use Rattle.fr_script.proofs.DeedKinds.{of-deeds}
use Rattle.fr_script.proofs.Tables.{has_acted-more, is_named-more, is_reference-more, join_by-more, or-false, or-true}

-- the numbers of a `join` row lie in their ranges
abbrev IsInRange : JoinRow → Type 0
IsInRange j = (j.join.double < 100_000) × (j.join.reference ≤ 64)

abbrev JoinsInRange : Result Row Reason → Type 0
JoinsInRange (Ok (row.Arbitrary node)) = Unit {0}
JoinsInRange (Ok (row.Deed d)) = Unit {0}
JoinsInRange (Ok (row.Join j)) = IsInRange j
JoinsInRange (Err why) = Unit {0}

range-if : (b : Bool) (x y : Result Row Reason) → JoinsInRange x → JoinsInRange y → JoinsInRange (if b then x else y)
range-if true x y f g = f
range-if false x y f g = g

range-read : {A : Type 0} (use_of : A → Result Row Reason) (x : Result A NumberFault) → ((a : A) → JoinsInRange (use_of a)) → JoinsInRange (or_reason use_of x)
range-read use_of (Ok a) each = each a
range-read use_of (Err why) each = tt

-- a number that is read is no greater than its limit
abbrev IsUpTo : ℕ → Result ℕ NumberFault → Type 0
IsUpTo high (Ok n) = n ≤ high
IsUpTo high (Err why) = Unit {0}

up_to-if : (high n : ℕ) (b : Bool) → nat_lt high n ≡ b → (a : Bool) → IsUpTo high (if a || b then Err fault.OutOfRange else Ok n)
up_to-if high n true e true = tt
up_to-if high n true e false = tt
up_to-if high n false e true = tt
up_to-if high n false e false = ltb-false high n e

up_to-within : (low high : ℕ) (o : Option ℤ) → IsUpTo high (natural_within low high o)
up_to-within low high None = tt
up_to-within low high (Some (pos n)) = up_to-if high n (nat_lt high n) refl (nat_lt n low)
up_to-within low high (Some (negsuc n)) = tt

abbrev ReadsInRange : Result JoinRow NumberFault → Type 0
ReadsInRange (Ok j) = IsInRange j
ReadsInRange (Err why) = Unit {0}

range-joining : (d n r : Result ℕ NumberFault) → IsUpTo 99_999 d → IsUpTo 64 r → ReadsInRange (joining (both_of d (both_of n r)))
range-joining (Ok d) (Ok n) (Ok r) f g = (omega arith, g)
range-joining (Ok d) (Ok n) (Err why) f g = tt
range-joining (Ok d) (Err fault.NotDigits) r f g = tt
range-joining (Ok d) (Err fault.OutOfRange) (Ok r) f g = tt
range-joining (Ok d) (Err fault.OutOfRange) (Err why) f g = tt
range-joining (Err fault.NotDigits) n r f g = tt
range-joining (Err fault.OutOfRange) n r f g = range-out (both_of n r)
  where
    range-out : (x : Result (ℕ × ℕ) NumberFault) → ReadsInRange (joining (both_of (Err fault.OutOfRange) x))
    range-out (Ok q) = tt
    range-out (Err why) = tt

range-said : (x : Result JoinRow NumberFault) → ReadsInRange x → JoinsInRange (or_reason (λ said. Ok (row.Join said)) x)
range-said (Ok j) f = f
range-said (Err why) f = tt

range-row : (r : FileRecord) → JoinsInRange (script_row_of r)
unfolding script_row_of
range-row r =
    range-if (length r == 7) (script_file_row r) (Err reason.Shape)
    (range-if (bytes_eq (field_of r 0) (codes "arbitrary")) (arbitrary_row r) _
    (range-if (is_node_alone r) _ (Err reason.Shape) (range-read (λ node. Ok (row.Arbitrary node)) (natural_of 1 64 (field_of r 1)) (λ node. tt)) tt)
    (of-deeds JoinsInRange (λ why. tt) (λ d proper. tt) r (row_of_no_deed r)
    (range-if (bytes_eq (field_of r 0) (codes "join")) (join_row r) (Err reason.UnknownName)
    (range-if (is_reference_last r) _ (Err reason.Shape)
    (range-said (join_in r)
    (range-joining (natural_of 0 99_999 (field_of r 1)) (natural_of 1 64 (field_of r 2)) (natural_of 1 64 (field_of r 3)) (up_to-within 0 99_999 (number_of (field_of r 1)))
    (up_to-within 1 64 (number_of (field_of r 3)))))
    tt)
    tt)))
    tt

-- what holds after these records of a node that they let join
record IsJoining (p : Values) (records : List FileRecord) (node : ℕ) (join : Join) : Type 0 where
  known : IsSome (node_of p node)
  correct : is_named_in node records ≡ false
  known_reference : IsSome (node_of p join.reference)
  correct_reference : is_named_in join.reference records ≡ false
  key : IsSome (own_key p join.reference)
  other : join.reference ≡ node → ⊥
  stays : join_by join.reference records ≡ None
  channel : Channel
  common : is_common p node join.reference channel ≡ true
  range : (join.double < 100_000) × (join.reference ≤ 64)
  acted : has_acted records ≡ true
  referred : is_reference join.reference records ≡ true

abbrev AllJoin : Values → List FileRecord → Type 0
AllJoin p records = (node : ℕ) (join : Join) → join_by node records ≡ Some join → IsJoining p records node join

-- a record more changes nothing of a node that joined before it
later : (p : Values) (before : List FileRecord) (r : FileRecord) (x : Result Row Reason) (node : ℕ) (join : Join) → script_row_of r ≡ x → IsJoining p before node join
    → names node x ≡ false → names join.reference x ≡ false → join_said join.reference x ≡ None → IsJoining p (before ++ r ∷ []) node join
later p before r x node join e h own reference stays = record {
  known = h.known;
  correct = is_named-more node before r x e ∙ (λ i. h.correct i || own i);
  known_reference = h.known_reference;
  correct_reference = is_named-more join.reference before r x e ∙ (λ i. h.correct_reference i || reference i);
  key = h.key;
  other = h.other;
  stays = join_by-more join.reference before r x e ∙ (λ i. or_else (h.stays i) (stays i));
  channel = h.channel;
  common = h.common;
  range = h.range;
  acted = has_acted-more before r x e ∙ (λ i. h.acted i || is_deed_or_join x);
  referred = is_reference-more join.reference before r x e ∙ (λ i. h.referred i || refers join.reference x);
}

-- an `arbitrary` row that is accepted comes before all others
first-of : (unknown keyless acted named : Bool)
    → (if unknown then Some reason.UnknownNode else if keyless || acted then Some reason.Role else if named then Some reason.Repeated else None) ≡ None → acted ≡ false
first-of true keyless acted named h = cc h
first-of false true acted named h = cc h
first-of false false true named h = cc h
first-of false false false named h = refl

-- what holds where a `join` row is accepted
fine-of : (unknown role off : Bool) (o : Option Join)
    → (if unknown then Some reason.UnknownNode else if role then Some reason.Role else if off then Some reason.Link else if is_some o then Some reason.Repeated else None) ≡ None
    → (unknown ≡ false) × (role ≡ false) × (off ≡ false) × (o ≡ None)
fine-of true role off o h = cc h
fine-of false true off o h = cc h
fine-of false false true o h = cc h
fine-of false false false None h = (refl, refl, refl, refl)
fine-of false false false (Some join) h = cc h

not-false : (b : Bool) → not b ≡ false → b ≡ true
not-false true h = refl
not-false false h = cc h

both-true : (a b : Bool) → (a && b) ≡ true → (a ≡ true) × (b ≡ true)
both-true true true h = (refl, refl)
both-true true false h = cc h
both-true false b h = cc h

none-true : (a b c d e f : Bool) → (a || b || c || d || e || f) ≡ false → (a ≡ false) × (b ≡ false) × (c ≡ false) × (d ≡ false) × (e ≡ false) × (f ≡ false)
none-true true b c d e f h = cc h
none-true false true c d e f h = cc h
none-true false false true d e f h = cc h
none-true false false false true e f h = cc h
none-true false false false false true f h = cc h
none-true false false false false false true h = cc h
none-true false false false false false false h = (refl, refl, refl, refl, refl, refl)

some-of : {A : Type 0} (o : Option A) → is_none o ≡ false → IsSome o
some-of None h = cc h
some-of (Some x) h = refl

none-of : {A : Type 0} (o : Option A) → is_some o ≡ false → o ≡ None
none-of None h = refl
none-of (Some x) h = cc h

equal-of : (m n : ℕ) → (m == n) ≡ true → m ≡ n
equal-of m n h = grind (arith, nat_tests)

unequal-of : (m n : ℕ) → (m == n) ≡ false → n ≡ m → ⊥
unequal-of m n h same = absurd (grind (arith, nat_tests))

equal-self : (n : ℕ) → (n == n) ≡ true
equal-self n = grind (arith, nat_tests)

shared : (p : Values) (node reference : ℕ) (a b : Bool) → is_common p node reference channel.A ≡ a → is_common p node reference channel.B ≡ b → (a || b) ≡ true
    → (ch : Channel) × (is_common p node reference ch ≡ true)
shared p node reference true b e f h = (channel.A, e)
shared p node reference false true e f h = (channel.B, f)
shared p node reference false false e f h = cc h

-- a node that may join did not yet
pub joins-first : (p : Values) (records : List FileRecord) (j : JoinRow) → None ≡ join_reason p records j → join_by j.node records ≡ None
joins-first p records j fine = (fine-of (not (knows_joining p j)) (may_not_join p records j) (not (share_channel p j)) (join_by j.node records) (sym fine)).3

-- a node that joins by this record
begins : (p : Values) (before : List FileRecord) (r : FileRecord) (j : JoinRow) → script_row_of r ≡ Ok (row.Join j) → join_reason p before j ≡ None → IsJoining p (before ++ r ∷ []) j.node j.join
begins p before r j e none =
    let x : Result Row Reason = Ok (row.Join j) in
    let fine = fine-of (not (knows_joining p j)) (may_not_join p before j) (not (share_channel p j)) (join_by j.node before) none in
    let known = both-true (is_some (node_of p j.node)) (is_some (node_of p j.join.reference)) (not-false (knows_joining p j) fine.0) in
    let role =
    none-true (j.node == j.join.reference) (is_named_in j.node before) (is_named_in j.join.reference before) (is_none (own_key p j.join.reference)) (is_some (join_by j.join.reference before))
    (is_reference j.node before) fine.1
    in
    let common = shared p j.node j.join.reference _ _ refl refl (not-false (share_channel p j) fine.2) in
    let stays : join_by j.join.reference before ≡ None = none-of (join_by j.join.reference before) role.4 in
    record {
      known = known.0;
      correct = is_named-more j.node before r x e ∙ or-false (is_named_in j.node before) ∙ role.1;
      known_reference = known.1;
      correct_reference = is_named-more j.join.reference before r x e ∙ or-false (is_named_in j.join.reference before) ∙ role.2;
      key = some-of (own_key p j.join.reference) role.3;
      other = unequal-of j.node j.join.reference role.0;
      stays = join_by-more j.join.reference before r x e ∙ (λ i. or_else (stays i) (if role.0 i then Some j.join else None));
      channel = common.0;
      common = common.1;
      range = let P : Result Row Reason → Type 0 = λ y. JoinsInRange y in subst P e (range-row r);
      acted = has_acted-more before r x e ∙ or-true (has_acted before);
      referred = is_reference-more j.join.reference before r x e ∙ ap (λ (b : Bool). is_reference j.join.reference before || b) (equal-self j.join.reference) ∙ or-true (is_reference j.join.reference before);
    }

-- one record more that is accepted
grows : (p : Values) (before : List FileRecord) (r : FileRecord) → AllJoin p before → script_reason_after p before r ≡ None → AllJoin p (before ++ r ∷ [])
grows p before r all fine node join says = by (script_row_of r) refl fine
  where
    -- where the record is of another kind the node joined before it
    joined-before : (x : Result Row Reason) → script_row_of r ≡ x → join_said node x ≡ None → join_by node before ≡ Some join
    joined-before x e none =
        sym (or_else-none (join_by node before)) ∙ ap (λ (o : Option Join). or_else (join_by node before) o) (sym none) ∙ sym (join_by-more node before r x e) ∙ says

    -- a node that joins by this record is no reference of one that joined before
    apart : (j : JoinRow) (b : Bool) → (j.node == join.reference) ≡ b → is_reference j.node before ≡ false → is_reference join.reference before ≡ true → (if b then Some j.join else None) ≡ None
    apart j false e free given = refl
    apart j true e free given = absurd (let same : j.node ≡ join.reference = equal-of j.node join.reference e in cc (sym free ∙ ap (λ (n : ℕ). is_reference n before) same ∙ given))

    role-of : (j : JoinRow) → join_reason p before j ≡ None → is_reference j.node before ≡ false
    role-of j none =
        let fine = fine-of (not (knows_joining p j)) (may_not_join p before j) (not (share_channel p j)) (join_by j.node before) none in
        let role =
        none-true (j.node == j.join.reference) (is_named_in j.node before) (is_named_in j.join.reference before) (is_none (own_key p j.join.reference)) (is_some (join_by j.join.reference before))
        (is_reference j.node before) fine.1
        in
        role.5

    new : (j : JoinRow) (b : Bool) → (j.node == node) ≡ b → (if b then Some j.join else None) ≡ Some join → IsJoining p (before ++ r ∷ []) j.node j.join → IsJoining p (before ++ r ∷ []) node join
    new j false e here h = cc here
    new j true e here h =
        let at : j.node ≡ node = equal-of j.node node e in
        let how : j.join ≡ join = cc here in
        subst (λ (n : ℕ). IsJoining p (before ++ r ∷ []) n join) at (subst (λ (how : Join). IsJoining p (before ++ r ∷ []) j.node how) how h)

    joins : (j : JoinRow) → script_row_of r ≡ Ok (row.Join j) → join_reason p before j ≡ None → (o : Option Join) → join_by node before ≡ o
        → or_else o (join_said node (Ok (row.Join j))) ≡ Some join → IsJoining p (before ++ r ∷ []) node join
    joins j e none None was here = new j (j.node == node) refl here (begins p before r j e none)
    joins j e none (Some other) was here =
        let h = all node join (was ∙ here) in
        later p before r (Ok (row.Join j)) node join e h refl refl (apart j (j.node == join.reference) refl (role-of j none) h.referred)

    by : (x : Result Row Reason) → script_row_of r ≡ x → script_row_reason p before x ≡ None → IsJoining p (before ++ r ∷ []) node join
    by (Err why) e none = cc none
    by (Ok (row.Arbitrary n)) e none =
        let quiet : has_acted before ≡ false = first-of (is_none (node_of p n)) (is_none (own_key p n)) (has_acted before) (is_named_in n before) none in
        let h = all node join (joined-before (Ok (row.Arbitrary n)) e refl) in
        cc (sym quiet ∙ h.acted)
    by (Ok (row.Deed d)) e none = later p before r (Ok (row.Deed d)) node join e (all node join (joined-before (Ok (row.Deed d)) e refl)) refl refl refl
    by (Ok (row.Join j)) e none = joins j e none (join_by node before) refl (sym (join_by-more node before r (Ok (row.Join j)) e) ∙ says)

-- all of them
all-join : (p : Values) (before after : List FileRecord) → NoneRefused (script_reason_after p) (before ++ after) → AllJoin p before → AllJoin p (before ++ after)
all-join p before [] none all = rw (append-nil before) all
all-join p before (r ∷ after) none all =
    let same : (before ++ r ∷ []) ++ after ≡ before ++ r ∷ after = append_assoc before (r ∷ []) after in
    let next : AllJoin p (before ++ r ∷ []) = grows p before r all (none before r after refl) in
    let P : List FileRecord → Type 0 = λ xs. NoneRefused (script_reason_after p) xs in
    let Q : List FileRecord → Type 0 = λ xs. AllJoin p xs in
    subst Q same (all-join p (before ++ r ∷ []) after (subst P (sym same) none) next)

none-join : (p : Values) → AllJoin p []
none-join p node join says = cc (sym (looked_up-nil (λ r. join_said node (script_row_of r))) ∙ says)

-- nodes that join a running cluster have references
pub fits-join : (p : Values) (s : ScriptView) → ScriptFits p s → NodesJoinProperly p s
unfolding is_arbitrary join_of
fits-join p s f node join says = by (nat_lt node 65) refl
  where
    proper : node ≤ 64 → IsJoining p f.records node join → JoinsProperly p s node join
    proper low h = record {
      known = h.known;
      correct = f.stands.nodes node low ∙ h.correct;
      known_reference = h.known_reference;
      correct_reference = f.stands.nodes join.reference h.range.1 ∙ h.correct_reference;
      key = h.key;
      other = h.other;
      stays = f.stands.joins join.reference h.range.1 ∙ h.stays;
      channel = h.channel;
      common = h.common;
      double = h.range.0;
    }

    by : (b : Bool) → nat_lt node 65 ≡ b → JoinsProperly p s node join
    by true e =
        let lt = ltb-true node 65 e in
        let low : node ≤ 64 = omega arith in
        proper low (all-join p [] f.records f.none_refused (none-join p) node join (sym (f.stands.joins node low) ∙ says))
    by false e =
        let high = ltb-false node 65 e in
        let past : slice_index_or s.joins node None ≡ None = get_or_past s.joins node None (omega (arith, f.stands.joins_long)) in
        cc (sym past ∙ says)
