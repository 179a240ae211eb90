-- Tables under construction, against the list of the records so far.
use Rattle.std.proofs.Common.{◌≡◌, ℕ, ◌<◌, ◌≤◌, Bool, true, false, List, [], ◌∷◌, ◌++◌, length, Option, Some, None, Result, Ok, ap, sym, ◌∙◌, subst, refl, arith, inl, inr, ◌⊎◌, replicate, eq-eqb}
use Rattle.std.specs.Prelude.{if◌then◌else◌, ◌==◌, ◌||◌, ◌&&◌, slice_index_or, slice_set, is_none, IfOk, IfSome, OnOk, Err}
use Rattle.std.specs.BTreeMap.{is_at}
use Rattle.std.specs.List.Sorted.{IsStrictlySortedBy}
use Rattle.std.proofs.lemmas.Bool.{cases_eq}
use Rattle.std.proofs.lemmas.Bool.Decides.{nat_tests}
use Rattle.std.proofs.lemmas.List.{get_or-replicate, length-replicate, get_or-set_same, get_or-set_other, length-set}
use Rattle.std.proofs.lemmas.List.Folds.{list_any-append}
use Rattle.fr_base.specs.declared.channel.Channel.{Channel}
use Rattle.fr_base.specs.declared.channel.Channel.TheVariants as channel
use Rattle.fr_base.specs.declared.reason.Reason.{Reason}
use Rattle.fr_base.specs.declared.reason.Reason.TheVariants as reason
use Rattle.fr_text.specs.Records.{FileRecord}
use Rattle.fr_cluster.specs.declared.join.Join.{Join}
use Rattle.fr_text.specs.Fields.{is_channel, or_else, looked_up}
use Rattle.fr_text.proofs.Lookups.{looked_up-more, looked_up-nil, or_else-none}
use Rattle.fr_script.specs.Deeds.{deed_in, passage_cmp, DeedsAscend}
use Rattle.fr_script.specs.Deed.{IsProperDeed}
use Rattle.fr_script.specs.Rows.{script_row_of}
use Rattle.fr_script.specs.Reasons.{names, is_deed_or_join, is_same_passage, deed_said, is_named_in, is_reference, has_acted, deed_by, join_by, join_said, refers}
use Rattle.fr_script.specs.View.{AreDeeds}
use Rattle.fr_script.specs.Draft.{IsScriptDraft, repeated}
use Rattle.fr_script.specs.declared.deeds.Passage.{Passage}
use Rattle.fr_script.specs.declared.deed.Deed.{Deed}
use Rattle.fr_script.specs.declared.rows.JoinRow.{JoinRow}
use Rattle.fr_script.specs.declared.rows.Row.{Row}
use Rattle.fr_script.specs.declared.rows.Row.TheVariants as row
use Rattle.fr_script.specs.declared.draft.Draft.{Draft}

pub or-false : (b : Bool) → (b || false) ≡ b
or-false true = refl
or-false false = refl

pub or-true : (b : Bool) → (b || true) ≡ true
or-true true = refl
or-true false = refl

pub is_named-more : (node : ℕ) (done : List FileRecord) (r : FileRecord) (x : Result Row Reason) → script_row_of r ≡ x
    → is_named_in node (done ++ r ∷ []) ≡ (is_named_in node done || names node x)
is_named-more node done r x e =
    list_any-append (λ q. names node (script_row_of q)) done (r ∷ [])
    ∙ ap (λ (b : Bool). is_named_in node done || b) (or-false (names node (script_row_of r)))
    ∙ ap (λ (y : Result Row Reason). is_named_in node done || names node y) e

pub has_acted-more : (done : List FileRecord) (r : FileRecord) (x : Result Row Reason) → script_row_of r ≡ x
    → has_acted (done ++ r ∷ []) ≡ (has_acted done || is_deed_or_join x)
has_acted-more done r x e =
    list_any-append (λ q. is_deed_or_join (script_row_of q)) done (r ∷ [])
    ∙ ap (λ (b : Bool). has_acted done || b) (or-false (is_deed_or_join (script_row_of r)))
    ∙ ap (λ (y : Result Row Reason). has_acted done || is_deed_or_join y) e

pub deed_by-more : (ch : Channel) (q : Passage) (done : List FileRecord) (r : FileRecord) (x : Result Row Reason) → script_row_of r ≡ x
    → deed_by ch q (done ++ r ∷ []) ≡ or_else (deed_by ch q done) (deed_said ch q x)
deed_by-more ch q done r x e = looked_up-more (deed_said ch q) script_row_of done r x e

pub join_by-more : (node : ℕ) (done : List FileRecord) (r : FileRecord) (x : Result Row Reason) → script_row_of r ≡ x
    → join_by node (done ++ r ∷ []) ≡ or_else (join_by node done) (join_said node x)
join_by-more node done r x e = looked_up-more (join_said node) script_row_of done r x e

pub is_reference-more : (node : ℕ) (done : List FileRecord) (r : FileRecord) (x : Result Row Reason) → script_row_of r ≡ x
    → is_reference node (done ++ r ∷ []) ≡ (is_reference node done || refers node x)
is_reference-more node done r x e =
    list_any-append (λ q. refers node (script_row_of q)) done (r ∷ [])
    ∙ ap (λ (b : Bool). is_reference node done || b) (or-false (refers node (script_row_of r)))
    ∙ ap (λ (y : Result Row Reason). is_reference node done || refers node y) e

pub deeds-nil : AreDeeds []
unfolding DeedsAscend IsStrictlySortedBy deed_in
deeds-nil = record { ascending = tt; proper = λ q. tt }

pub deed_by-nil : (ch : Channel) (q : Passage) → None ≡ deed_by ch q []
unfolding looked_up
deed_by-nil ch q = refl

pub deed_in-nil : (q : Passage) → deed_in [] q ≡ None
unfolding deed_in
deed_in-nil q = refl

pub nothing-named : (k : ℕ) → k ≤ 64 → slice_index_or (replicate 65 false) k false ≡ false
nothing-named k h = get_or-replicate 65 k false false (omega arith)

abbrev none-join : ℕ → List (Option Join)
none-join count = replicate count None

-- a table in which no node joins
pub no-joins : (length (none-join 65) ≡ 65) × ((k : ℕ) → k ≤ 64 → slice_index_or (none-join 65) k None ≡ None)
no-joins = let none : Option Join = None in (length-replicate 65 none, λ k h. get_or-replicate 65 k none none (omega arith))

-- tables of nothing
pub draft-nil : (d : Draft) → d.arbitrary ≡ replicate 65 false → d.joins ≡ replicate 65 None → d.references ≡ replicate 65 false → d.on_a ≡ [] → d.on_b ≡ [] → d.acted ≡ false → IsScriptDraft d []
draft-nil d nodes joins references a b acted = record {
  long = rw nodes (length-replicate 65 false);
  joins_long = rw joins no-joins.0;
  references_long = rw references (length-replicate 65 false);
  nodes = λ k h. rw nodes (nothing-named k h);
  joins = λ k h. rw joins (no-joins.1 k h ∙ sym (looked_up-nil (λ r. join_said k (script_row_of r))));
  references = λ k h. rw references (nothing-named k h);
  acted = acted;
  said_a = λ q. rw a (deed_in-nil q ∙ deed_by-nil channel.A q);
  said_b = λ q. rw b (deed_in-nil q ∙ deed_by-nil channel.B q);
  deeds_a = rw a deeds-nil;
  deeds_b = rw b deeds-nil;
}

-- the mark of a node that is named, and those of the others
pub marked : (marks : List Bool) (node k : ℕ) (named : Bool) → length marks ≡ 65 → node ≤ 64 → slice_index_or marks k false ≡ named
    → slice_index_or (slice_set marks node true) k false ≡ (named || (node == k))
marked marks node k named long low before = by (cases_eq k node)
  where
    room : node < length marks
    room = omega (arith, long)

    by : (k ≡ node) ⊎ (k ≡ node → ⊥) → slice_index_or (slice_set marks node true) k false ≡ (named || (node == k))
    by (inl e) =
        let yes : (node == k) ≡ true = eq-eqb node k (sym e) in
        rw (e, get_or-set_same marks node true false room) (sym (ap (λ (b : Bool). named || b) (rw e at yes) ∙ or-true named))
    by (inr ne) =
        let no : (node == k) ≡ false = grind (arith, nat_tests) in
        get_or-set_other marks node k true false ne ∙ before ∙ sym (ap (λ (b : Bool). named || b) no ∙ or-false named)

-- a node that was not named is taken
pub draft-node : (d : Draft) (done : List FileRecord) (r : FileRecord) (node : ℕ) → IsScriptDraft d done → node ≤ 64 → script_row_of r ≡ Ok (row.Arbitrary node)
    → IsScriptDraft (record d { arbitrary = slice_set d.arbitrary node true }) (done ++ r ∷ [])
draft-node d done r node h low e = record {
  long = length-set d.arbitrary node true ∙ h.long;
  joins_long = h.joins_long;
  references_long = h.references_long;
  nodes = λ k below. marked d.arbitrary node k _ h.long low (h.nodes k below) ∙ sym (is_named-more k done r _ e);
  joins = λ k below. h.joins k below ∙ sym (join_by-more k done r _ e ∙ or_else-none _);
  references = λ k below. h.references k below ∙ sym (is_reference-more k done r _ e ∙ or-false (is_reference k done));
  acted = h.acted ∙ sym (has_acted-more done r _ e ∙ or-false (has_acted done));
  said_a = λ q. h.said_a q ∙ sym (deed_by-more channel.A q done r _ e ∙ or_else-none _);
  said_b = λ q. h.said_b q ∙ sym (deed_by-more channel.B q done r _ e ∙ or_else-none _);
  deeds_a = h.deeds_a;
  deeds_b = h.deeds_b;
}

-- how a node joins that did not yet, and how the others do
noted : (joins : List (Option Join)) (node k : ℕ) (join : Join) (said : ℕ → Option Join) → length joins ≡ 65 → node ≤ 64 → said node ≡ None → slice_index_or joins k None ≡ said k
    → slice_index_or (slice_set joins node (Some join)) k None ≡ or_else (said k) (if node == k then Some join else None)
noted joins node k join said long low none before = by (cases_eq k node)
  where
    room : node < length joins
    room = omega (arith, long)

    by : (k ≡ node) ⊎ (k ≡ node → ⊥) → slice_index_or (slice_set joins node (Some join)) k None ≡ or_else (said k) (if node == k then Some join else None)
    by (inl e) =
        let yes : (node == k) ≡ true = eq-eqb node k (sym e) in
        let other : or_else (said k) (if node == k then Some join else None) ≡ Some join = rw (ap said e ∙ none, yes) refl in
        let own : slice_index_or (slice_set joins node (Some join)) k None ≡ Some join = rw e (get_or-set_same joins node (Some join) None room) in
        own ∙ sym other
    by (inr ne) =
        let no : (node == k) ≡ false = grind (arith, nat_tests) in
        get_or-set_other joins node k (Some join) None ne ∙ before ∙ sym (ap (λ (b : Bool). or_else (said k) (if b then Some join else None)) no ∙ or_else-none (said k))

-- a node joins that did not yet
pub draft-join : (d : Draft) (done : List FileRecord) (r : FileRecord) (j : JoinRow) → IsScriptDraft d done → j.node ≤ 64 → j.join.reference ≤ 64 → script_row_of r ≡ Ok (row.Join j)
    → join_by j.node done ≡ None
    → IsScriptDraft (record d { joins = slice_set d.joins j.node (Some j.join); references = slice_set d.references j.join.reference true; acted = true }) (done ++ r ∷ [])
draft-join d done r j h low below e none = record {
  long = h.long;
  joins_long = length-set d.joins j.node (Some j.join) ∙ h.joins_long;
  references_long = length-set d.references j.join.reference true ∙ h.references_long;
  nodes = λ k small. h.nodes k small ∙ sym (is_named-more k done r _ e ∙ or-false (is_named_in k done));
  joins = λ k small. noted d.joins j.node k j.join (λ n. join_by n done) h.joins_long low none (h.joins k small) ∙ sym (join_by-more k done r _ e);
  references = λ k small. marked d.references j.join.reference k _ h.references_long below (h.references k small) ∙ sym (is_reference-more k done r _ e);
  acted = sym (has_acted-more done r _ e ∙ or-true (has_acted done));
  said_a = λ q. h.said_a q ∙ sym (deed_by-more channel.A q done r _ e ∙ or_else-none _);
  said_b = λ q. h.said_b q ∙ sym (deed_by-more channel.B q done r _ e ∙ or_else-none _);
  deeds_a = h.deeds_a;
  deeds_b = h.deeds_b;
}

-- passages compare alike exactly where their parts are the same
pub is_same-at : (a b : Passage) → is_same_passage a b ≡ is_at (passage_cmp a) b
is_same-at a b = grind (arith, nat_tests)

equal-sender : (a b : Passage) → is_same_passage a b ≡ true → a.sender ≡ b.sender
equal-sender a b h = grind (arith, nat_tests)

equal-receiver : (a b : Passage) → is_same_passage a b ≡ true → a.receiver ≡ b.receiver
equal-receiver a b h = grind (arith, nat_tests)

equal-cycle : (a b : Passage) → is_same_passage a b ≡ true → a.cycle ≡ b.cycle
equal-cycle a b h = grind (arith, nat_tests)

pub same-passage : (a b : Passage) → is_at (passage_cmp a) b ≡ true → a ≡ b
same-passage a b h =
    let e = is_same-at a b ∙ h in
    let sender = equal-sender a b e in
    let receiver = equal-receiver a b e in
    let cycle = equal-cycle a b e in
    λ i. record { sender = sender i; receiver = receiver i; cycle = cycle i }

-- a row that says what becomes of the frames of a passage
abbrev pub deed_line : Channel → Passage → Deed → Result Row Reason
deed_line ch passage what = Ok (row.Deed (record { passage = passage; channel = Some ch; deed = Some what }))

-- what a table with one deed more has, and what the records with one row more say
pub taken : (ch : Channel) (done : List FileRecord) (r : FileRecord) (old new : List (Passage × Deed)) (passage : Passage) (what : Deed)
    → script_row_of r ≡ deed_line ch passage what → is_channel ch (Some ch) ≡ true
    → ((q : Passage) → deed_in old q ≡ deed_by ch q done) → deed_by ch passage done ≡ None
    → ((q : Passage) → deed_in new q ≡ (if is_at (passage_cmp passage) q then Some what else deed_in old q))
    → (q : Passage) → deed_in new q ≡ deed_by ch q (done ++ r ∷ [])
taken ch done r old new passage what e said before empty there q =
    there q ∙ by (is_at (passage_cmp passage) q) refl ∙ sym (deed_by-more ch q done r _ e)
  where
    own : deed_said ch q (deed_line ch passage what) ≡ (if is_at (passage_cmp passage) q then Some what else None)
    own =
        ap (λ (b : Bool). if (b && is_same_passage passage q) then Some what else None) said
        ∙ ap (λ (b : Bool). if b then Some what else None) (is_same-at passage q)

    by : (b : Bool) → is_at (passage_cmp passage) q ≡ b
        → (if is_at (passage_cmp passage) q then Some what else deed_in old q) ≡ or_else (deed_by ch q done) (deed_said ch q (deed_line ch passage what))
    by true same =
        let none : deed_by ch q done ≡ None = ap (λ (x : Passage). deed_by ch x done) (sym (same-passage passage q same)) ∙ empty in
        let mine : deed_said ch q (deed_line ch passage what) ≡ Some what = own ∙ ap (λ (b : Bool). if b then Some what else None) same in
        ap (λ (b : Bool). if b then Some what else deed_in old q) same
        ∙ sym (ap (λ (o : Option Deed). or_else o (deed_said ch q (deed_line ch passage what))) none ∙ mine)
    by false other =
        let none : deed_said ch q (deed_line ch passage what) ≡ None = own ∙ ap (λ (b : Bool). if b then Some what else None) other in
        ap (λ (b : Bool). if b then Some what else deed_in old q) other ∙ before q
        ∙ sym (ap (λ (o : Option Deed). or_else (deed_by ch q done) o) none ∙ or_else-none (deed_by ch q done))

-- deeds of one channel say nothing of the other
pub kept : (ch on : Channel) (done : List FileRecord) (r : FileRecord) (old : List (Passage × Deed)) (passage : Passage) (what : Deed)
    → script_row_of r ≡ deed_line on passage what → is_channel ch (Some on) ≡ false
    → ((q : Passage) → deed_in old q ≡ deed_by ch q done) → (q : Passage) → deed_in old q ≡ deed_by ch q (done ++ r ∷ [])
kept ch on done r old passage what e off before q =
    let none : deed_said ch q (deed_line on passage what) ≡ None = ap (λ (b : Bool). if (b && is_same_passage passage q) then Some what else None) off in
    before q ∙ sym (deed_by-more ch q done r _ e ∙ ap (λ (o : Option Deed). or_else (deed_by ch q done) o) none ∙ or_else-none (deed_by ch q done))

-- deeds stay proper with one more
pub deeds-put : (old new : List (Passage × Deed)) (passage : Passage) (what : Deed) → AreDeeds old → IsProperDeed what
    → ((q : Passage) → deed_in new q ≡ (if is_at (passage_cmp passage) q then Some what else deed_in old q)) → (DeedsAscend old → DeedsAscend new) → AreDeeds new
deeds-put old new passage what h proper there ordered = record {
  ascending = ordered h.ascending;
  proper = λ q. rw (there q) (by q (is_at (passage_cmp passage) q));
}
  where
    by : (q : Passage) (b : Bool) → IfSome (if b then Some what else deed_in old q) IsProperDeed
    by q true = proper
    by q false = h.proper q

-- a deed on channel A is taken, and one on channel B
pub draft-deed_a : (d : Draft) (new : List (Passage × Deed)) (done : List FileRecord) (r : FileRecord) (passage : Passage) (what : Deed) → IsScriptDraft d done
    → script_row_of r ≡ deed_line channel.A passage what → deed_by channel.A passage done ≡ None → IsProperDeed what
    → ((q : Passage) → deed_in new q ≡ (if is_at (passage_cmp passage) q then Some what else deed_in d.on_a q)) → (DeedsAscend d.on_a → DeedsAscend new)
    → IsScriptDraft (record d { on_a = new; acted = true }) (done ++ r ∷ [])
draft-deed_a d new done r passage what h e empty proper there ordered = record {
  long = h.long;
  joins_long = h.joins_long;
  references_long = h.references_long;
  nodes = λ k below. h.nodes k below ∙ sym (is_named-more k done r _ e ∙ or-false (is_named_in k done));
  joins = λ k below. h.joins k below ∙ sym (join_by-more k done r _ e ∙ or_else-none _);
  references = λ k below. h.references k below ∙ sym (is_reference-more k done r _ e ∙ or-false (is_reference k done));
  acted = sym (has_acted-more done r _ e ∙ or-true (has_acted done));
  said_a = taken channel.A done r d.on_a new passage what e refl h.said_a empty there;
  said_b = kept channel.B channel.A done r d.on_b passage what e refl h.said_b;
  deeds_a = deeds-put d.on_a new passage what h.deeds_a proper there ordered;
  deeds_b = h.deeds_b;
}

pub draft-deed_b : (d : Draft) (new : List (Passage × Deed)) (done : List FileRecord) (r : FileRecord) (passage : Passage) (what : Deed) → IsScriptDraft d done
    → script_row_of r ≡ deed_line channel.B passage what → deed_by channel.B passage done ≡ None → IsProperDeed what
    → ((q : Passage) → deed_in new q ≡ (if is_at (passage_cmp passage) q then Some what else deed_in d.on_b q)) → (DeedsAscend d.on_b → DeedsAscend new)
    → IsScriptDraft (record d { on_b = new; acted = true }) (done ++ r ∷ [])
draft-deed_b d new done r passage what h e empty proper there ordered = record {
  long = h.long;
  joins_long = h.joins_long;
  references_long = h.references_long;
  nodes = λ k below. h.nodes k below ∙ sym (is_named-more k done r _ e ∙ or-false (is_named_in k done));
  joins = λ k below. h.joins k below ∙ sym (join_by-more k done r _ e ∙ or_else-none _);
  references = λ k below. h.references k below ∙ sym (is_reference-more k done r _ e ∙ or-false (is_reference k done));
  acted = sym (has_acted-more done r _ e ∙ or-true (has_acted done));
  said_a = kept channel.A channel.B done r d.on_a passage what e refl h.said_a;
  said_b = taken channel.B done r d.on_b new passage what e refl h.said_b empty there;
  deeds_a = h.deeds_a;
  deeds_b = deeds-put d.on_b new passage what h.deeds_b proper there ordered;
}

-- what two facts of a call that went well give
pub on_ok : {A E P Q R : Type 0} (r : Result A E) → (P → Q → R) → OnOk r P → OnOk r Q → OnOk r R
on_ok (Ok x) f p q = f p q
on_ok (Err e) f p q = tt

-- whether a passage is free in its table is what the records say
pub free_by : {E : Type 0} (r : Result Bool E) (here said : Option Deed) → here ≡ said → IfOk r (λ free. free ≡ is_none here) → IfOk r (λ free. free ≡ is_none said)
free_by r here said same free = subst (λ (d : Option Deed). IfOk r (λ free. free ≡ is_none d)) same free

-- a deed is refused where its passage is not free
pub repeated_by : (free : Bool) (there : Option Deed) → free ≡ is_none there → (if free then None else Some reason.Repeated) ≡ repeated there
repeated_by free None is = ap (λ (b : Bool). if b then None else Some reason.Repeated) is
repeated_by free (Some deed) is = ap (λ (b : Bool). if b then None else Some reason.Repeated) is

-- and where it is not refused the passage is free
pub free_where : (there : Option Deed) → repeated there ≡ None → there ≡ None
free_where None is = refl
free_where (Some deed) is = absurd cc
