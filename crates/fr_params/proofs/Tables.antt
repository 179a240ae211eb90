-- Tables under construction, against the list of the records so far.
use Rattle.std.proofs.Common.{◌≡◌, ℕ, ℤ, ◌<◌, Bool, true, false, List, [], ◌∷◌, ◌++◌, length, Option, Some, None, Result, Ok, ap, sym, ◌∙◌, refl, arith, inl, inr, ◌⊎◌, replicate, eq-eqb, subst}
use Rattle.std.specs.Prelude.{if◌then◌else◌, ◌==◌, IsSome, slice_index_or, slice_set, is_some, ◌≤◌}
use Rattle.std.proofs.lemmas.Bool.{cases_eq}
use Rattle.std.proofs.lemmas.Bool.Decides.{nat_tests}
use Rattle.std.specs.Prelude.{nat_lt as ltb}
use borrow.Author.Tests.{ltb-true, ltb-false}
use Rattle.std.proofs.lemmas.List.{get_or-replicate, length-replicate, get_or-set_same, get_or-set_other, length-set, get_or_default, get_or_past}
use Rattle.fr_base.specs.declared.reason.Reason.{Reason}
use Rattle.fr_text.specs.Records.{FileRecord}
use Rattle.fr_params.specs.Names.{place}
use Rattle.fr_params.specs.Rows.{param_row_of, param_file_row}
use Rattle.fr_cluster.specs.Ranges.{InRange, IsProperNode, IsProperSlot, has_turn, is_keyless_starter}
use Rattle.fr_text.specs.Fields.{or_else}
use Rattle.fr_params.specs.Reasons.{value_said, node_said, slot_said, value_at, node_at, slot_at}
use Rattle.fr_params.specs.Draft.{entry, Shows, IsNodeAt, IsSlotAt, AreTables}
use Rattle.fr_cluster.specs.declared.names.ParamName.{ParamName}
use Rattle.fr_cluster.specs.declared.nodes.NodeSpec.{NodeSpec}
use Rattle.fr_cluster.specs.declared.nodes.SlotSpec.{SlotSpec}
use Rattle.fr_params.specs.declared.rows.Row.{Row}
use Rattle.fr_params.specs.declared.rows.Row.TheVariants as row
use Rattle.fr_params.specs.declared.draft.Tables.{Tables}
use Rattle.fr_params.specs.declared.names.Version.{Version}
use Rattle.fr_text.proofs.Lookups.{looked_up-more, looked_up-nil, or_else-none}
use Rattle.fr_params.proofs.Places.{place-one, place-lt}

-- what a record of five fields says
pub row_of-five : (version : Version) (fields : FileRecord) → length fields ≡ 5
    → param_row_of version fields ≡ param_file_row version (slice_index_or fields 0 []) (slice_index_or fields 1 []) (slice_index_or fields 2 []) (slice_index_or fields 3 []) (slice_index_or fields 4 [])
unfolding param_row_of
row_of-five version fields e = rw e refl

-- the same, of fields that are equal
pub kind_row-same : (version : Version) (k a b c d k2 a2 b2 c2 d2 : List ℕ) → k ≡ k2 → a ≡ a2 → b ≡ b2 → c ≡ c2 → d ≡ d2
    → param_file_row version k a b c d ≡ param_file_row version k2 a2 b2 c2 d2
kind_row-same version k a b c d k2 a2 b2 c2 d2 e0 e1 e2 e3 e4 =
    ap (λ (x : List ℕ). param_file_row version x a b c d) e0
    ∙ ap (λ (x : List ℕ). param_file_row version k2 x b c d) e1
    ∙ ap (λ (x : List ℕ). param_file_row version k2 a2 x c d) e2
    ∙ ap (λ (x : List ℕ). param_file_row version k2 a2 b2 x d) e3
    ∙ ap (λ (x : List ℕ). param_file_row version k2 a2 b2 c2 x) e4

value_at-more : (version : Version) (k : ℕ) (done : List FileRecord) (r : FileRecord) (x : Result Row Reason) → param_row_of version r ≡ x
    → value_at version k (done ++ r ∷ []) ≡ or_else (value_at version k done) (value_said k x)
value_at-more version k done r x e = looked_up-more (value_said k) (param_row_of version) done r x e

node_at-more : (version : Version) (k : ℕ) (done : List FileRecord) (r : FileRecord) (x : Result Row Reason) → param_row_of version r ≡ x
    → node_at version k (done ++ r ∷ []) ≡ or_else (node_at version k done) (node_said k x)
node_at-more version k done r x e = looked_up-more (node_said k) (param_row_of version) done r x e

slot_at-more : (version : Version) (k : ℕ) (done : List FileRecord) (r : FileRecord) (x : Result Row Reason) → param_row_of version r ≡ x
    → slot_at version k (done ++ r ∷ []) ≡ or_else (slot_at version k done) (slot_said k x)
slot_at-more version k done r x e = looked_up-more (slot_said k) (param_row_of version) done r x e

pick-same : {A : Type 0} (p j : ℕ) (x y : A) → p ≡ j → (if p == j then x else y) ≡ x
pick-same p j x y e = rw (eq-eqb p j e) refl

pick-other : {A : Type 0} (p j : ℕ) (x y : A) → (p ≡ j → ⊥) → (if p == j then x else y) ≡ y
pick-other p j x y ne = let no : (p == j) ≡ false = grind (arith, nat_tests) in rw no refl

-- an empty table shows what no record says
pub shows-nil : {A : Type 0} (size : ℕ) (said : ℕ → List FileRecord → Option A) → ((k : ℕ) → said k [] ≡ None) → Shows (replicate size None) size said []
shows-nil size said none = record { long = length-replicate size None; same = λ k lt. get_or-replicate size k None None lt ∙ sym (none k) }

-- an entry that was filled, and the others
pub entry-set : {A : Type 0} (t : List (Option A)) (p j : ℕ) (x : A) → p < length t → j ≡ p → entry (slice_set t p (Some x)) j ≡ Some x
entry-set t p j x lt e = rw e (get_or-set_same t p (Some x) None lt)

pub entry-others : {A : Type 0} (t : List (Option A)) (p j : ℕ) (x : A) → (j ≡ p → ⊥) → entry (slice_set t p (Some x)) j ≡ entry t j
entry-others t p j x ne = get_or-set_other t p j (Some x) None ne

-- a record that says what stood empty fills it
shows-taken : {A : Type 0} (t : List (Option A)) (size : ℕ) (said : ℕ → List FileRecord → Option A) (done : List FileRecord) (r : FileRecord) (p : ℕ) (x : A)
    → Shows t size said done → p < size → entry t p ≡ None
    → ((j : ℕ) → said j (done ++ r ∷ []) ≡ or_else (said j done) (if p == j then Some x else None))
    → Shows (slice_set t p (Some x)) size said (done ++ r ∷ [])
shows-taken {A} t size said done r p x h lt empty more = record {
  long = length-set t p (Some x) ∙ h.long;
  same = λ j below. by j below (cases_eq j p);
}
  where
    by : (j : ℕ) → j < size → (j ≡ p) ⊎ (j ≡ p → ⊥) → entry (slice_set t p (Some x)) j ≡ said j (done ++ r ∷ [])
    by j below (inl e) =
        let room : p < length t = omega (arith, h.long) in
        let none : said j done ≡ None = sym (h.same j below) ∙ ap (λ (k : ℕ). entry t k) e ∙ empty in
        entry-set t p j x room e ∙ sym (more j ∙ rw (none, pick-same p j (Some x) None (sym e)) refl)
    by j below (inr ne) =
        entry-others t p j x ne ∙ h.same j below ∙ sym (more j ∙ rw (pick-other p j (Some x) None (λ e. ne (sym e))) (or_else-none (said j done)))

-- a record that says nothing of this kind changes nothing
shows-kept : {A : Type 0} (t : List (Option A)) (size : ℕ) (said : ℕ → List FileRecord → Option A) (done : List FileRecord) (r : FileRecord)
    → Shows t size said done → ((j : ℕ) → said j (done ++ r ∷ []) ≡ or_else (said j done) None) → Shows t size said (done ++ r ∷ [])
shows-kept t size said done r h more = record {
  long = h.long;
  same = λ j below. h.same j below ∙ sym (more j ∙ or_else-none (said j done));
}

-- an option is not empty and full
none-some : {A P : Type 0} (o : Option A) (x : A) → o ≡ None → o ≡ Some x → P
none-some o x none some = let both : ◌≡◌ {A = Option _} None (Some x) = sym none ∙ some in cc

-- no table has anything at first
nothing : {A P : Type 0} (size k : ℕ) (x : A) → entry (replicate size None) k ≡ Some x → P
nothing {A} {P} size k x e = by (ltb k size) refl
  where
    by : (b : Bool) → ltb k size ≡ b → P
    by true h = none-some (entry (replicate size None) k) x (get_or-replicate size k None None (ltb-true k size h)) e
    by false h =
        let long : length (replicate size None) ≤ k = omega (arith, length-replicate {A = Option A} size None, ltb-false k size h) in
        none-some (entry (replicate size None) k) x (get_or_past (replicate size None) k None long) e

-- tables of nothing
pub tables-nil : (version : Version) (d : Tables) → d.values ≡ replicate 21 None → d.nodes ≡ replicate 65 None → d.slots ≡ replicate 1024 None → AreTables version d []
tables-nil version d v n s = record {
  values = rw v (shows-nil 21 (value_at version) (λ k. looked_up-nil (λ q. value_said k (param_row_of version q))));
  nodes = rw n (shows-nil 65 (node_at version) (λ k. looked_up-nil (λ q. node_said k (param_row_of version q))));
  slots = rw s (shows-nil 1024 (slot_at version) (λ k. looked_up-nil (λ q. slot_said k (param_row_of version q))));
  ranged = λ m x e. nothing 21 (place m) x (rw v at e);
  numbered = λ k x e. nothing 65 k x (rw n at e);
  taken = λ k x e. nothing 1024 k x (rw s at e);
}

-- tables of no record are the same for both versions
pub tables-any : (version other : Version) (d : Tables) → AreTables version d [] → AreTables other d []
tables-any version other d h = record {
  values = record { long = h.values.long; same = λ k lt. h.values.same k lt ∙ looked_up-nil (λ q. value_said k (param_row_of version q)) ∙ sym (looked_up-nil (λ q. value_said k (param_row_of other q))) };
  nodes = record { long = h.nodes.long; same = λ k lt. h.nodes.same k lt ∙ looked_up-nil (λ q. node_said k (param_row_of version q)) ∙ sym (looked_up-nil (λ q. node_said k (param_row_of other q))) };
  slots = record { long = h.slots.long; same = λ k lt. h.slots.same k lt ∙ looked_up-nil (λ q. slot_said k (param_row_of version q)) ∙ sym (looked_up-nil (λ q. slot_said k (param_row_of other q))) };
  ranged = h.ranged;
  numbered = h.numbered;
  taken = h.taken;
}

-- a record that says the version changes no table
pub tables-version : (version : Version) (d : Tables) (done : List FileRecord) (r : FileRecord) → AreTables version d done → param_row_of version r ≡ Ok row.Version
    → AreTables version d (done ++ r ∷ [])
tables-version version d done r h e = record {
  values = shows-kept d.values 21 (value_at version) done r h.values (λ j. value_at-more version j done r _ e);
  nodes = shows-kept d.nodes 65 (node_at version) done r h.nodes (λ j. node_at-more version j done r _ e);
  slots = shows-kept d.slots 1024 (slot_at version) done r h.slots (λ j. slot_at-more version j done r _ e);
  ranged = h.ranged;
  numbered = h.numbered;
  taken = h.taken;
}

-- what a test of an entry says
none-of : {A : Type 0} (o : Option A) → is_some o ≡ false → o ≡ None
none-of None e = refl
none-of (Some x) e = cc e

pub entry-none : {A : Type 0} (t : List (Option A)) (k : ℕ) (d : Option A) → k < length t → is_some (slice_index_or t k d) ≡ false → entry t k ≡ None
entry-none t k d lt e = get_or_default t k None d lt ∙ none-of (slice_index_or t k d) e

pub entry-some : {A : Type 0} (t : List (Option A)) (k : ℕ) (d : Option A) → k < length t → is_some (slice_index_or t k d) ≡ true → IsSome (entry t k)
entry-some t k d lt e = rw (get_or_default t k None d lt) e

some-same : {A : Type 0} (x y : A) → Some x ≡ Some y → x ≡ y
some-same x y e = cc e

-- a value that was not there is taken
pub tables-value : (version : Version) (d : Tables) (done : List FileRecord) (r : FileRecord) (n : ParamName) (v : ℤ) → AreTables version d done → param_row_of version r ≡ Ok (row.Param n v) → InRange n v
    → entry d.values (place n) ≡ None → AreTables version (record d { values = slice_set d.values (place n) (Some v) }) (done ++ r ∷ [])
tables-value version d done r n v h e fits empty = record {
  values = shows-taken d.values 21 (value_at version) done r (place n) v h.values (place-lt n) empty (λ j. value_at-more version j done r _ e);
  nodes = shows-kept d.nodes 65 (node_at version) done r h.nodes (λ j. node_at-more version j done r _ e);
  slots = shows-kept d.slots 1024 (slot_at version) done r h.slots (λ j. slot_at-more version j done r _ e);
  ranged = λ m w there. by m w there (cases_eq (place m) (place n));
  numbered = h.numbered;
  taken = h.taken;
}
  where
    by : (m : ParamName) (w : ℤ) → entry (slice_set d.values (place n) (Some v)) (place m) ≡ Some w → (place m ≡ place n) ⊎ (place m ≡ place n → ⊥) → InRange m w
    by m w there (inl same) =
        let few = place-lt n in
        let room : place n < length d.values = omega (arith, h.values.long) in
        let value : v ≡ w = some-same v w (sym (entry-set d.values (place n) (place m) v room same) ∙ there) in
        let who : n ≡ m = sym (place-one m n same) in
        rw (← who, ← value) fits
    by m w there (inr ne) = h.ranged m w (sym (entry-others d.values (place n) (place m) v ne) ∙ there)

-- what was there is still there
is_some-set : {A : Type 0} (t : List (Option A)) (p k : ℕ) (x : A) → p < length t → IsSome (entry t k) → IsSome (entry (slice_set t p (Some x)) k)
is_some-set t p k x lt some = by (cases_eq k p)
  where
    by : (k ≡ p) ⊎ (k ≡ p → ⊥) → IsSome (entry (slice_set t p (Some x)) k)
    by (inl e) = rw (entry-set t p k x lt e) refl
    by (inr ne) = rw (entry-others t p k x ne) some

-- a node that was not there is taken
pub tables-node : (version : Version) (d : Tables) (done : List FileRecord) (r : FileRecord) (node : NodeSpec) → AreTables version d done → param_row_of version r ≡ Ok (row.Node node) → IsProperNode node
    → is_keyless_starter node ≡ false → entry d.nodes node.id ≡ None → AreTables version (record d { nodes = slice_set d.nodes node.id (Some node) }) (done ++ r ∷ [])
tables-node version d done r node h e proper starts empty = record {
  values = shows-kept d.values 21 (value_at version) done r h.values (λ j. value_at-more version j done r _ e);
  nodes = shows-taken d.nodes 65 (node_at version) done r node.id node h.nodes (omega (arith, proper.to)) empty (λ j. node_at-more version j done r _ e);
  slots = shows-kept d.slots 1024 (slot_at version) done r h.slots (λ j. slot_at-more version j done r _ e);
  ranged = h.ranged;
  numbered = λ k other there. by k other there (cases_eq k node.id);
  taken = λ k slot there.
      let old = h.taken k slot there in
      record { at = old.at; proper = old.proper; turn = old.turn; known = is_some-set d.nodes node.id slot.node node room old.known };
}
  where
    room : node.id < length d.nodes
    room = omega (arith, h.nodes.long, proper.to)

    by : (k : ℕ) (other : NodeSpec) → entry (slice_set d.nodes node.id (Some node)) k ≡ Some other → (k ≡ node.id) ⊎ (k ≡ node.id → ⊥) → IsNodeAt k other
    by k other there (inl same) =
        let who : node ≡ other = some-same node other (sym (entry-set d.nodes node.id k node room same) ∙ there) in
        let here : IsNodeAt k node = record { at = sym same; proper = proper; starts = starts } in
        let P : NodeSpec → Type 0 = λ x. IsNodeAt k x in subst P who here
    by k other there (inr ne) = h.numbered k other (sym (entry-others d.nodes node.id k node ne) ∙ there)

-- a slot that was not there is taken
pub tables-slot : (version : Version) (d : Tables) (done : List FileRecord) (r : FileRecord) (slot : SlotSpec) → AreTables version d done → param_row_of version r ≡ Ok (row.Slot slot) → IsProperSlot slot
    → has_turn slot ≡ true → IsSome (entry d.nodes slot.node) → entry d.slots slot.slot ≡ None
    → AreTables version (record d { slots = slice_set d.slots slot.slot (Some slot) }) (done ++ r ∷ [])
tables-slot version d done r slot h e proper turn known empty = record {
  values = shows-kept d.values 21 (value_at version) done r h.values (λ j. value_at-more version j done r _ e);
  nodes = shows-kept d.nodes 65 (node_at version) done r h.nodes (λ j. node_at-more version j done r _ e);
  slots = shows-taken d.slots 1024 (slot_at version) done r slot.slot slot h.slots (omega (arith, proper.to)) empty (λ j. slot_at-more version j done r _ e);
  ranged = h.ranged;
  numbered = h.numbered;
  taken = λ k other there. by k other there (cases_eq k slot.slot);
}
  where
    room : slot.slot < length d.slots
    room = omega (arith, h.slots.long, proper.to)

    by : (k : ℕ) (other : SlotSpec) → entry (slice_set d.slots slot.slot (Some slot)) k ≡ Some other → (k ≡ slot.slot) ⊎ (k ≡ slot.slot → ⊥) → IsSlotAt d.nodes k other
    by k other there (inl same) =
        let who : slot ≡ other = some-same slot other (sym (entry-set d.slots slot.slot k slot room same) ∙ there) in
        let here : IsSlotAt d.nodes k slot = record { at = sym same; proper = proper; turn = turn; known = known } in
        let P : SlotSpec → Type 0 = λ x. IsSlotAt d.nodes k x in subst P who here
    by k other there (inr ne) = h.taken k other (sym (entry-others d.slots slot.slot k slot ne) ∙ there)
