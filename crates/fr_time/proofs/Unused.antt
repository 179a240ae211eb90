-- In a slot that is neither a key slot nor a further slot no node sends, and in each other slot one does.
use Rattle.std.proofs.Common.{◌≡◌, ◌≢◌, ◌↔◌, ℕ, List, [], ◌∷◌, Bool, false, Option, Some, None, inl, inr, refl, sym, ◌∙◌, arith}
use Rattle.std.specs.Prelude.{All, find, IsNone, ◌==◌}
use Rattle.std.specs.Option.{option_map, option_or}
use Rattle.std.proofs.lemmas.Bool.{cases_Bool}
use Rattle.std.proofs.lemmas.List.Elements.{All-cons, All-head, All-nil, All-tail}
use Rattle.fr_cluster.specs.Values.{Values}
use Rattle.fr_cluster.specs.declared.nodes.NodeSpec.{NodeSpec}
use Rattle.fr_cluster.specs.declared.nodes.SlotSpec.{SlotSpec}
use Rattle.fr_cluster.specs.Searches.{is_key}
use Rattle.fr_time.specs.Senders.{further_sending, further_slot_of, key_node_of, sender_of, sync_sending, IsUnused}

-- nothing is found exactly where no element passes
none_passes : {X : Type 0} (test : X → Bool) (P : X → Type 0) → ((x : X) → test x ≡ false → P x) → (xs : List X) → find test xs ≡ None → All P xs
none_passes test P fails [] none = All-nil P
none_passes test P fails (x ∷ xs) none = elim (cases_Bool (test x)) [
  | inl passes ↦ let found : find test (x ∷ xs) ≡ Some x = rw passes refl in absurd (cc)
  | inr not ↦ let rest : find test (x ∷ xs) ≡ find test xs = rw not refl in All-cons P x xs (fails x not) (none_passes test P fails xs (sym rest ∙ none))
]

pub none_found : {X : Type 0} (test : X → Bool) (P : X → Type 0) → ((x : X) → P x → test x ≡ false) → (xs : List X) → All P xs → find test xs ≡ None
none_found test P fails [] none = refl
none_found test P fails (x ∷ xs) none =
    let front : test x ≡ false = fails x (All-head P x xs none) in
    let rest : find test (x ∷ xs) ≡ find test xs = rw front refl in
    rest ∙ none_found test P fails xs (All-tail P x xs none)

is_key-false : (key : Option ℕ) (slot : ℕ) → is_key key slot ≡ false → key ≢ Some slot
is_key-false None slot fails same = absurd (cc)
is_key-false (Some key) slot fails same = grind arith

pub is_key-other : (key : Option ℕ) (slot : ℕ) → key ≢ Some slot → is_key key slot ≡ false
is_key-other None slot other = refl
is_key-other (Some key) slot other = grind arith

neither : {A B C : Type 0} (f : A → C) (g : B → C) (a : Option A) (b : Option B) → IsNone (option_or (option_map f a) (option_map g b)) → (a ≡ None) × (b ≡ None)
neither f g None None none = (refl, refl)
neither f g None (Some b) none = absurd (cc)
neither f g (Some a) b none = absurd (cc)

both_none : {A B C : Type 0} (f : A → C) (g : B → C) (a : Option A) (b : Option B) → a ≡ None → b ≡ None → IsNone (option_or (option_map f a) (option_map g b))
both_none f g a b first second = rw (first, second) refl

unused : (p : Values) (slot cycle : ℕ) → IsNone (sender_of p slot cycle) → IsUnused p slot
unused p slot cycle none =
    let none_of = neither sync_sending (further_sending cycle) (key_node_of p slot) (further_slot_of p slot) none in
    record {
      no_key = none_passes (λ (node : NodeSpec). is_key node.key slot) (λ node. node.key ≢ Some slot) (λ node fails. is_key-false node.key slot fails) p.nodes none_of.0;
      no_further = none_passes (λ (spec : SlotSpec). spec.slot == slot) (λ spec. spec.slot ≢ slot) (λ spec fails. grind arith) p.slots none_of.1;
    }

no_sender : (p : Values) (slot cycle : ℕ) → IsUnused p slot → IsNone (sender_of p slot cycle)
no_sender p slot cycle not =
    both_none sync_sending (further_sending cycle) (key_node_of p slot) (further_slot_of p slot)
    (none_found (λ (node : NodeSpec). is_key node.key slot) (λ node. node.key ≢ Some slot) (λ node other. is_key-other node.key slot other) p.nodes not.no_key)
    (none_found (λ (spec : SlotSpec). spec.slot == slot) (λ spec. spec.slot ≢ slot) (λ spec other. grind arith) p.slots not.no_further)

-- for each slot and cycle
pub sender_of-none : (p : Values) (slot cycle : ℕ) → IsNone (sender_of p slot cycle) ↔ IsUnused p slot
sender_of-none p slot cycle = (unused p slot cycle, no_sender p slot cycle)
