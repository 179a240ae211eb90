-- The node of a key slot sends there, and so does the node of a further slot: each slot has one.
use Rattle.std.proofs.Common.{◌≡◌, ◌≢◌, ℕ, ◌<◌, ◌≤◌, List, [], ◌∷◌, true, false, Some, None, inl, inr, refl, ap, ◌∙◌, arith}
use Rattle.std.specs.Prelude.{All, AllPairs, Contains, find, ◌==◌}
use Rattle.std.proofs.lemmas.List.Elements.{All-contains, All-contains_itself, All-weaker}
use Rattle.fr_cluster.specs.Values.{Values, amount}
use Rattle.fr_cluster.specs.declared.names.ParamName.TheVariants as name
use Rattle.fr_cluster.specs.Sane.{IsSane}
use Rattle.fr_cluster.specs.Constraints.{key_slots}
use Rattle.fr_cluster.specs.declared.nodes.NodeSpec.{NodeSpec}
use Rattle.fr_cluster.specs.declared.nodes.SlotSpec.{SlotSpec}
use Rattle.fr_cluster.specs.Searches.{is_key}
use Rattle.fr_cluster.proofs.KeyNodes.{AllPairs-first, AllPairs-rest, Contains-cons_cases, found_key, key_among}
use Rattle.fr_time.specs.Senders.{further_sending, further_slot_of, key_node_of, sender_of, sync_sending}
use Rattle.fr_time.proofs.Unused.{is_key-other, none_found}

found_slot : (specs : List SlotSpec) (spec : SlotSpec) → AllPairs (λ a b. a.slot < b.slot) specs → Contains specs spec → find (λ s. s.slot == spec.slot) specs ≡ Some spec
found_slot [] spec pairs among = absurd (omega (arith, among.1))
found_slot (x ∷ xs) spec pairs among = elim (Contains-cons_cases x xs spec among) [
  | inl same ↦
      let passes : (x.slot == spec.slot) ≡ true = ap (λ (s : SlotSpec). s.slot == spec.slot) same ∙ equal spec.slot in
      let here : find (λ s. s.slot == spec.slot) (x ∷ xs) ≡ Some x = rw passes refl in
      here ∙ ap (λ (s : SlotSpec). Some s) same
  | inr rest ↦
      let below : x.slot < spec.slot = AllPairs-first (λ (a : SlotSpec) (b : SlotSpec). a.slot < b.slot) x xs spec pairs rest in
      let fails : (x.slot == spec.slot) ≡ false = not_equal x.slot spec.slot below in
      let later : find (λ s. s.slot == spec.slot) (x ∷ xs) ≡ find (λ s. s.slot == spec.slot) xs = rw fails refl in
      later ∙ found_slot xs spec (AllPairs-rest (λ (a : SlotSpec) (b : SlotSpec). a.slot < b.slot) x xs pairs) rest
] where
  equal : (a : ℕ) → (a == a) ≡ true
  equal a = grind arith

  not_equal : (a b : ℕ) → a < b → (a == b) ≡ false
  not_equal a b below = grind arith

pub key_slot_sender : (p : Values) (slot cycle : ℕ) (node : NodeSpec) → IsSane p → Contains p.nodes node → node.key ≡ Some slot → sender_of p slot cycle ≡ Some (sync_sending node)
key_slot_sender p slot cycle node sane among key =
    let found : key_node_of p slot ≡ Some node = found_key p.nodes slot node sane.constraints.own_slots.1 among key in
    rw found refl

-- the slot of a further slot is no node's key slot
no_key_node : (p : Values) (spec : SlotSpec) → IsSane p → Contains p.slots spec → key_node_of p spec.slot ≡ None
no_key_node p spec sane among =
    let free = All-contains (λ (s : SlotSpec). (s.slot ≤ amount p name.gNumberOfStaticSlots) × (Contains (key_slots p.nodes) s.slot → ⊥)) p.slots spec sane.constraints.free_slots among in
    let IsOther : NodeSpec → Type 0 = λ node. node.key ≢ Some spec.slot in
    let others : All IsOther p.nodes =
    All-weaker (Contains p.nodes) IsOther (λ node there key. free.1 (key_among p.nodes node spec.slot there key)) p.nodes (All-contains_itself p.nodes) in
    none_found (λ (node : NodeSpec). is_key node.key spec.slot) IsOther (λ node other. is_key-other node.key spec.slot other) p.nodes others

pub further_slot_sender : (p : Values) (cycle : ℕ) (spec : SlotSpec) → IsSane p → Contains p.slots spec → sender_of p spec.slot cycle ≡ Some (further_sending cycle spec)
further_slot_sender p cycle spec sane among =
    let found : further_slot_of p spec.slot ≡ Some spec = found_slot p.slots spec sane.lists.slots_ascend among in
    rw (no_key_node p spec sane among, found) refl
