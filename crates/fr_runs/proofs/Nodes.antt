-- Nodes of a cluster found again: by number, by key slot, and among the correct ones.
use Rattle.std.proofs.Common.{◌≡◌, ℕ, ◌<◌, ◌≤◌, ◌==◌, true, false, Some, IsSome, List, [], ◌∷◌, refl, ap, sym, ◌∙◌, subst, inl, inr, arith}
use Rattle.std.specs.Prelude.{AllPairs, Contains, find}
use Rattle.std.proofs.lemmas.Bool.{not-true}
use Rattle.fr_cluster.specs.Values.{Values, amount}
use Rattle.fr_cluster.specs.Constraints.{key_slots}
use Rattle.fr_cluster.specs.Questions.{key_index_of, node_of}
use Rattle.fr_cluster.specs.Sane.{IsSane}
use Rattle.fr_cluster.specs.declared.names.ParamName.TheVariants as name
use Rattle.fr_cluster.specs.declared.nodes.NodeSpec.{NodeSpec}
use Rattle.fr_time.proofs.Keys.{key_index_is, key_slot_within}
use Rattle.fr_cluster.proofs.Elements.{Contains-here, Contains-none, Contains-there, filtered}
use Rattle.fr_cluster.specs.Setting.{Setting, correct_nodes, is_correct}
use Rattle.fr_history.proofs.Flat.{Among}
use Rattle.fr_cluster.proofs.KeyNodes.{key_among, AllPairs-first, AllPairs-rest, Contains-cons_cases}

pub among_from : {X : Type 0} (xs : List X) (x : X) → Contains xs x → Among x xs
unfolding Among
among_from [] x is = Contains-none x is
among_from (y ∷ ys) x is = elim (Contains-cons_cases y ys x is) [
  | inl same ↦ inl (sym same)
  | inr rest ↦ inr (among_from ys x rest)
]

pub among_to : {X : Type 0} (xs : List X) (x : X) → Among x xs → Contains xs x
unfolding Among
among_to [] x is = absurd is
among_to {X = X} (y ∷ ys) x (inl same) = let Has : X → Type 0 = λ z. Contains (y ∷ ys) z in subst Has (sym same) (Contains-here y ys)
among_to (y ∷ ys) x (inr rest) = Contains-there y ys x (among_to ys x rest)

-- a correct node is one of the cluster
pub record IsCorrectNode (x : Setting) (node : NodeSpec) : Type 0 where
  pub there : Contains x.params.nodes node
  pub correct : x.is_arbitrary node.id ≡ false

pub correct_node : (x : Setting) (node : NodeSpec) → Contains (correct_nodes x) node → IsCorrectNode x node
correct_node x node is =
    let parts = filtered (λ (n : NodeSpec). is_correct x n.id) x.params.nodes node is in
    record { there = parts.0; correct = not-true (x.is_arbitrary node.id) parts.1 }

-- a node is found by its number
found_node : (nodes : List NodeSpec) (node : NodeSpec) → AllPairs (λ a b. a.id < b.id) nodes → Contains nodes node → find (λ n. n.id == node.id) nodes ≡ Some node
found_node [] node pairs is = absurd (Contains-none node is)
found_node (n ∷ ns) node pairs is = elim (Contains-cons_cases n ns node is) [
  | inl same ↦
      let passes : (n.id == node.id) ≡ true = ap (λ (m : NodeSpec). n.id == m.id) (sym same) ∙ equal n.id in
      let here : find (λ m. m.id == node.id) (n ∷ ns) ≡ Some n = rw passes refl in
      here ∙ ap (λ (m : NodeSpec). Some m) same
  | inr there ↦
      let below : n.id < node.id = AllPairs-first (λ (a : NodeSpec) (b : NodeSpec). a.id < b.id) n ns node pairs there in
      let fails : (n.id == node.id) ≡ false = apart n.id node.id below in
      let later : find (λ m. m.id == node.id) (n ∷ ns) ≡ find (λ m. m.id == node.id) ns = rw fails refl in
      later ∙ found_node ns node (AllPairs-rest (λ (a : NodeSpec) (b : NodeSpec). a.id < b.id) n ns pairs) there
] where
  equal : (a : ℕ) → (a == a) ≡ true
  equal a = grind arith

  apart : (a b : ℕ) → a < b → (a == b) ≡ false
  apart a b below = grind arith

pub node_there : (p : Values) (node : NodeSpec) → IsSane p → Contains p.nodes node → node_of p node.id ≡ Some node
node_there p node sane is = found_node p.nodes node sane.lists.nodes_ascend is

-- a key slot is a static slot, and has an index
pub record IsKeySlot (p : Values) (slot : ℕ) : Type 0 where
  pub from : 1 ≤ slot
  pub to : slot ≤ amount p name.gNumberOfStaticSlots
  pub indexed : IsSome (key_index_of p slot)

pub key_slot_there : (p : Values) (node : NodeSpec) (slot : ℕ) → IsSane p → Contains p.nodes node → node.key ≡ Some slot → IsKeySlot p slot
key_slot_there p node slot sane is key =
    let among : Contains (key_slots p.nodes) slot = key_among p.nodes node slot is key in
    let within = key_slot_within p slot sane among in
    record { from = within.0; to = within.1; indexed = rw (key_index_is p slot among) refl }
