-- How many key slots there are.
use Rattle.std.proofs.Common.{◌≡◌, ℕ, suc, List, [], ◌∷◌, length, Option, Some, None, refl, ap}
use Rattle.std.specs.Prelude.{filter}
use Rattle.std.specs.Option.{is_some}
use Rattle.fr_cluster.specs.Constraints.{key_slots}
use Rattle.fr_cluster.specs.declared.nodes.NodeSpec.{NodeSpec}

length-key_slots_by : (node : NodeSpec) (nodes : List NodeSpec) (key : Option ℕ) → node.key ≡ key → length (filter (λ n. is_some n.key) nodes) ≡ length (key_slots nodes) → length (filter (λ n. is_some n.key) (node ∷ nodes)) ≡ length (key_slots (node ∷ nodes))
length-key_slots_by node nodes None is rest = rw is rest
length-key_slots_by node nodes (Some slot) is rest = rw is (ap suc rest)

pub length-key_slots : (nodes : List NodeSpec) → length (filter (λ node. is_some node.key) nodes) ≡ length (key_slots nodes)
length-key_slots [] = refl
length-key_slots (node ∷ nodes) = length-key_slots_by node nodes node.key refl (length-key_slots nodes)
