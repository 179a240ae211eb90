-- What a search through nodes or further slots finds, and tables of what it finds at each number.
use Rattle.std.specs.Prelude.{ℕ, Bool, false, ◌≡◌, ◌==◌, nat_lt, List, Option, Some, None, map, find, count_by, if◌then◌else◌}
use Rattle.std.specs.List.{list_any, range_with_len}
use Rattle.fr_cluster.specs.Constraints.{key_slots}
use Rattle.fr_cluster.specs.declared.nodes.NodeSpec.{NodeSpec}
use Rattle.fr_cluster.specs.declared.nodes.SlotSpec.{SlotSpec}

-- the node of a number
abbrev pub node_in : List NodeSpec → ℕ → Option NodeSpec
node_in nodes id = find (λ node. node.id == id) nodes

-- whether a key slot is this slot
abbrev pub is_key : Option ℕ → ℕ → Bool
is_key None slot = false
is_key (Some key) slot = key == slot

-- the node whose key slot a slot is
abbrev pub key_node_in : List NodeSpec → ℕ → Option NodeSpec
key_node_in nodes slot = find (λ node. is_key node.key slot) nodes

-- how many key slots are below a slot; only if it is one
abbrev pub key_index_in : List NodeSpec → ℕ → Option ℕ
key_index_in nodes slot =
    if list_any (λ key. key == slot) (key_slots nodes) then Some (count_by (λ key. nat_lt key slot) (key_slots nodes)) else None

-- the further slot of a number
abbrev pub slot_in : List SlotSpec → ℕ → Option SlotSpec
slot_in slots number = find (λ spec. spec.slot == number) slots

-- the tables of nodes: what a search finds at each number up to 64, and at each slot up to 1023
pub record AreFound (nodes : List NodeSpec) (by_id by_key : List (Option NodeSpec)) (indices : List (Option ℕ)) : Type 0 where
  pub ids : by_id ≡ map (node_in nodes) (range_with_len 0 65)
  pub keys : by_key ≡ map (key_node_in nodes) (range_with_len 0 1024)
  pub places : indices ≡ map (key_index_in nodes) (range_with_len 0 1024)
