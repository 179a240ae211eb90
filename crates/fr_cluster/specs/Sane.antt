-- What holds of all parameters.
use Rattle.std.specs.Prelude.{◌≡◌, ◌<◌, ◌≤◌, true, false, List, length, map, All, AllPairs, Contains}
use Rattle.fr_cluster.specs.Ranges.{InRange, IsProperNode, IsProperSlot, has_turn, is_keyless_starter}
use Rattle.fr_cluster.specs.Values.{Values, figure, amount}
use Rattle.fr_cluster.specs.Constraints.{AllHold, key_slots}
use Rattle.fr_cluster.specs.declared.names.ParamName.{ParamName}
use Rattle.fr_cluster.specs.declared.nodes.NodeSpec.{NodeSpec}
use Rattle.fr_cluster.specs.declared.nodes.SlotSpec.{SlotSpec}

-- the numbers of a node are in their ranges, and a coldstart node has a key slot
pub record IsSaneNode (node : NodeSpec) : Type 0 where
  pub proper : IsProperNode node
  pub starts : is_keyless_starter node ≡ false

-- the numbers of a further slot are in their ranges, base and repetition go together, and its node is there
pub record IsSaneSlot (nodes : List NodeSpec) (slot : SlotSpec) : Type 0 where
  pub proper : IsProperSlot slot
  pub turn : has_turn slot ≡ true
  pub known : Contains (map (λ node. node.id) nodes) slot.node

-- nodes and slots are sane, each in ascending order, and no more than there are numbers for
pub record AreSaneLists (nodes : List NodeSpec) (slots : List SlotSpec) : Type 0 where
  pub nodes_sane : All IsSaneNode nodes
  pub slots_sane : All (IsSaneSlot nodes) slots
  pub nodes_ascend : AllPairs (λ a b. a.id < b.id) nodes
  pub slots_ascend : AllPairs (λ a b. a.slot < b.slot) slots
  pub few_nodes : length nodes ≤ 64
  pub few_slots : length slots ≤ 1023

-- the parameters of a cluster: ranges, constraints, and the order of nodes and slots
pub record IsSane (p : Values) : Type 0 where
  pub ranges : (n : ParamName) → InRange n (figure p n)
  pub constraints : AllHold (amount p) (key_slots p.nodes) p.slots
  pub lists : AreSaneLists p.nodes p.slots
