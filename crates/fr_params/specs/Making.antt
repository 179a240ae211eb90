-- What parameters are made of, and why they are not.
use Rattle.std.specs.Prelude.{◌≡◌, ℤ, List}
use Rattle.fr_cluster.specs.Values.{Values, figure}
use Rattle.fr_cluster.specs.Numbers.{number_in, amount_in}
use Rattle.fr_cluster.specs.Constraints.{FirstFails, key_slots}
use Rattle.fr_cluster.specs.Sane.{IsSane}
use Rattle.fr_cluster.specs.declared.names.ParamName.{ParamName}
use Rattle.fr_cluster.specs.declared.nodes.NodeSpec.{NodeSpec}
use Rattle.fr_cluster.specs.declared.nodes.SlotSpec.{SlotSpec}
use Rattle.fr_params.specs.declared.making.ClusterFault.{ClusterFault}
use Rattle.fr_params.specs.declared.making.ClusterFault.TheVariants as fault

-- the parameters of a cluster: each number stands at the place of its name
pub record IsMadeOf (p : Values) (numbers : List ℤ) (nodes : List NodeSpec) (slots : List SlotSpec) : Type 0 where
  pub figures : (n : ParamName) → figure p n ≡ number_in numbers n
  pub nodes_are : p.nodes ≡ nodes
  pub slots_are : p.slots ≡ slots
  pub sane : IsSane p

-- the first constraint that fails; want of memory may come at any time
abbrev pub FailsFor : ClusterFault → List ℤ → List NodeSpec → List SlotSpec → Type 0
FailsFor (fault.Constraint number) numbers nodes slots = FirstFails number (amount_in numbers) (key_slots nodes) slots
FailsFor fault.NoMemory numbers nodes slots = Unit {0}
