-- Numbers, nodes and slots from which parameters are assembled.
use Rattle.std.specs.Prelude.{◌≡◌, ℕ, ℤ, List, length, map, Result, Ok, Err, IfOk}
use Rattle.fr_cluster.specs.Constraints.{AllHold, key_slots}
use Rattle.fr_params.specs.Making.{IsMadeOf}
use Rattle.fr_cluster.specs.Numbers.{AreInRange, amount_in}
use Rattle.fr_cluster.specs.Sane.{AreSaneLists}
use Rattle.fr_cluster.specs.Values.{Values, figure}
use Rattle.fr_params.specs.declared.names.TheConstants.{NAMES_OF_TWO}
use Rattle.fr_cluster.specs.declared.nodes.NodeSpec.{NodeSpec}
use Rattle.fr_cluster.specs.declared.nodes.SlotSpec.{SlotSpec}
use Rattle.fr_params.specs.Files.{IsParamsFile}
use Rattle.fr_params.specs.declared.fault.ParamFault.{ParamFault}
use Rattle.fr_params.specs.declared.fault.ParamFault.TheVariants as fault

-- they are those of an accepted file: a number in its range for each name of the table of version 2, in its order, nodes and slots in
-- ascending order with all numbers in their ranges, and the eight constraints hold
pub record AreAccepted (numbers : List ℤ) (nodes : List NodeSpec) (slots : List SlotSpec) : Type 0 where
  pub long : length numbers ≡ 20
  pub ranged : AreInRange numbers
  pub lists : AreSaneLists nodes slots
  pub constraints : AllHold (amount_in numbers) (key_slots nodes) slots

-- the parameters have these numbers, nodes and slots; or memory ran out
abbrev pub Assembles : List ℤ → List NodeSpec → List SlotSpec → Result Values ParamFault → Type 0
Assembles numbers nodes slots (Ok params) = IsMadeOf params numbers nodes slots
Assembles numbers nodes slots (Err why) = why ≡ fault.NoMemory

-- the numbers of parameters in the order of the table of version 2
abbrev pub numbers_of : Values → List ℤ
numbers_of p = map (figure p) NAMES_OF_TWO

-- what is assembled of accepted ones has these parameters
pub record AssemblesAs (p : Values) (numbers : List ℤ) (nodes : List NodeSpec) (slots : List SlotSpec) : Type 0 where
  pub accepted : AreAccepted numbers nodes slots
  pub same : (result : Result Values ParamFault) → Assembles numbers nodes slots result → IfOk result (λ other. other ≡ p)

-- the numbers, nodes and further slots of every accepted file are accepted ones, and its parameters are assembled of them
abbrev pub AssemblesFiles : Type 0
AssemblesFiles = (p : Values) (bytes : List ℕ) → IsParamsFile p bytes → AssemblesAs p (numbers_of p) p.nodes p.slots
