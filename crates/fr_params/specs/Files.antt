-- What a parameter file stands for, and why it is refused.
use Rattle.std.specs.Prelude.{ℕ, ℤ, ◌≡◌, ◌<◌, List, Option, Some, None, IsSome, true, ⊤}
use Rattle.fr_text.specs.Kind.{Kind}
use Rattle.fr_text.specs.Records.{FileRecord, records_of}
use Rattle.fr_text.specs.Refusal.{NoneRefused, FirstRefused}
use Rattle.fr_params.specs.Names.{place}
use Rattle.fr_params.specs.Reasons.{value_at, node_at, slot_at, param_reason_after}
use Rattle.fr_params.specs.Versions.{is_of_version, row_name, version_of}
use Rattle.fr_params.specs.Lists.{listed}
use Rattle.fr_params.specs.Draft.{entry}
use Rattle.fr_cluster.specs.Values.{Values, figure, amount}
use Rattle.fr_cluster.specs.Sane.{IsSane}
use Rattle.fr_cluster.specs.Constraints.{AllHold, FirstFails, key_slots}
use Rattle.fr_cluster.specs.declared.names.ParamName.{ParamName}
use Rattle.fr_params.specs.declared.names.Version.{Version}
use Rattle.fr_params.specs.declared.names.Version.TheVariants.{Two}
use Rattle.fr_cluster.specs.declared.nodes.NodeSpec.{NodeSpec}
use Rattle.fr_cluster.specs.declared.nodes.SlotSpec.{SlotSpec}
use Rattle.fr_params.specs.declared.fault.ParamFault.{ParamFault}
use Rattle.fr_params.specs.declared.fault.ParamFault.TheVariants as fault

-- the nodes that the records name, in ascending order of their numbers, which are 1 to 64
abbrev pub nodes_said : List FileRecord → List NodeSpec
nodes_said records = listed 64 (λ k. node_at (version_of records) k records)

-- the further slots that the records name, in ascending order of their numbers, which are 1 to 1023
abbrev pub slots_said : List FileRecord → List SlotSpec
slots_said records = listed 1023 (λ k. slot_at (version_of records) k records)

-- what the records say of a name
abbrev pub value_named : ParamName → List FileRecord → Option ℤ
value_named n records = value_at (version_of records) (place n) records

-- the parameters are what the records say: each number is that of its row, in a file of version 1 both delay compensations
-- that of one row; nodes and slots are those of theirs
pub record ParamsStandFor (p : Values) (records : List FileRecord) : Type 0 where
  pub figures : (n : ParamName) → is_of_version Two n ≡ true → value_named (row_name (version_of records) n) records ≡ Some (figure p n)
  pub nodes : p.nodes ≡ nodes_said records
  pub slots : p.slots ≡ slots_said records

-- the file is accepted, and these are the parameters that it stands for: no record is refused, every name of its version has its row, and
-- all constraints hold
pub record IsParamsFile (p : Values) (bytes : List ℕ) : Type 0 where
  pub none_refused : NoneRefused param_reason_after (records_of bytes)
  pub stands : ParamsStandFor p (records_of bytes)
  pub constraints : AllHold (amount p) (key_slots p.nodes) p.slots

-- no record is refused, and this is the first name of the table of the file's version that no record has
pub record IsMissing (name : ParamName) (records : List FileRecord) : Type 0 where
  pub none_refused : NoneRefused param_reason_after records
  pub known : is_of_version (version_of records) name ≡ true
  pub missing : value_named name records ≡ None
  pub earlier : (n : ParamName) → is_of_version (version_of records) n ≡ true → place n < place name → IsSome (value_named n records)

-- no record is refused and no name is missing, and this is the least number of a constraint that what the records
-- say does not meet
pub record FailsConstraint (number : ℕ) (records : List FileRecord) : Type 0 where
  pub values : Values
  pub none_refused : NoneRefused param_reason_after records
  pub stands : ParamsStandFor values records
  pub fails : FirstFails number (amount values) (key_slots values.nodes) values.slots

-- a fault tells the first cause in the order of rows, names and constraints; want of memory may come at any file
abbrev pub RefusesParams : List ℕ → ParamFault → Type 0
RefusesParams bytes (fault.Row number why) = FirstRefused param_reason_after (records_of bytes) number why
RefusesParams bytes (fault.Missing name) = IsMissing name (records_of bytes)
RefusesParams bytes (fault.Constraint number) = FailsConstraint number (records_of bytes)
RefusesParams bytes fault.NoMemory = ⊤

-- the first name of a version's table that a table of values lacks
pub record IsMissingIn (version : Version) (values : List (Option ℤ)) (name : ParamName) : Type 0 where
  pub known : is_of_version version name ≡ true
  pub missing : entry values (place name) ≡ None
  pub earlier : (n : ParamName) → is_of_version version n ≡ true → place n < place name → IsSome (entry values (place n))

-- the kind of a parameter file
abbrev pub params_file : Kind Values ParamFault
params_file = record { is_file_of = IsParamsFile; refuses = RefusesParams; is_sound = IsSane; no_memory = fault.NoMemory }
