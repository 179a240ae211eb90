-- What a power file stands for, and why it is refused.
use Rattle.std.specs.Prelude.{ℕ, ◌≡◌, List, true, Some, None, ⊤}
use Rattle.std.specs.FinMap.{is_sorted}
use Rattle.fr_text.specs.Kind.{Kind}
use Rattle.fr_text.specs.Records.{FileRecord, records_of}
use Rattle.fr_text.specs.Refusal.{NoneRefused, FirstRefused}
use Rattle.fr_cluster.specs.Values.{Values}
use Rattle.fr_cold.specs.Keys.{power_cmp}
use Rattle.fr_cold.specs.Reasons.{cycles_at, power_reason_after, switch_at}
use Rattle.fr_cold.specs.View.{PowerView, switch_rows}
use Rattle.fr_cold.specs.declared.fault.PowerFault.{PowerFault}
use Rattle.fr_cold.specs.declared.fault.PowerFault.TheVariants as fault

-- the value is what the records say: its number of cycles is that of their one row, and its switches are those of their
-- rows, in the order of their keys, each once
pub record PowerStandsFor (v : PowerView) (records : List FileRecord) : Type 0 where
  pub cycles : cycles_at records ≡ Some v.cycles
  pub switches : (at node : ℕ) → switch_rows v at node ≡ switch_at at node records
  pub order : is_sorted power_cmp v.switches ≡ true

-- a value fits parameters where there is a list of records that is accepted against them and that it stands for
pub record PowerFits (p : Values) (v : PowerView) : Type 0 where
  pub records : List FileRecord
  pub none_refused : NoneRefused (power_reason_after p) records
  pub stands : PowerStandsFor v records

-- the file is accepted against these parameters, and this is the value that it stands for
pub record IsPowerFile (p : Values) (v : PowerView) (bytes : List ℕ) : Type 0 where
  pub none_refused : NoneRefused (power_reason_after p) (records_of bytes)
  pub stands : PowerStandsFor v (records_of bytes)

-- no record is refused, and none says how many cycles the run has
pub record LacksCycles (p : Values) (records : List FileRecord) : Type 0 where
  pub none_refused : NoneRefused (power_reason_after p) records
  pub missing : cycles_at records ≡ None

-- a fault tells the first cause, a record before the missing row; want of memory may come at any file
abbrev pub RefusesPower : Values → List ℕ → PowerFault → Type 0
RefusesPower p bytes (fault.Row number why) = FirstRefused (power_reason_after p) (records_of bytes) number why
RefusesPower p bytes fault.MissingCycles = LacksCycles p (records_of bytes)
RefusesPower p bytes fault.NoMemory = ⊤

-- the kind of a power file of a cluster with these parameters
abbrev pub power_file : Values → Kind PowerView PowerFault
power_file p = record { is_file_of = IsPowerFile p; refuses = RefusesPower p; is_sound = PowerFits p; no_memory = fault.NoMemory }
