-- What the tables under construction hold of the records so far.
use Rattle.std.specs.Prelude.{ℕ, ◌≡◌, List, Option, Some, IfSome, Result, Ok, if◌then◌else◌}
use Rattle.std.specs.declared.cmp.Ordering.{Ordering}
use Rattle.std.specs.Ordering.{nat_cmp}
use Rattle.std.specs.BTreeMap.{BTreeMap, IsOrdered, get, is_at}
use Rattle.fr_base.specs.declared.reason.Reason.{Reason}
use Rattle.fr_text.specs.Records.{FileRecord}
use Rattle.fr_text.specs.Takes.{TakesRow}
use Rattle.fr_cluster.specs.Values.{Values}
use Rattle.fr_cold.specs.Keys.{power_cmp, power_key}
use Rattle.fr_cold.specs.Reasons.{cycles_at, last_at, power_row_reason, switch_at}
use Rattle.fr_cold.specs.Rows.{IsProperCycles, power_row_of}
use Rattle.fr_cold.specs.declared.rows.Row.{Row}
use Rattle.fr_cold.specs.declared.draft.Draft.{Draft}

-- a value is put under a key, and all else stays
pub record IsEntryPut {K V : Type 0} (cmp : K → K → Ordering) (old new : BTreeMap K V) (key : K) (value : V) : Type 0 where
  pub ordered : IsOrdered cmp new
  pub filled : (q : K) → get cmp new q ≡ (if is_at (cmp key) q then Some value else get cmp old q)

-- the tables hold what the records say
pub record IsPowerDraft (draft : Draft) (records : List FileRecord) : Type 0 where
  pub cycles : draft.cycles ≡ cycles_at records
  pub proper : IfSome draft.cycles IsProperCycles
  pub switches : (at node : ℕ) → get power_cmp draft.switches (power_key at node) ≡ switch_at at node records
  pub lasts : (node : ℕ) → get nat_cmp draft.lasts node ≡ last_at node records
  pub ordered : IsOrdered power_cmp draft.switches
  pub lasts_ordered : IsOrdered nat_cmp draft.lasts

-- a row is refused against these parameters for its reason, or held after the records so far
abbrev pub TakesPowerRow : {Error : Type 0} → Values → Draft → Draft → Row → Result (Option Reason) Error → Type 0
TakesPowerRow p before after row result = TakesRow IsPowerDraft power_row_of (power_row_reason p) before after row result

-- the same where it takes no memory
abbrev pub TakesPowerRowAtOnce : Values → Draft → Draft → Row → Option Reason → Type 0
TakesPowerRowAtOnce p before after row why = let answer : Result (Option Reason) (Unit {0}) = Ok why in TakesPowerRow p before after row answer
