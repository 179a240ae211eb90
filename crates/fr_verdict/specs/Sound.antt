-- What the checker needs of a record to compute with it.
use Rattle.std.specs.Prelude.{◌≤◌, pos, List, length, All}
use Rattle.fr_base.specs.Rows.{AreAscendingDevs, AreAscendingRows}
use Rattle.fr_base.specs.Timed.{IsTimed}
use Rattle.fr_base.specs.Within.{IsWithin}
use Rattle.fr_base.specs.declared.dev.Dev.{Dev}
use Rattle.fr_cluster.specs.Values.{Values, amount}
use Rattle.fr_cluster.specs.declared.names.ParamName.TheVariants as name
use Rattle.fr_measure.specs.Readings.{most_deviation}
use Rattle.fr_time.specs.Instant.{KeepsLimits}
use Rattle.fr_history.specs.History.{Record}
use Rattle.fr_trace.specs.Cycles.{kept_of}
use Rattle.fr_trace.specs.declared.trace.TracedCycle.{TracedCycle}

-- a deviation within its range, of a static slot
pub record IsSoundDev (p : Values) (dev : Dev) : Type 0 where
  pub within : IsWithin (pos most_deviation) dev.value
  pub static_slot : dev.slot ≤ amount p name.gNumberOfStaticSlots

-- deviations in their order, within their ranges
pub record AreSoundDevs (p : Values) (devs : List Dev) : Type 0 where
  pub ascend : AreAscendingDevs devs
  pub each : All (IsSoundDev p) devs

-- a record whose rows and deviations are in their order and lie in their ranges
pub record IsSound (p : Values) (r : Record) : Type 0 where
  pub few : length r.rows ≤ 64
  pub ascend : AreAscendingRows r.rows
  pub rows : All (KeepsLimits p) r.rows
  pub devs : AreSoundDevs p r.devs
  pub few_devs : length r.devs ≤ 140_000

-- so are those of all cycles
abbrev pub AreSound : Values → List TracedCycle → Type 0
AreSound p cycles = All (λ cycle. IsSound p (kept_of cycle)) cycles

-- the rows of all cycles lie in their ranges
abbrev pub AreTimed : List TracedCycle → Type 0
AreTimed cycles = All (λ cycle. All IsTimed cycle.rows.items) cycles

-- the deviations of all cycles are in their order
abbrev pub AreOrdered : List TracedCycle → Type 0
AreOrdered cycles = All (λ cycle. AreAscendingDevs cycle.devs.items) cycles

-- a cycle whose rows lie in their ranges and whose deviations are in their order
pub record IsHeardCycle (cycle : TracedCycle) : Type 0 where
  pub timed : All IsTimed cycle.rows.items
  pub ordered : AreAscendingDevs cycle.devs.items

abbrev pub AreHeardCycles : List TracedCycle → Type 0
AreHeardCycles cycles = All IsHeardCycle cycles
