-- What a call does that adds one record to a drift.
use Rattle.std.specs.Prelude.{◌≡◌, [], ◌∷◌, ◌++◌, List, Result, Ok, Err}
use Rattle.std.specs.BTreeMap.{BTreeMap}
use Rattle.std.specs.declared.cmp.Ordering.{Ordering}
use Rattle.fr_text.specs.Records.{FileRecord}
use Rattle.fr_text.specs.Refusal.{NoneRefused}
use Rattle.fr_cluster.specs.Values.{Values}
use Rattle.fr_drift.specs.Reasons.{drift_reason_after}
use Rattle.fr_drift.specs.View.{DriftView}
use Rattle.fr_drift.specs.Draft.{IsNewEntryPut}
use Rattle.fr_drift.specs.Files.{DriftFits, DriftStandsFor}
use Rattle.fr_drift.specs.declared.fault.DriftFault.{DriftFault}
use Rattle.fr_drift.specs.declared.fault.DriftFault.TheVariants as fault

-- the drift fits these parameters, and a record is accepted behind those that it stands for
pub record TakesDriftRecord (p : Values) (d : DriftView) (record_at : FileRecord) : Type 0 where
  pub records : List FileRecord
  pub stands : DriftStandsFor p d records
  pub accepted : NoneRefused (drift_reason_after p) (records ++ record_at ∷ [])

-- the drift stands for the record behind all records that it stood for before, and fits these parameters
pub record HasDriftRecord (p : Values) (before after : DriftView) (record_at : FileRecord) : Type 0 where
  pub stands : (records : List FileRecord) → DriftStandsFor p before records → DriftStandsFor p after (records ++ record_at ∷ [])
  pub fits : DriftFits p after

-- the record is added; or memory ran out, and the drift is as it was
abbrev pub AddsDriftRecord : Values → DriftView → DriftView → FileRecord → Result (Unit {0}) DriftFault → Type 0
AddsDriftRecord p before after record_at (Ok done) = HasDriftRecord p before after record_at
AddsDriftRecord p before after record_at (Err why) = (why ≡ fault.NoMemory) × (after ≡ before)

-- a value is put under a key that had none; or memory ran out, and the rows are as they were
abbrev pub EntersRow : {K V : Type 0} → (K → K → Ordering) → BTreeMap K V → BTreeMap K V → K → V → Result (Unit {0}) DriftFault → Type 0
EntersRow cmp old new key value (Ok done) = IsNewEntryPut cmp old new key value
EntersRow cmp old new key value (Err why) = (why ≡ fault.NoMemory) × (new.entries ≡ old.entries)
