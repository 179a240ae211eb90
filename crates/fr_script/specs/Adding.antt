-- What a call does that adds one record to a script.
use Rattle.std.specs.Prelude.{◌≡◌, [], ◌∷◌, ◌++◌, List, Result, Ok, Err}
use Rattle.fr_text.specs.Records.{FileRecord}
use Rattle.fr_text.specs.Refusal.{NoneRefused}
use Rattle.fr_cluster.specs.Values.{Values}
use Rattle.fr_script.specs.Deeds.{DeedsAscend, IsDeedPut}
use Rattle.fr_script.specs.Reasons.{script_reason_after}
use Rattle.fr_script.specs.View.{ScriptView}
use Rattle.fr_script.specs.Files.{ScriptFits, ScriptStandsFor}
use Rattle.fr_script.specs.declared.deed.Deed.{Deed}
use Rattle.fr_script.specs.declared.deeds.Passage.{Passage}
use Rattle.fr_script.specs.declared.fault.ScriptFault.{ScriptFault}
use Rattle.fr_script.specs.declared.fault.ScriptFault.TheVariants as fault

-- the script fits these parameters, and a record is accepted behind those that it stands for
pub record TakesScriptRecord (p : Values) (s : ScriptView) (record_at : FileRecord) : Type 0 where
  pub records : List FileRecord
  pub stands : ScriptStandsFor s records
  pub accepted : NoneRefused (script_reason_after p) (records ++ record_at ∷ [])

-- the script stands for the record behind all records that it stood for before, and fits these parameters
pub record HasScriptRecord (p : Values) (before after : ScriptView) (record_at : FileRecord) : Type 0 where
  pub stands : (records : List FileRecord) → ScriptStandsFor before records → ScriptStandsFor after (records ++ record_at ∷ [])
  pub fits : ScriptFits p after

-- the record is added; or memory ran out, and the script is as it was
abbrev pub AddsScriptRecord : Values → ScriptView → ScriptView → FileRecord → Result (Unit {0}) ScriptFault → Type 0
AddsScriptRecord p before after record_at (Ok done) = HasScriptRecord p before after record_at
AddsScriptRecord p before after record_at (Err why) = (why ≡ fault.NoMemory) × (after ≡ before)

-- a deed is put under its passage, and the table stays in order
pub record IsDeedEntered (old new : List (Passage × Deed)) (passage : Passage) (what : Deed) : Type 0 where
  pub there : IsDeedPut old new passage what
  pub ordered : DeedsAscend old → DeedsAscend new

-- or memory ran out, and the table is as it was
abbrev pub EntersDeed : List (Passage × Deed) → List (Passage × Deed) → Passage → Deed → Result (Unit {0}) ScriptFault → Type 0
EntersDeed old new passage what (Ok done) = IsDeedEntered old new passage what
EntersDeed old new passage what (Err why) = (why ≡ fault.NoMemory) × (new ≡ old)
