-- What the steps do to a drift and to a script that stand for records.
use Rattle.std.specs.Prelude.{◌≡◌, List, Result, Ok, Err, ⊤}
use Rattle.fr_text.specs.Records.{FileRecord}
use Rattle.fr_text.specs.Refusal.{NoneRefused}
use Rattle.fr_cluster.specs.Values.{Values}
use Rattle.fr_drift.specs.Reasons.{drift_reason_after}
use Rattle.fr_drift.specs.View.{DriftView}
use Rattle.fr_drift.specs.Files.{DriftStandsFor}
use Rattle.fr_drift.specs.declared.fault.DriftFault.{DriftFault}
use Rattle.fr_script.specs.Reasons.{script_reason_after}
use Rattle.fr_script.specs.View.{ScriptView}
use Rattle.fr_script.specs.Files.{ScriptStandsFor}
use Rattle.fr_script.specs.declared.fault.ScriptFault.{ScriptFault}
use Rattle.fr_generator.specs.Drawn.{Drawn, drawn_from}
use Rattle.rand_pcg.specs.Lcg.{Lcg}

-- the rules accept what a step adds to the records of a drift
pub record TakesStep (p : Values) (d : DriftView) (words : Lcg) (step : Drawn → Drawn) : Type 0 where
  pub records : List FileRecord
  pub stands : DriftStandsFor p d records
  pub accepted : NoneRefused (drift_reason_after p) (step (drawn_from records words)).records

-- the drift has what a step adds to all records that it stood for, and its draws are taken
pub record HasStep (p : Values) (before after : DriftView) (words words_after : Lcg) (step : Drawn → Drawn) : Type 0 where
  pub stands : (records : List FileRecord) → DriftStandsFor p before records → DriftStandsFor p after (step (drawn_from records words)).records
  pub drawn : (records : List FileRecord) → words_after ≡ (step (drawn_from records words)).words

abbrev pub AddsStep : Values → DriftView → DriftView → Lcg → Lcg → (Drawn → Drawn) → Result (Unit {0}) DriftFault → Type 0
AddsStep p before after words words_after step (Ok done) = HasStep p before after words words_after step
AddsStep p before after words words_after step (Err why) = ⊤

-- the same of a script
pub record TakesSaid (p : Values) (s : ScriptView) (words : Lcg) (step : Drawn → Drawn) : Type 0 where
  pub records : List FileRecord
  pub stands : ScriptStandsFor s records
  pub accepted : NoneRefused (script_reason_after p) (step (drawn_from records words)).records

pub record HasSaid (before after : ScriptView) (words words_after : Lcg) (step : Drawn → Drawn) : Type 0 where
  pub stands : (records : List FileRecord) → ScriptStandsFor before records → ScriptStandsFor after (step (drawn_from records words)).records
  pub drawn : (records : List FileRecord) → words_after ≡ (step (drawn_from records words)).words

abbrev pub AddsSaid : ScriptView → ScriptView → Lcg → Lcg → (Drawn → Drawn) → Result (Unit {0}) ScriptFault → Type 0
AddsSaid before after words words_after step (Ok done) = HasSaid before after words words_after step
AddsSaid before after words words_after step (Err why) = ⊤
