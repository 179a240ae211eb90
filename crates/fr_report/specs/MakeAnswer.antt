-- What a request for a made run writes.
use Rattle.std.specs.Prelude.{◌≡◌, ℕ, List, []}
use Rattle.fr_cluster.specs.Values.{Values}
use Rattle.fr_drift.specs.View.{DriftView}
use Rattle.fr_script.specs.View.{ScriptView}
use Rattle.fr_generator.specs.Generated.{IsGenerated}
use Rattle.fr_program.specs.Command.{Command}
use Rattle.fr_text.specs.Files.{Files, IsNeverSaid, text}
use Rattle.fr_report.specs.RunText.{IsRunText}

-- the cluster of a seed, and the report of the one lawful run that it decides
pub record IsMadeReport (seed doubles : ℕ) (text : List ℕ) : Type 0 where
  pub params : Values
  pub drift : DriftView
  pub script : ScriptView
  pub made : IsGenerated seed doubles (record { params = params; drift = drift; script = script })
  pub shown : IsRunText params drift script text

-- a seed decides one report
abbrev pub OneMadeReport : Type 0
OneMadeReport = (seed doubles : ℕ) (text again : List ℕ) → IsMadeReport seed doubles text → IsMadeReport seed doubles again → text ≡ again

-- a request for one reads no file
abbrev pub make_files : ℕ → ℕ → Files
make_files seed doubles = text (IsMadeReport seed doubles) IsNeverSaid

abbrev pub make_command : ℕ → ℕ → Command
make_command seed doubles = record { names = []; files = make_files seed doubles }
