-- The files that decide a run: that they are accepted, and what a request for a text of their run reads.
use Rattle.std.specs.Prelude.{ℕ, List}
use Rattle.fr_base.specs.Device.{Shelved}
use Rattle.fr_cluster.specs.Values.{Values}
use Rattle.fr_drift.specs.Files.{drift_file}
use Rattle.fr_drift.specs.Told.{drift_says}
use Rattle.fr_drift.specs.View.{DriftView}
use Rattle.fr_params.specs.Files.{params_file}
use Rattle.fr_params.specs.Told.{params_says}
use Rattle.fr_program.specs.Command.{Command}
use Rattle.fr_text.specs.Files.{Files, IsNeverSaid, file, text}
use Rattle.fr_text.specs.Kind.{Has}
use Rattle.fr_script.specs.Files.{script_file}
use Rattle.fr_script.specs.Told.{script_says}
use Rattle.fr_script.specs.View.{ScriptView}
use Rattle.fr_report.specs.Names.{RunNames, names_in}

-- all three files were loaded and are accepted, one against the other
pub record HaveFiles (shelf : Shelved) (names : RunNames) (params : Values) (drift : DriftView) (script : ScriptView) : Type 0 where
  pub has_params : Has params_file shelf names.params params
  pub has_drift : Has (drift_file params) shelf names.drift drift
  pub has_script : Has (script_file params) shelf names.script script

-- such a text of the run of parameters, of a drift file and of a script that are accepted against them
abbrev pub run_files : (Values → DriftView → ScriptView → List ℕ → Type 0) → Files
run_files IsText =
    file params_file params_says
    (λ (p : Values). file (drift_file p) drift_says (λ (d : DriftView). file (script_file p) script_says (λ (s : ScriptView). text (IsText p d s) IsNeverSaid)))

abbrev pub run_command : (Values → DriftView → ScriptView → List ℕ → Type 0) → RunNames → Command
run_command IsText names = record { names = names_in names; files = run_files IsText }

-- any text
abbrev pub IsAnyText : Values → DriftView → ScriptView → List ℕ → Type 0
IsAnyText params drift script written = Unit {0}
