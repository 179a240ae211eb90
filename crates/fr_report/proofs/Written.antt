-- How a command ends whose world was asked for.
use Rattle.std.proofs.Common.{◌≡◌, [], ℕ, List, Result, Ok, Err, IfErr, IfOk, OnOk, subst, sym}
use Rattle.fr_base.specs.Device.{Asks, Shelved}
use Rattle.fr_cluster.specs.Values.{Values}
use Rattle.fr_drift.specs.View.{DriftView}
use Rattle.fr_program.specs.Around.{Around, Ending}
use Rattle.fr_program.specs.Command.{CommandEnds}
use Rattle.fr_program.specs.declared.failure.Failure.TheVariants.{Usage, Stopped, WriteFault}
use Rattle.fr_program.proofs.Endings.{ends_stopped}
use Rattle.fr_script.specs.View.{ScriptView}
use Rattle.fr_text.specs.Files.{StopsIn}
use Rattle.fr_text.specs.declared.told.Told.{Told}
use Rattle.fr_world.specs.World.{WorldView}
use Rattle.fr_report.specs.Files.{HaveFiles, IsAnyText, run_command, run_files}
use Rattle.fr_report.specs.Names.{RunNames, names_in}
use Rattle.fr_report.specs.Worlds.{IsPutOnly}

-- such a text is one of the files of its run
abbrev pub IsShown : (Values → DriftView → ScriptView → List ℕ → Type 0) → (Values → DriftView → ScriptView → List ℕ) → RunNames → Shelved → Type 0
IsShown IsText text names shelf = (params : Values) (drift : DriftView) (script : ScriptView) → HaveFiles shelf names params drift script → IsText params drift script (text params drift script)

ends_there : (IsText : Values → DriftView → ScriptView → List ℕ → Type 0) (text : Values → DriftView → ScriptView → List ℕ) (names : RunNames) (around : Around) (world : WorldView) (ending : Ending)
    → IsShown IsText text names around.shelf_before
    → HaveFiles around.shelf_before names world.params world.drift world.script
    → Asks around.shelf_before.asked around.shelf_after.asked (names_in names)
    → IsPutOnly (text world.params world.drift world.script) around.out_before around.out_after ending
    → CommandEnds (run_command IsText names) around ending
ends_there IsText text names around w (Ok done) shown files asked put =
    let P : List ℕ → Type 0 = IsText w.params w.drift w.script in
    record {
      text = put.text;
      defined = record { is_text = (w.params, files.has_params, (w.drift, files.has_drift, (w.script, files.has_script, subst P (sym put.defined) (shown w.params w.drift w.script files)))); asked = asked };
      put = put.put;
    }
ends_there IsText text names around w (Err WriteFault) shown files asked put =
    let P : List ℕ → Type 0 = IsText w.params w.drift w.script in
    record {
      text = put.text;
      defined = record { is_text = (w.params, files.has_params, (w.drift, files.has_drift, (w.script, files.has_script, subst P (sym put.defined) (shown w.params w.drift w.script files)))); asked = asked };
      put = put.put;
    }
ends_there IsText text names around w (Err (Stopped why)) shown files asked put = absurd put
ends_there IsText text names around w (Err Usage) shown files asked put = absurd put

pub ends_behind : (IsText : Values → DriftView → ScriptView → List ℕ → Type 0) (text : Values → DriftView → ScriptView → List ℕ) (names : RunNames) (around : Around) (world : Result WorldView Told) (ending : Ending)
    → IsShown IsText text names around.shelf_before
    → IfOk world (λ w. HaveFiles around.shelf_before names w.params w.drift w.script)
    → IfErr world (StopsIn (run_files IsAnyText) [] (names_in names) around.shelf_before around.shelf_after)
    → OnOk world (Asks around.shelf_before.asked around.shelf_after.asked (names_in names))
    → IfErr world (λ why. ending ≡ Err (Stopped why))
    → IfOk world (λ w. IsPutOnly (text w.params w.drift w.script) around.out_before around.out_after ending)
    → CommandEnds (run_command IsText names) around ending
ends_behind IsText text names around (Ok w) ending shown files stops asked stopped written = ends_there IsText text names around w ending shown files asked written
ends_behind IsText text names around (Err why) ending shown files stops asked stopped written =
    ends_stopped _ _ around.out_before around.out_after ending why stopped stops
