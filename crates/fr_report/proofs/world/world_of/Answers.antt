use Rattle.std.proofs.Common.{◌≡◌, [], ◌∷◌, subst, sym}
use Rattle.std.proofs.lemmas.Result.{err_from_is_err_and}
use Rattle.fr_base.specs.Device.{Shelved}
use Rattle.fr_cluster.specs.Values.{Values}
use Rattle.fr_drift.specs.Files.{drift_file}
use Rattle.fr_drift.specs.Told.{drift_says}
use Rattle.fr_drift.specs.View.{DriftView}
use Rattle.fr_params.specs.Files.{params_file}
use Rattle.fr_params.specs.Told.{params_says}
use Rattle.fr_text.proofs.Commands.{stops_behind, stops_first, stops_next, three_asked}
use Rattle.fr_text.proofs.Shelves.{has_earlier}
use Rattle.fr_text.specs.Files.{Files, IsNeverSaid, StopsIn, file, text}
use Rattle.fr_text.specs.Kind.{Has}
use Rattle.fr_text.specs.declared.told.Told.{Told}
use Rattle.fr_script.specs.Files.{script_file}
use Rattle.fr_script.specs.Told.{script_says}
use Rattle.fr_script.specs.View.{ScriptView}
use Rattle.fr_world.specs.World.{WorldView, world_before}
use Rattle.fr_report.specs.Files.{HaveFiles, IsAnyText}
use Rattle.fr_report.specs.Names.{run_names_of, RunNames}
use Rattle.fr_report.proofs.world.world_of.Goals as goal

abbrev end : Values → DriftView → ScriptView → Files
end p d s = text (IsAnyText p d s) IsNeverSaid

abbrev from_script : Values → DriftView → Files
from_script p d = file (script_file p) script_says (end p d)

abbrev from_drift : Values → Files
from_drift p = file (drift_file p) drift_says (from_script p)

pub returns-in_err-drift-clause-stops : goal.returns-in_err-drift-clause-stops
returns-in_err-drift-clause-stops g c =
    let e = err_from_is_err_and c.from_residual-in_err-drift.result c.from_residual-in_err-drift.ensures.1 in
    let names : RunNames = run_names_of c.args.files in
    let p = c.in_ok-params.params in
    rw (e.1, e.2)
    (stops_next params_file params_says from_drift names.params (names.drift ∷ names.script ∷ []) _ _ _ p _ c.in_ok-params.ensures.later c.in_ok-params.ensures.accepted
    (stops_first (drift_file p) drift_says (from_script p) names.drift (names.script ∷ []) _ _ _ c.in_err-drift.ensures.later c.in_err-drift.ensures.stops))

pub returns-in_err-script-clause-stops : goal.returns-in_err-script-clause-stops
returns-in_err-script-clause-stops g c =
    let e = err_from_is_err_and c.from_residual-in_err-script.result c.from_residual-in_err-script.ensures.1 in
    let names : RunNames = run_names_of c.args.files in
    let p = c.in_ok-params.params in
    let d = c.in_ok-drift.drift in
    rw (e.1, e.2)
    (stops_next params_file params_says from_drift names.params (names.drift ∷ names.script ∷ []) _ _ _ p _ c.in_ok-params.ensures.later c.in_ok-params.ensures.accepted
    (stops_next (drift_file p) drift_says (from_script p) names.drift (names.script ∷ []) _ _ _ d _ c.in_ok-drift.ensures.later c.in_ok-drift.ensures.accepted
    (stops_first (script_file p) script_says (end p d) names.script [] _ _ _ c.in_err-script.ensures.later c.in_err-script.ensures.stops)))

pub returns-in-Err-NoMemory-clause-stops : goal.returns-in-Err-NoMemory-clause-stops
returns-in-Err-NoMemory-clause-stops g c =
    let names : RunNames = run_names_of c.args.files in
    let p = c.in_ok-params.params in
    let d = c.in_ok-drift.drift in
    let s = c.in_ok-script.script in
    let last : Shelved = g.S.Shelf.state c.accepted-3.new.shelf in
    let P : Told → Type 0 = λ why. StopsIn (end p d s) [] [] last last why in
    stops_next params_file params_says from_drift names.params (names.drift ∷ names.script ∷ []) _ _ _ p _ c.in_ok-params.ensures.later c.in_ok-params.ensures.accepted
    (stops_next (drift_file p) drift_says (from_script p) names.drift (names.script ∷ []) _ _ _ d _ c.in_ok-drift.ensures.later c.in_ok-drift.ensures.accepted
    (stops_next (script_file p) script_says (end p d) names.script [] _ _ _ s _ c.in_ok-script.ensures.later c.in_ok-script.ensures.accepted
    (subst P (sym c.no_memory.ensures) (stops_behind (IsAnyText p d s) IsNeverSaid [] last))))

pub returns-in-Ok-clause-files : goal.returns-in-Ok-clause-files
returns-in-Ok-clause-files g c =
    let names : RunNames = run_names_of c.args.files in
    let first : Shelved = g.S.Shelf.state c.args.shelf.now in
    let second : Shelved = g.S.Shelf.state c.accepted.new.shelf in
    let third : Shelved = g.S.Shelf.state c.accepted-2.new.shelf in
    let drift : Has (drift_file c.in_ok-params.params) first names.drift c.in_ok-drift.drift =
    has_earlier _ first second _ _ c.in_ok-params.ensures.later c.in_ok-drift.ensures.accepted in
    let script : Has (script_file c.in_ok-params.params) first names.script c.in_ok-script.script =
    has_earlier _ first second _ _ c.in_ok-params.ensures.later
    (has_earlier _ second third _ _ c.in_ok-drift.ensures.later c.in_ok-script.ensures.accepted) in
    let made : c.in-Ok.world ≡ world_before c.in_ok-params.params c.in_ok-drift.drift c.in_ok-script.script = c.in-Ok.ensures in
    subst (λ (w : WorldView). HaveFiles first names w.params w.drift w.script) (sym made)
    (record { has_params = c.in_ok-params.ensures.accepted; has_drift = drift; has_script = script })

pub returns-in-Ok-clause-asked : goal.returns-in-Ok-clause-asked
returns-in-Ok-clause-asked g c = three_asked c.in_ok-params.ensures.later c.in_ok-drift.ensures.later c.in_ok-script.ensures.later
