use Rattle.std.proofs.Common.{[], ◌∷◌}
use Rattle.std.proofs.lemmas.Result.{err_from_is_err_and}
use Rattle.fr_cluster.specs.Values.{Values}
use Rattle.fr_cold.specs.Files.{power_file}
use Rattle.fr_cold.specs.Told.{power_says}
use Rattle.fr_cold.specs.View.{PowerView}
use Rattle.fr_params.specs.Files.{params_file}
use Rattle.fr_params.specs.Told.{params_says}
use Rattle.fr_program.proofs.Endings.{cut_short, whole}
use Rattle.fr_text.proofs.Commands.{stops_first, stops_next, two_asked}
use Rattle.fr_text.proofs.Shelves.{has_earlier}
use Rattle.fr_text.specs.Files.{Files, IsNeverSaid, file, text}
use Rattle.fr_cold.specs.ColdText.{IsColdText}
use Rattle.fr_cold.proofs.answering.answer_cold.Goals as goal

abbrev end : Values → PowerView → Files
end p v = text (IsColdText p v) IsNeverSaid

abbrev rest : Values → Files
rest p = file (power_file p) power_says (end p)

pub returns-in_err-power-clause-ends : goal.returns-in_err-power-clause-ends
returns-in_err-power-clause-ends g c =
    let p = err_from_is_err_and c.from_residual-in_err-power.result c.from_residual-in_err-power.ensures.1 in
    rw (p.1, p.2)
    (stops_next params_file params_says rest c.args.files.params.now (c.args.files.power.now ∷ []) _ _ _ c.in_ok-params.params _ c.in_ok-params.ensures.later c.in_ok-params.ensures.accepted
    (stops_first (power_file c.in_ok-params.params) power_says (end c.in_ok-params.params) c.args.files.power.now [] _ _ _ c.in_err-power.ensures.later c.in_err-power.ensures.stops))

pub returns-in-Ok-clause-ends : goal.returns-in-Ok-clause-ends
returns-in-Ok-clause-ends g c =
    let p = c.in_ok-params.params in
    let v = c.in_ok-power.power in
    let params = c.in_ok-params.ensures.accepted in
    let power = has_earlier (power_file p) _ _ _ v c.in_ok-params.ensures.later c.in_ok-power.ensures.accepted in
    let shown = c.a_startup_has_one_leader.ensures p v params.sound power.sound in
    whole _ _ _ _ (record { is_text = (p, params, (v, power, shown)); asked = two_asked c.in_ok-params.ensures.later c.in_ok-power.ensures.later }) c.in-Ok.ensures

pub returns-clause-ends : goal.returns-clause-ends
returns-clause-ends g c =
    let p = c.in_ok-params.params in
    let v = c.in_ok-power.power in
    let params = c.in_ok-params.ensures.accepted in
    let power = has_earlier (power_file p) _ _ _ v c.in_ok-params.ensures.later c.in_ok-power.ensures.accepted in
    let shown = c.a_startup_has_one_leader.ensures p v params.sound power.sound in
    cut_short _ _ _ _ (record { is_text = (p, params, (v, power, shown)); asked = two_asked c.in_ok-params.ensures.later c.in_ok-power.ensures.later }) c.in-Err.ensures
