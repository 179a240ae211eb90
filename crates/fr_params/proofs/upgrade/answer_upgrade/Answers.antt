use Rattle.std.proofs.Common.{◌≡◌, [], Err, rules}
use Rattle.std.proofs.lemmas.Result.{err_from_is_err_and}
use Rattle.fr_cluster.specs.Values.{Values}
use Rattle.fr_params.specs.Files.{params_file}
use Rattle.fr_params.specs.Told.{params_says}
use Rattle.fr_program.proofs.Endings.{ends_cut_short, whole}
use Rattle.fr_program.specs.declared.failure.Failure.TheVariants.{WriteFault}
use Rattle.fr_text.proofs.Commands.{stops_first}
use Rattle.fr_text.specs.Files.{Files, IsNeverSaid, text}
use Rattle.fr_params.specs.UpgradeAnswer.{IsUpgrade}
use Rattle.fr_params.proofs.Upgraded.{upgrade_of}
use Rattle.fr_params.proofs.upgrade.answer_upgrade.Goals as goal

abbrev end : Values → Files
end p = text (IsUpgrade p) IsNeverSaid

pub returns-in_err-params-clause-ends : goal.returns-in_err-params-clause-ends
returns-in_err-params-clause-ends g c =
    let e = err_from_is_err_and c.from_residual.result c.from_residual.ensures.1 in
    rw (e.1, e.2) (stops_first params_file params_says end c.args.file.now [] _ _ _ c.in_err-params.ensures.later c.in_err-params.ensures.stops)

pub returns-in_err-write-clause-ends : goal.returns-in_err-write-clause-ends
returns-in_err-write-clause-ends g c =
    let is : c.from_residual-in_err-write.result ≡ Err WriteFault = search rules in
    let has = c.in_ok-params.ensures.accepted in
    ends_cut_short _ _ _ _ _ _ is (record { is_text = (c.in_ok-params.params, has, upgrade_of _ _ _ has); asked = c.in_ok-params.ensures.later.one_load }) c.in_err-write.ensures

pub returns-clause-ends : goal.returns-clause-ends
returns-clause-ends g c =
    let has = c.in_ok-params.ensures.accepted in
    whole _ _ _ _ (record { is_text = (c.in_ok-params.params, has, upgrade_of _ _ _ has); asked = c.in_ok-params.ensures.later.one_load }) c.in_ok-write.ensures
