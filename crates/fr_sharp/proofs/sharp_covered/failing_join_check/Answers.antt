use Rattle.std.proofs.Common.{Some, ap, sym, ◌∙◌}
use Rattle.fr_coverage.specs.declared.gap.Gap.{Gap}
use Rattle.fr_sharp.proofs.SharpCovering.{join_checks-none, join_checks-some}
use Rattle.fr_sharp.proofs.sharp_covered.failing_join_check.Goals as goal

pub returns-in-Ok : goal.returns-in-Ok
returns-in-Ok c = sym (join_checks-none c.args.beside c.args.params.now c.args.flutter c.in-Ok.ensures.all)

pub returns-in-Err : goal.returns-in-Err
returns-in-Err c =
    ap (λ (g : Gap). Some g) c.failed_to_join.ensures ∙ sym (join_checks-some c.args.beside c.args.params.now c.args.flutter c.in-Err.number c.in-Err.ensures.first)
