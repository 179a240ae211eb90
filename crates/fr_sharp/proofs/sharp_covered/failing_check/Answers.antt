use Rattle.std.proofs.Common.{Some, ap, sym, ◌∙◌}
use Rattle.fr_coverage.specs.declared.gap.Gap.{Gap}
use Rattle.fr_sharp.proofs.SharpCovering.{sharp_checks-none, sharp_checks-some}
use Rattle.fr_sharp.proofs.sharp_covered.failing_check.Goals as goal

pub returns-in-Ok : goal.returns-in-Ok
returns-in-Ok c = sym (sharp_checks-none c.args.beside c.args.params.now c.args.flutter c.in-Ok.ensures.all)

pub returns-in-Err : goal.returns-in-Err
returns-in-Err c =
    ap (λ (g : Gap). Some g) c.failed.ensures ∙ sym (sharp_checks-some c.args.beside c.args.params.now c.args.flutter c.in-Err.number c.in-Err.ensures.first)
