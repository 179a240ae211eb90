use Rattle.std.proofs.Common.{Some, ap, sym, ◌∙◌}
use Rattle.fr_coverage.specs.declared.gap.Gap.{Gap}
use Rattle.fr_coverage.proofs.Checks.{all-none, join-some}
use Rattle.fr_coverage.proofs.gaps.failing_join_check.Goals as goal

pub returns-in-Ok : goal.returns-in-Ok
returns-in-Ok c = sym (all-none c.args.params.now c.requires c.in-Ok.ensures.all)

pub returns-in-Err : goal.returns-in-Err
returns-in-Err c = ap (λ (g : Gap). Some g) c.failed.ensures ∙ sym (join-some c.args.params.now c.in-Err.number c.requires c.in-Err.ensures.first)
