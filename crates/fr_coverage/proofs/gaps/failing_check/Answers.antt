use Rattle.std.proofs.Common.{Bool, Some, ap, sym, ◌∙◌}
use Rattle.fr_coverage.specs.Coverage.{asked_where, check_gap}
use Rattle.fr_coverage.specs.First.{first_below}
use Rattle.fr_coverage.specs.declared.gap.Gap.{Gap}
use Rattle.fr_coverage.proofs.Checks.{checks-none, asked-some, five-asked}
use Rattle.fr_coverage.proofs.gaps.failing_check.Goals as goal

pub returns-else-joins : goal.returns-else-joins
returns-else-joins c = sym (ap (λ (b : Bool). first_below (check_gap c.args.params.now) (asked_where b)) c.if-joins.false ∙ checks-none c.args.params.now c.in-Ok.ensures.all)

pub returns-in-Err : goal.returns-in-Err
returns-in-Err c =
    ap (λ (g : Gap). Some g) c.failed.ensures
    ∙ sym (asked-some c.args.params.now c.in-Err.number (asked_where c.args.joins) c.in-Err.ensures.first (five-asked c.args.joins))
