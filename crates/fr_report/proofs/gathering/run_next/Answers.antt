use Rattle.std.proofs.Common.{Option, refl, subst, arith}
use Rattle.std.specs.Borrow.{Bor}
use Rattle.fr_base.specs.declared.cycle_row.CycleRow.{CycleRow}
use Rattle.fr_world.specs.Ends.{IsCycled}
use Rattle.fr_report.proofs.gathering.run_next.Goals as goal

pub unreachable-requires : goal.unreachable-requires
unreachable-requires c = let over = c.in-None.ensures.over.0 refl in omega (arith, c.requires, over)

pub returns : goal.returns
returns c = subst (λ (row : Option (Bor CycleRow)). IsCycled c.args.world.now row c.cycle.follows.lender-at-none) c.in-Some.is c.cycle.follows.holds-at-none
