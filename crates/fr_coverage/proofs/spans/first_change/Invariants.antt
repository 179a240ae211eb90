use Rattle.std.proofs.Common.{◌≡◌, ◌≤◌, ◌<◌, ◌*◌, ◌-◌, suc, None}
use Rattle.fr_coverage.specs.First.{first_between}
use Rattle.fr_coverage.specs.Coverage.{change_gap, how_many_cycles}
use Rattle.fr_coverage.proofs.spans.first_change.Given as goal

abbrev pub invariant-loop-cycle : goal.invariant-loop-cycle
invariant-loop-cycle l = record {
  within : l.cycle ≤ how_many_cycles l.drift;
  behind : l.cycle < how_many_cycles l.drift → suc (2 * l.from) ≤ l.cycle;
  none : first_between (change_gap l.params l.drift l.node) (suc (2 * l.from)) l.cycle ≡ None;
}

abbrev pub decreases-loop-cycle : goal.decreases-loop-cycle
decreases-loop-cycle l = how_many_cycles l.drift - l.cycle
