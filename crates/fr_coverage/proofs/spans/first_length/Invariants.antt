use Rattle.std.proofs.Common.{◌≡◌, ◌≤◌, ◌<◌, ◌*◌, ◌-◌, None}
use Rattle.fr_coverage.specs.First.{first_between}
use Rattle.fr_coverage.specs.Coverage.{length_gap, how_many_cycles}
use Rattle.fr_coverage.proofs.spans.first_length.Given as goal

abbrev pub invariant-loop-cycle : goal.invariant-loop-cycle
invariant-loop-cycle l = record {
  within : l.cycle ≤ how_many_cycles l.drift;
  behind : l.cycle < how_many_cycles l.drift → 2 * l.from ≤ l.cycle;
  none : first_between (length_gap l.params l.drift l.node) (2 * l.from) l.cycle ≡ None;
}

abbrev pub decreases-loop-cycle : goal.decreases-loop-cycle
decreases-loop-cycle l = how_many_cycles l.drift - l.cycle
