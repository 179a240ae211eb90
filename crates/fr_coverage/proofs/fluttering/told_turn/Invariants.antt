use Rattle.std.proofs.Common.{◌≡◌, ◌*◌, ◌<◌, ◌≤◌, ◌-◌, ◌/◌}
use Rattle.std.specs.Prelude.{IfSome}
use Rattle.fr_coverage.specs.Coverage.{how_many_cycles}
use Rattle.fr_coverage.specs.First.{from_on}
use Rattle.fr_coverage.specs.Flutter.{fluttering_in, told_below}
use Rattle.fr_coverage.proofs.fluttering.told_turn.Given as goal

abbrev pub invariant-loop-cycle : goal.invariant-loop-cycle
invariant-loop-cycle l = record {
  within : l.cycle ≤ how_many_cycles l.drift;
  behind : l.cycle < how_many_cycles l.drift → 2 * l.from ≤ l.cycle;
  value : l.told ≡ told_below (from_on l.from (fluttering_in l.drift l.sender l.receiver l.channel)) (l.cycle / 2);
  most : IfSome l.told (λ place. place.ticks ≤ 1_000_000_000);
}

abbrev pub decreases-loop-cycle : goal.decreases-loop-cycle
decreases-loop-cycle l = how_many_cycles l.drift - l.cycle
