use Rattle.std.proofs.Common.{◌≡◌, ◌≤◌, take}
use Rattle.std.specs.Prelude.{IfSome}
use Rattle.fr_coverage.specs.Flutter.{told_in}
use Rattle.fr_coverage.proofs.fluttering.told_among.Given as goal

abbrev pub invariant-loop-place : goal.invariant-loop-place
invariant-loop-place g l = record {
  value : l.told ≡ told_in (g.G.Gauge.gauged l.gauge) (take l.place l.nodes);
  most : IfSome l.told (λ place. place.ticks ≤ 1_000_000_000);
}
