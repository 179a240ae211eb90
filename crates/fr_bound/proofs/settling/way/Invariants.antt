use Rattle.std.proofs.Common.{◌≡◌, ℕ, ◌<◌, ◌≤◌}
use Rattle.fr_bound.specs.Settling.{IsPeakTo, IsSettled, most_stated, spread_after}
use Rattle.fr_bound.proofs.settling.way.Given as goal

abbrev pub invariant-loop-double : goal.invariant-loop-double
invariant-loop-double l = record {
  spread : l.spread ≡ spread_after l.params l.start l.rate l.double;
  earlier : (n : ℕ) → n < l.double → IsSettled l.params (spread_after l.params l.start l.rate n) → ⊥;
  peak : IsPeakTo l.params l.start l.rate l.double l.peak;
  starts : l.spread.starts ≤ 6_100_000_000_000;
  lengths : l.spread.lengths ≤ most_stated;
  most : l.peak ≤ 8_200_000_000_000;
}
