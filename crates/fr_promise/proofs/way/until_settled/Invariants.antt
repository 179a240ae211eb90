use Rattle.std.proofs.Common.{◌≡◌, ℕ, ◌<◌, ◌≤◌}
use Rattle.fr_bound.specs.Settling.{most_stated}
use Rattle.fr_bound.specs.SharpSpreads.{IsSharplySettled}
use Rattle.fr_precision.specs.SharpSettling.{sharp_spread_after}
use Rattle.fr_promise.specs.SharpWay.{apart_after, near_after, IsGreatestTo}
use Rattle.fr_promise.proofs.way.until_settled.Given as goal

-- the spread of this double cycle, none before it at rest, and the greatest of both numbers so far
abbrev pub invariant-loop-double : goal.invariant-loop-double
invariant-loop-double l = record {
  spread : l.spread ≡ sharp_spread_after l.beside l.params l.flutter l.start l.rate l.double;
  earlier : (n : ℕ) → n < l.double → IsSharplySettled l.beside l.params l.flutter (sharp_spread_after l.beside l.params l.flutter l.start l.rate n) → ⊥;
  peak : IsGreatestTo (apart_after l.beside l.params l.flutter l.start l.rate) l.double l.peak;
  reach : IsGreatestTo (near_after l.beside l.params l.flutter l.start l.rate) l.double l.reach;
  starts : l.spread.starts ≤ 3_100_000_000_000;
  lengths : l.spread.lengths ≤ most_stated;
  most : l.reach ≤ 5_200_000_000_000;
}
