-- How long clocks that begin apart take until they are in sharp sync, and how far they may lie apart on the way, in ticks.
use Rattle.std.specs.Prelude.{ℕ, zero, suc, ◌+◌, ◌*◌, ◌≤◌, Bool, true, false}
use Rattle.fr_cluster.specs.Values.{Values}
use Rattle.fr_cluster.specs.Sane.{IsSane}
use Rattle.fr_bound.specs.declared.settling.Spread.{Spread}
use Rattle.fr_bound.specs.Bounds.{arrival_error, lambda_of, longest_micro, pi_of, precision_of}
use Rattle.fr_bound.specs.SharpBounds.{odd_spread}
use Rattle.fr_bound.specs.SharpSpreads.{first_sharp_spread, next_sharp_spread, sharply_apart_in, sharply_near_in, IsSharplySettled}
use Rattle.fr_precision.specs.SharpStep.{DrawsTo}

-- in a double cycle by its number
unfoldable pub sharp_spread_after : Bool → Values → ℕ → ℕ → ℕ → ℕ → Spread
sharp_spread_after beside p flutter start rate zero = first_sharp_spread beside p flutter start rate
sharp_spread_after beside p flutter start rate (suc double) =
    next_sharp_spread beside p flutter (sharp_spread_after beside p flutter start rate double)

-- these are numbers that the step draws to
abbrev pub NextSpreadDraws : Type 0
NextSpreadDraws =
    (beside : Bool) (p : Values) (flutter : ℕ) (s : Spread)
    → DrawsTo beside p flutter s.starts s.lengths (next_sharp_spread beside p flutter s).starts (next_sharp_spread beside p flutter s).lengths

-- the next starts and a microtick lie no further apart than macroticks do
abbrev pub NextStartsFit : Type 0
NextStartsFit =
    (beside : Bool) (p : Values) (flutter start rate double : ℕ)
    → (sharp_spread_after beside p flutter start rate (suc double)).starts + longest_micro p
    ≤ sharply_apart_in p (sharp_spread_after beside p flutter start rate double)

-- clocks that are settled stay so
abbrev pub SettledStays : Type 0
SettledStays =
    (beside : Bool) (p : Values) (flutter : ℕ) (s : Spread)
    → IsSharplySettled beside p flutter s → IsSharplySettled beside p flutter (next_sharp_spread beside p flutter s)

-- without arbitrary nodes they are after two double cycles
abbrev pub AloneSettlesSoon : Type 0
AloneSettlesSoon =
    (p : Values) (flutter start rate : ℕ) → IsSharplySettled false p flutter (sharp_spread_after false p flutter start rate 2)

-- beside arbitrary nodes after 82, of numbers up to 1,000,000,000,000
abbrev pub BesideSettlesSoon : Type 0
BesideSettlesSoon =
    (p : Values) (flutter start rate : ℕ) → start ≤ 1_000_000_000_000 → rate ≤ 1_000_000_000_000
    → IsSharplySettled true p flutter (sharp_spread_after true p flutter start rate 82)

-- clocks that are in sync in the older sense, with the older numbers to begin with: from the second double cycle on neither
-- starts nor odd lengths lie further apart than those, nor action points nor macroticks than the older precision
pub record FitsOlder (p : Values) (s : Spread) : Type 0 where
  pub starts_fit : s.starts ≤ pi_of p
  pub odds_fit : odd_spread p s.lengths ≤ lambda_of p
  pub near_fits : sharply_near_in p s ≤ precision_of p
  pub apart_fits : sharply_apart_in p s ≤ precision_of p

abbrev pub OlderWayFits : Type 0
OlderWayFits =
    (beside : Bool) (p : Values) (flutter double : ℕ) → IsSane p → flutter ≤ 2 * arrival_error p
    → FitsOlder p (sharp_spread_after beside p flutter (pi_of p) (lambda_of p) (suc double))
