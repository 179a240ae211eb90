-- What it costs, in ticks, where any frames may be lost in some double cycles from one in sharp sync on, without arbitrary sync
-- nodes: in so many in a row, in so many odd cycles and the even ones behind them, or in every second one for ever; and how many in a row
-- the limits of the parameters bear.
use Rattle.std.specs.Prelude.{◌≡◌, ◌⊎◌, ◌&&◌, ℕ, suc, ◌<◌, ◌≤◌, nat_le, Bool, true, false, Option, Some, None}
use Rattle.fr_cluster.specs.Sane.{IsSane}
use Rattle.fr_cluster.specs.Values.{Values}
use Rattle.fr_sharp.specs.declared.loss_checks.LossSides.{LossSides}
use Rattle.fr_sharp.specs.declared.loss_costs.LossCost.{LossCost}
use Rattle.fr_sharp.specs.declared.loss_costs.SecondCost.{SecondCost}
use Rattle.fr_sharp.specs.declared.loss_costs.CrossingCost.{CrossingCost}
use Rattle.fr_precision.specs.Among.{apart_through_losses, crossing, every_second, lost_spread, spread_through_losses}
use Rattle.fr_sharp.specs.Losses.{lost_apart}
use Rattle.fr_bound.specs.SharpBounds.{sharp_precision}
use Rattle.fr_bound.specs.SharpChecks.{sharp_holds_of, sharp_left_of, sharp_right_of}
use Rattle.fr_bound.specs.SharpSpreads.{sharply_near_in}

-- ---- so many double cycles in a row

-- in the first so many any frames may be lost, in each later one all is heard
abbrev pub heard_behind : ℕ → ℕ → Bool
heard_behind count double = nat_le count double

-- how far macroticks and action points may then lie apart in each double cycle, counted from the first of them
abbrev pub apart_in_a_row : Values → ℕ → ℕ → ℕ → ℕ
apart_in_a_row p flutter count double = lost_apart p flutter (heard_behind count) double

abbrev pub near_in_a_row : Values → ℕ → ℕ → ℕ → ℕ
near_in_a_row p flutter count double = sharply_near_in p (lost_spread p flutter (heard_behind count) double)

-- the greatest of numbers by double cycle
pub record IsGreatest (in_double : ℕ → ℕ) (most : ℕ) : Type 0 where
  pub greatest : (double : ℕ) → in_double double ≤ most
  pub place : ℕ
  pub reached : in_double place ≡ most

-- the double cycle from which on macroticks lie no further apart than the sharper precision; in each one before it they may
pub record IsBack (p : Values) (flutter count back : ℕ) : Type 0 where
  pub since : (double : ℕ) → back ≤ double → apart_in_a_row p flutter count double ≡ sharp_precision false p flutter
  pub before : (double : ℕ) → double < back → sharp_precision false p flutter < apart_in_a_row p flutter count double

-- the peak, the reach and the way back
pub record IsLossCost (p : Values) (flutter count : ℕ) (cost : LossCost) : Type 0 where
  pub peak : IsGreatest (apart_in_a_row p flutter count) cost.peak
  pub reach : IsGreatest (near_in_a_row p flutter count) cost.reach
  pub back : IsBack p flutter count cost.back

-- ---- so many odd cycles and the even ones behind them

-- how far macroticks and action points may lie apart in each double cycle where a burst does not begin with one, counted from the first of
-- which it takes frames
abbrev pub apart_crossing : Values → ℕ → ℕ → ℕ → ℕ
apart_crossing p flutter count double = apart_through_losses false p flutter (crossing count) double

abbrev pub near_crossing : Values → ℕ → ℕ → ℕ → ℕ
near_crossing p flutter count double = sharply_near_in p (spread_through_losses false p flutter (crossing count) double)

-- the peak and the reach
pub record IsCrossingCost (p : Values) (flutter count : ℕ) (cost : CrossingCost) : Type 0 where
  pub peak : IsGreatest (apart_crossing p flutter count) cost.peak
  pub reach : IsGreatest (near_crossing p flutter count) cost.reach

-- ---- every second double cycle

-- of any two adjacent double cycles all is heard in one
abbrev pub HearsEverySecond : (ℕ → Bool) → Type 0
HearsEverySecond whole = (double : ℕ) → (whole double ≡ true) ⊎ (whole (suc double) ≡ true)

-- the greatest of numbers by what is heard so, and by double cycle
pub record IsGreatestEverySecond (in_double : (ℕ → Bool) → ℕ → ℕ) (most : ℕ) : Type 0 where
  pub greatest : (whole : ℕ → Bool) → HearsEverySecond whole → (double : ℕ) → in_double whole double ≤ most
  pub heard : ℕ → Bool
  pub every : HearsEverySecond heard
  pub place : ℕ
  pub reached : in_double heard place ≡ most

-- the peak and the reach
pub record IsSecondCost (p : Values) (flutter : ℕ) (cost : SecondCost) : Type 0 where
  pub peak : IsGreatestEverySecond (lost_apart p flutter) cost.peak
  pub reach : IsGreatestEverySecond (λ whole double. sharply_near_in p (lost_spread p flutter whole double)) cost.reach

-- ---- the checks

-- both sides of a sharper check with a reach, and whether it holds
pub record IsLossCheck (number flutter reach : ℕ) (p : Values) (sides : LossSides) : Type 0 where
  pub left : sides.left ≡ sharp_left_of number p
  pub right : sides.right ≡ sharp_right_of number flutter reach p
  pub holds : sides.holds ≡ sharp_holds_of number flutter reach p

-- those of the limits, from the third to the fifth, hold with a reach
abbrev pub limits_hold : ℕ → ℕ → Values → Bool
limits_hold flutter reach p = sharp_holds_of 3 flutter reach p && (sharp_holds_of 4 flutter reach p && sharp_holds_of 5 flutter reach p)

-- so they do with the reach of so many double cycles in a row
pub record HoldInARow (p : Values) (flutter count : ℕ) : Type 0 where
  pub reach : ℕ
  pub reach_is : IsGreatest (near_in_a_row p flutter count) reach
  pub holds : limits_hold flutter reach p ≡ true

-- the greatest number of double cycles in a row for which they hold; for any fewer they hold too
pub record IsLongestRow (p : Values) (flutter longest : ℕ) : Type 0 where
  pub all : (count : ℕ) → count ≤ longest → HoldInARow p flutter count
  pub no_more : (count : ℕ) → longest < count → HoldInARow p flutter count → ⊥

-- without a number where they fail though nothing is lost
abbrev pub IsLongest : Values → ℕ → Option ℕ → Type 0
IsLongest p flutter None = (count : ℕ) → HoldInARow p flutter count → ⊥
IsLongest p flutter (Some longest) = IsLongestRow p flutter longest

-- ---- each of these is one, and is there

abbrev pub OneLossCost : Type 0
OneLossCost =
    (p : Values) (flutter count : ℕ) (one other : LossCost)
    → IsLossCost p flutter count one → IsLossCost p flutter count other → one ≡ other

abbrev pub OneSecondCost : Type 0
OneSecondCost =
    (p : Values) (flutter : ℕ) (one other : SecondCost)
    → IsSecondCost p flutter one → IsSecondCost p flutter other → one ≡ other

abbrev pub OneCrossingCost : Type 0
OneCrossingCost =
    (p : Values) (flutter count : ℕ) (one other : CrossingCost)
    → IsCrossingCost p flutter count one → IsCrossingCost p flutter count other → one ≡ other

abbrev pub OneLongest : Type 0
OneLongest =
    (p : Values) (flutter : ℕ) (one other : Option ℕ) → IsLongest p flutter one → IsLongest p flutter other → one ≡ other

abbrev pub SomeLossCost : Type 0
SomeLossCost =
    (p : Values) (flutter count : ℕ) → IsSane p → 1 ≤ count → (cost : LossCost) × IsLossCost p flutter count cost

abbrev pub SomeSecondCost : Type 0
SomeSecondCost = (p : Values) (flutter : ℕ) → IsSane p → (cost : SecondCost) × IsSecondCost p flutter cost

abbrev pub SomeCrossingCost : Type 0
SomeCrossingCost =
    (p : Values) (flutter count : ℕ) → IsSane p → 1 ≤ count → (cost : CrossingCost) × IsCrossingCost p flutter count cost

abbrev pub SomeLongest : Type 0
SomeLongest = (p : Values) (flutter : ℕ) → IsSane p → (longest : Option ℕ) × IsLongest p flutter longest

-- the peak of every second double cycle is the sharper precision and five lambda, two errors of an arrival and two changes
abbrev pub EverySecondIsReached : Type 0
EverySecondIsReached =
    (p : Values) (flutter : ℕ) (cost : SecondCost) → IsSane p → IsSecondCost p flutter cost → cost.peak ≡ every_second p flutter
