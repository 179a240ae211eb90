-- When clocks that begin apart are in sharp sync for certain, how far apart they may lie on the way, in ticks, and which check
-- for the way fails first.
use Rattle.std.specs.Prelude.{ℕ, ℤ, zero, suc, pos, ◌≡◌, ◌<◌, ◌≤◌, nat_le, Bool, true, false, Option, Some, None}
use Rattle.fr_bound.specs.declared.checking.CheckSides.{CheckSides}
use Rattle.fr_cluster.specs.Values.{Values}
use Rattle.fr_promise.specs.declared.way.SharpWay.{SharpWay}
use Rattle.fr_bound.specs.SharpBounds.{walk_lasts}
use Rattle.fr_bound.specs.SharpChecks.{sharp_holds_of, sharp_left_of, sharp_right_of}
use Rattle.fr_bound.specs.SharpSpreads.{sharply_apart_in, sharply_near_in}
use Rattle.fr_bound.specs.SharpSpreads.{IsSharplySettled}
use Rattle.fr_precision.specs.SharpSettling.{sharp_spread_after}

-- the first double cycle in which they are no further apart than in sharp sync
pub record SettlesSharplyAt (beside : Bool) (p : Values) (flutter start rate double : ℕ) : Type 0 where
  pub settled : IsSharplySettled beside p flutter (sharp_spread_after beside p flutter start rate double)
  pub first :
      (earlier : ℕ) → earlier < double → IsSharplySettled beside p flutter (sharp_spread_after beside p flutter start rate earlier) → ⊥

-- by then they are, beside arbitrary nodes or without
abbrev pub settled_by : Bool → ℕ
settled_by false = 2
settled_by true = 82

-- the greatest of numbers by double cycle, up to one
pub record IsGreatestTo (in_double : ℕ → ℕ) (double most : ℕ) : Type 0 where
  pub greatest : (n : ℕ) → n ≤ double → in_double n ≤ most
  pub place : ℕ
  pub up_to : place ≤ double
  pub reached : in_double place ≡ most

-- how far macroticks and action points may lie apart in a double cycle on the way
abbrev pub apart_after : Bool → Values → ℕ → ℕ → ℕ → ℕ → ℕ
apart_after beside p flutter start rate double = sharply_apart_in p (sharp_spread_after beside p flutter start rate double)

abbrev pub near_after : Bool → Values → ℕ → ℕ → ℕ → ℕ → ℕ
near_after beside p flutter start rate double = sharply_near_in p (sharp_spread_after beside p flutter start rate double)

-- a double cycle, and the greatest of both up to it
pub record LeadsTo (beside : Bool) (p : Values) (flutter start rate double peak reach : ℕ) : Type 0 where
  pub settles : SettlesSharplyAt beside p flutter start rate double
  pub soon : double ≤ settled_by beside
  pub peak_is : IsGreatestTo (apart_after beside p flutter start rate) double peak
  pub reach_is : IsGreatestTo (near_after beside p flutter start rate) double reach

-- ---- the checks for the way: from the second on with the reach, and the first one where the walk does not last so long

-- whether it lasts for so many double cycles
abbrev pub lasts_for : ℕ → Option ℕ → Bool
lasts_for doubles None = true
lasts_for doubles (Some lasts) = nat_le doubles lasts

abbrev pub way_holds_of : ℕ → ℕ → ℕ → ℕ → Values → Bool
way_holds_of (suc zero) flutter doubles reach p = lasts_for doubles (walk_lasts p flutter)
way_holds_of other flutter doubles reach p = sharp_holds_of other flutter reach p

-- both sides of one, and whether it holds
pub record IsWayCheckOf (number flutter doubles reach : ℕ) (p : Values) (sides : CheckSides) : Type 0 where
  pub left : sides.left ≡ pos (sharp_left_of number p)
  pub right : sides.right ≡ pos (sharp_right_of number flutter reach p)
  pub holds : sides.holds ≡ way_holds_of number flutter doubles reach p

-- every one holds
abbrev pub AllWayChecksHold : Values → ℕ → ℕ → ℕ → Type 0
AllWayChecksHold p flutter doubles reach = (k : ℕ) → 1 ≤ k → k ≤ 5 → way_holds_of k flutter doubles reach p ≡ true

-- the one of this number fails, with these sides, and those of lesser numbers hold
pub record FailsOnTheWay (p : Values) (flutter doubles reach number : ℕ) (left right : ℤ) : Type 0 where
  pub from : 1 ≤ number
  pub to : number ≤ 5
  pub fails : way_holds_of number flutter doubles reach p ≡ false
  pub earlier : (k : ℕ) → 1 ≤ k → k < number → way_holds_of k flutter doubles reach p ≡ true
  pub left_is : left ≡ pos (sharp_left_of number p)
  pub right_is : right ≡ pos (sharp_right_of number flutter reach p)

-- what is said where a check that fails is named, and where none is
abbrev pub IsWayVerdict : Values → ℕ → ℕ → ℕ → Option (ℕ × ℤ × ℤ) → Type 0
IsWayVerdict p flutter doubles reach None = AllWayChecksHold p flutter doubles reach
IsWayVerdict p flutter doubles reach (Some failed) = FailsOnTheWay p flutter doubles reach failed.0 failed.1 failed.2

-- ---- all of it

-- the way of clocks whose first starts and even lengths lie so far apart at most, where delays flutter so much
pub record IsSharpWay (beside : Bool) (p : Values) (flutter start rate : ℕ) (way : SharpWay) : Type 0 where
  pub leads : LeadsTo beside p flutter start rate way.doubles way.peak way.reach
  pub verdict : IsWayVerdict p flutter way.doubles way.reach way.failed

-- it is one
abbrev pub OneSharpWay : Type 0
OneSharpWay =
    (beside : Bool) (p : Values) (flutter start rate : ℕ) (one other : SharpWay)
    → IsSharpWay beside p flutter start rate one → IsSharpWay beside p flutter start rate other → one ≡ other
