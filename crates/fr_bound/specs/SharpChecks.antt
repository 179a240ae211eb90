-- The checks under which the sharper bounds hold, with a reach: how far action points may lie apart. The first one tells
-- whether they hold for ever, or for as many double cycles as the rate limit holds the walk.
use Rattle.std.specs.Prelude.{ℕ, zero, suc, ◌+◌, ◌*◌, ◌<◌, ◌≤◌, ◌≡◌, ◌↔◌, ℤ, pos, ◌+ℤ◌, ◌-ℤ◌, ◌*ℤ◌, ◌≤ℤ◌, Bool, true, false, nat_le}
use Rattle.fr_cluster.specs.Values.{Values, amount}
use Rattle.fr_cluster.specs.Sane.{IsSane}
use Rattle.fr_cluster.specs.declared.names.ParamName.TheVariants as name
use Rattle.fr_bound.specs.Bounds.{arrival_error, cycle_change, longest_micro, shortest_micro}
use Rattle.fr_bound.specs.Checks.{holds_of, left_of}
use Rattle.fr_bound.specs.Settling.{settle_holds_of, settle_right_of}
use Rattle.fr_bound.specs.declared.checking.CheckSides.{CheckSides}
use Rattle.fr_bound.specs.SharpBounds.{rate_walk, sharp_near, wide_change}

-- the left side of a check, by its number: that of the older check, and at the first one tick more
abbrev pub sharp_left_of : ℕ → Values → ℕ
sharp_left_of (suc zero) p = amount p name.pClusterDriftDamping * shortest_micro p + 1
sharp_left_of other p = left_of other p

-- the right side; from the second on it is that of the older checks, with the reach for the precision
abbrev pub sharp_right_of : ℕ → ℕ → ℕ → Values → ℕ
sharp_right_of (suc zero) flutter reach p = shortest_micro p + flutter + cycle_change p + wide_change p
sharp_right_of other flutter reach p = settle_right_of other reach p

-- the check holds
abbrev pub sharp_holds_of : ℕ → ℕ → ℕ → Values → Bool
sharp_holds_of (suc zero) flutter reach p = nat_le (sharp_right_of 1 flutter reach p) (sharp_left_of 1 p)
sharp_holds_of other flutter reach p = settle_holds_of other reach p

-- both sides of a check, and whether it holds
pub record IsSharpCheckFor (number flutter reach : ℕ) (p : Values) (sides : CheckSides) : Type 0 where
  pub left : sides.left ≡ pos (sharp_left_of number p)
  pub right : sides.right ≡ pos (sharp_right_of number flutter reach p)
  pub holds : sides.holds ≡ sharp_holds_of number flutter reach p

-- with how far action points lie apart in sharp sync for the reach
abbrev pub IsSharpCheckOf : ℕ → Bool → ℕ → Values → CheckSides → Type 0
IsSharpCheckOf number beside flutter p sides = IsSharpCheckFor number flutter (sharp_near beside p flutter) p sides

-- all but the first hold
abbrev pub SharpChecksHold : ℕ → ℕ → Values → Type 0
SharpChecksHold flutter reach p = (k : ℕ) → 2 ≤ k → k ≤ 5 → sharp_holds_of k flutter reach p ≡ true

-- the one of this number fails, and those from the second to the one before it hold
pub record FirstSharpFailing (number : ℕ) (beside : Bool) (flutter : ℕ) (p : Values) : Type 0 where
  pub from : 2 ≤ number
  pub to : number ≤ 5
  pub fails : sharp_holds_of number flutter (sharp_near beside p flutter) p ≡ false
  pub earlier :
      (k : ℕ) → 2 ≤ k → k < number → sharp_holds_of k flutter (sharp_near beside p flutter) p ≡ true

-- in a double cycle the lengths leave their range by no more than this, whatever the microtick of a receiver: the flutter,
-- the changes and what arrivals are rounded by, less the damping in microticks
abbrev pub BoundsWalk : Values → ℕ → ℤ → Type 0
BoundsWalk p flutter walk =
    (micro : ℤ) → pos (shortest_micro p) ≤ℤ micro → micro ≤ℤ pos (longest_micro p)
    → ((pos (flutter + cycle_change p + wide_change p) +ℤ (micro -ℤ pos 1)) -ℤ (p.damping *ℤ micro)) ≤ℤ walk

-- the rate limit suffices for lengths that lie so far beyond their range: the second check with so much more
abbrev pub RateSuffices : Values → ℤ → Type 0
RateSuffices p beyond =
    (pos (2 * (amount p name.pMicroPerCycle * amount p name.xRateBound)) +ℤ beyond)
    ≤ℤ pos (amount p name.pRateCorrectionOut * shortest_micro p)

-- the walk of the parameters is one
abbrev pub WalkIsBounded : Type 0
WalkIsBounded = (p : Values) (flutter : ℕ) → IsSane p → BoundsWalk p flutter (rate_walk p flutter)

-- the first check holds exactly where lengths do not walk
abbrev pub FirstCheckStopsWalk : Type 0
FirstCheckStopsWalk =
    (p : Values) (flutter reach : ℕ) → IsSane p
    → (sharp_holds_of 1 flutter reach p ≡ true) ↔ (rate_walk p flutter ≤ℤ pos 0)

-- where the older checks hold, so do these, if delays flutter by no more than twice the error of an arrival
abbrev pub OlderChecksSuffice : Type 0
OlderChecksSuffice =
    (beside : Bool) (p : Values) (flutter number : ℕ) → IsSane p → flutter ≤ 2 * arrival_error p
    → 1 ≤ number → number ≤ 5 → holds_of number p ≡ true → sharp_holds_of number flutter (sharp_near beside p flutter) p ≡ true
