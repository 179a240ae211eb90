-- How long clocks that begin apart take until they are in sync, and how far they may lie apart on the way (this project's
-- own; the corrections are those of section 8.6).
use Rattle.std.specs.Prelude.{ℕ, zero, suc, ◌≡◌, ◌+◌, ◌*◌, ◌/◌, ◌<◌, ◌≤◌, pos, ℤ, Bool, true, false, nat_le, nat_lt, max, Option, Some, None}
use Rattle.fr_cluster.specs.Values.{Values}
use Rattle.fr_bound.specs.declared.checking.CheckSides.{CheckSides}
use Rattle.fr_bound.specs.declared.settling.Spread.{Spread}
use Rattle.fr_bound.specs.Bounds.{longest_micro, arrival_error, lambda_of, pi_of}
use Rattle.fr_bound.specs.Checks.{back_need_of, front_need_of, left_of, right_of}

-- how far starts and lengths may lie apart in the first double cycle: as is stated, and no less than in sync
abbrev pub first_spread : Values → ℕ → ℕ → Spread
first_spread p start rate = record { starts = max start (pi_of p); lengths = max rate (lambda_of p) }

-- in the double cycle after one: half as far, and some, rounded down
abbrev pub next_spread : Values → Spread → Spread
next_spread p s = record {
  starts = (s.starts + 6 * s.lengths + 4 * arrival_error p + 8 * longest_micro p) / 2;
  lengths = (s.lengths + lambda_of p) / 2;
}

-- in a double cycle by its number
unfoldable pub spread_after : Values → ℕ → ℕ → ℕ → Spread
spread_after p start rate zero = first_spread p start rate
spread_after p start rate (suc double) = next_spread p (spread_after p start rate double)

-- no further than in sync
abbrev pub IsSettled : Values → Spread → Type 0
IsSettled p s = (s.lengths ≡ lambda_of p) × (s.starts ≡ pi_of p)

-- the first double cycle that is so
pub record SettlesAt (p : Values) (start rate double : ℕ) : Type 0 where
  pub settled : IsSettled p (spread_after p start rate double)
  pub first : (earlier : ℕ) → earlier < double → IsSettled p (spread_after p start rate earlier) → ⊥

-- how far macroticks may lie apart
abbrev pub apart_in : Values → Spread → ℕ
apart_in p s = s.starts + 2 * s.lengths + 2 * longest_micro p

-- the greatest such number up to a double cycle
pub record IsPeakTo (p : Values) (start rate double peak : ℕ) : Type 0 where
  pub greatest : (n : ℕ) → n ≤ double → apart_in p (spread_after p start rate n) ≤ peak
  pub place : ℕ
  pub up_to : place ≤ double
  pub reached : apart_in p (spread_after p start rate place) ≡ peak

-- ---- the checks for the way: the last three with the peak in place of the precision

-- their numbers
pub record IsSettleCheck (number : ℕ) : Type 0 where
  pub from : 1 ≤ number
  pub to : number ≤ 5

abbrev pub settle_right_of : ℕ → ℕ → Values → ℕ
settle_right_of (suc (suc (suc zero))) peak p = peak + arrival_error p + longest_micro p
settle_right_of (suc (suc (suc (suc zero)))) peak p = front_need_of p peak
settle_right_of (suc (suc (suc (suc (suc zero))))) peak p = back_need_of p peak
settle_right_of other peak p = right_of other p

abbrev pub settle_holds_of : ℕ → ℕ → Values → Bool
settle_holds_of (suc (suc (suc (suc (suc zero))))) peak p = nat_lt (settle_right_of 5 peak p) (left_of 5 p)
settle_holds_of number peak p = nat_le (settle_right_of number peak p) (left_of number p)

-- both sides of a check for the way, and whether it holds
pub record IsSettleCheckOf (number peak : ℕ) (p : Values) (sides : CheckSides) : Type 0 where
  pub left : sides.left ≡ pos (left_of number p)
  pub right : sides.right ≡ pos (settle_right_of number peak p)
  pub holds : sides.holds ≡ settle_holds_of number peak p

-- every one holds
abbrev pub AllSettleChecksHold : Values → ℕ → Type 0
AllSettleChecksHold p peak = (k : ℕ) → 1 ≤ k → k ≤ 5 → settle_holds_of k peak p ≡ true

-- the one of this number fails, with these sides, and those of lesser numbers hold
pub record FailsToSettle (p : Values) (peak number : ℕ) (left right : ℤ) : Type 0 where
  pub from : 1 ≤ number
  pub to : number ≤ 5
  pub fails : settle_holds_of number peak p ≡ false
  pub earlier : (k : ℕ) → 1 ≤ k → k < number → settle_holds_of k peak p ≡ true
  pub left_is : left ≡ pos (left_of number p)
  pub right_is : right ≡ pos (settle_right_of number peak p)

-- what is said where a check that fails is named, and where none is
abbrev pub IsSettleVerdict : Values → ℕ → Option (ℕ × ℤ × ℤ) → Type 0
IsSettleVerdict p peak None = AllSettleChecksHold p peak
IsSettleVerdict p peak (Some failed) = FailsToSettle p peak failed.0 failed.1 failed.2

-- the greatest number of ticks that may be stated
abbrev pub most_stated : ℕ
most_stated = 1_000_000_000_000
