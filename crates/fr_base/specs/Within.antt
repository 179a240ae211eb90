-- Numbers within a bound.
use Rattle.std.specs.Prelude.{ℤ, neg_ℤ, ◌≤ℤ◌, ◌-ℤ◌, int_lt, ◌||◌, not, Bool, List, All}

-- a number lies within a bound of 0, on either side
pub record IsWithin (bound value : ℤ) : Type 0 where
  pub low : neg_ℤ bound ≤ℤ value
  pub high : value ≤ℤ bound

-- the same as a truth value
abbrev pub lies_within : ℤ → ℤ → Bool
lies_within bound value = not (int_lt value (neg_ℤ bound) || int_lt bound value)

-- a number lies from one number to another
pub record IsBetween (least greatest value : ℤ) : Type 0 where
  pub low : least ≤ℤ value
  pub high : value ≤ℤ greatest

-- any two of some numbers lie at most so far apart
abbrev pub LieWithin : ℤ → List ℤ → Type 0
LieWithin bound xs = All (λ a. All (λ b. (a -ℤ b) ≤ℤ bound) xs) xs
