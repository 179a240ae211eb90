-- The fault-tolerant midpoint (section 8.6.1), by ranks.
use Rattle.std.specs.Prelude.{◌≡◌, ℕ, ◌<◌, ◌≤◌, Bool, ◌&&◌, nat_lt, nat_le, ℤ, pos, ◌+ℤ◌, int_lt, int_le, int_div, if◌then◌else◌, Option, Some, None, unwrap_or, List, [], ◌∷◌, length, count_by, find}

-- how many values of n are discarded at each end (section 8.6.1)
abbrev pub discarded : ℕ → ℕ
discarded n = if nat_lt n 3 then 0 else (if nat_lt n 8 then 1 else 2)

-- the greatest of the values, in microticks: as much as two deviations
abbrev pub most_value : ℕ
most_value = 2_000_000

-- half of the sum of two numbers, truncated toward zero (sections 8.6.1 and 8.6.3)
abbrev pub half_of_sum : ℤ → ℤ → ℤ
half_of_sum low high = int_div (low +ℤ high) (pos 2)

-- the least value that remains where k are discarded: at most k values lie below it, and more than k at or below it
pub record IsLow (k : ℕ) (values : List ℤ) (low : ℤ) : Type 0 where
  pub few_below : count_by (λ value. int_lt value low) values ≤ k
  pub more_up_to : k < count_by (λ value. int_le value low) values

-- the greatest value that remains where k are discarded: at most k values lie above it, and more than k at or above it
pub record IsHigh (k : ℕ) (values : List ℤ) (high : ℤ) : Type 0 where
  pub few_above : count_by (λ value. int_lt high value) values ≤ k
  pub more_from : k < count_by (λ value. int_le high value) values

-- the midpoint of some values (section 8.6.1): half of the sum of the least and the greatest value that remain
pub record IsMidpoint (values : List ℤ) (mid : ℤ) : Type 0 where
  pub low : ℤ
  pub high : ℤ
  pub least : IsLow (discarded (length values)) values low
  pub greatest : IsHigh (discarded (length values)) values high
  pub half : mid ≡ half_of_sum low high

-- a number is the least value that remains where k are discarded, as a test
abbrev pub is_low : ℕ → List ℤ → ℤ → Bool
is_low k values low =
    nat_le (count_by (λ value. int_lt value low) values) k && nat_lt k (count_by (λ value. int_le value low) values)

-- a number is the greatest value that remains where k are discarded, as a test
abbrev pub is_high : ℕ → List ℤ → ℤ → Bool
is_high k values high =
    nat_le (count_by (λ value. int_lt high value) values) k && nat_lt k (count_by (λ value. int_le high value) values)

-- half of the sum of the first value whose rank is the least that remains and the first whose rank is the greatest
unfoldable pub midpoint_by_ranks : List ℤ → ℤ
midpoint_by_ranks values =
    half_of_sum
    (unwrap_or (find (is_low (discarded (length values)) values) values) (pos 0))
    (unwrap_or (find (is_high (discarded (length values)) values) values) (pos 0))

-- the midpoint of some values as a number, and none without values (section 8.6.1)
abbrev pub midpoint_of : List ℤ → Option ℤ
midpoint_of [] = None
midpoint_of (value ∷ values) = Some (midpoint_by_ranks (value ∷ values))

-- the midpoint of a list is the number that its values' ranks give
abbrev pub MidpointIsFound : Type 0
MidpointIsFound = (values : List ℤ) (mid : ℤ) → IsMidpoint values mid → midpoint_of values ≡ Some mid

-- and a list with a value has it
abbrev pub MidpointIsThere : Type 0
MidpointIsThere = (value : ℤ) (values : List ℤ) → IsMidpoint (value ∷ values) (midpoint_by_ranks (value ∷ values))

-- no list has two midpoints
abbrev pub MidpointIsUnique : Type 0
MidpointIsUnique = (values : List ℤ) (one other : ℤ) → IsMidpoint values one → IsMidpoint values other → one ≡ other
