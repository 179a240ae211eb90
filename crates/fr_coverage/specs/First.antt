-- What is found first along numbers and along lists.
use Rattle.std.specs.Prelude.{ℕ, zero, suc, nat_le, List, [], ◌∷◌, Option, None, if◌then◌else◌}
use Rattle.std.specs.Option.{option_or}

-- what the first number below a limit gives that gives something
unfoldable pub first_below : {A : Type 0} → (ℕ → Option A) → ℕ → Option A
first_below what zero = None
first_below what (suc n) = option_or (first_below what n) (what n)

-- the same from a number on: those before it give nothing
abbrev pub from_on : {A : Type 0} → ℕ → (ℕ → Option A) → ℕ → Option A
from_on from what n = if nat_le from n then what n else None

abbrev pub first_between : {A : Type 0} → (ℕ → Option A) → ℕ → ℕ → Option A
first_between what from limit = first_below (from_on from what) limit

-- what the first element of a list gives that gives something
unfoldable pub first_in : {A B : Type 0} → (A → Option B) → List A → Option B
first_in what [] = None
first_in what (x ∷ xs) = option_or (what x) (first_in what xs)
