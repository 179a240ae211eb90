-- Lists of what stands at numbers, in ascending order.
use Rattle.std.specs.Prelude.{ℕ, zero, suc, List, [], ◌∷◌, ◌++◌, Option, Some, None}

-- a list of one, or of none
abbrev pub as_list : {A : Type 0} → Option A → List A
as_list None = []
as_list (Some x) = x ∷ []

-- what stands at the numbers from 1 to n, in that order
unfoldable pub listed : {A : Type 0} → ℕ → (ℕ → Option A) → List A
listed zero at = []
listed (suc n) at = listed n at ++ as_list (at (suc n))
