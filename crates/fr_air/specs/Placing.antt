-- Lists in ascending order of number, and what is put into them.
use Rattle.std.specs.Prelude.{ℕ, nat_lt, List, [], ◌∷◌, if◌then◌else◌}

-- an element stands before the first one of a greater number
abbrev pub put : {X : Type 0} → (X → ℕ) → X → List X → List X
put number x [] = x ∷ []
put number x (y ∷ ys) = if nat_lt (number x) (number y) then x ∷ y ∷ ys else y ∷ put number x ys

-- and so do all of some elements
abbrev pub put_all : {X : Type 0} → (X → ℕ) → List X → List X → List X
put_all number [] ys = ys
put_all number (x ∷ xs) ys = put_all number xs (put number x ys)
