-- Vectors of twelve places.
use Rattle.std.proofs.Common.{◌≡◌, ℕ, List, [], ◌∷◌, length, get_or, refl, sym, arith}
use Rattle.std.specs.Prelude.{bit_or}
use Rattle.fr_nm.specs.Vectors.{or_bytes}

twelve : (xs : List ℕ) → length xs ≡ 12
    → xs ≡ get_or xs 0 0 ∷ get_or xs 1 0 ∷ get_or xs 2 0 ∷ get_or xs 3 0 ∷ get_or xs 4 0 ∷ get_or xs 5 0 ∷ get_or xs 6 0 ∷ get_or xs 7 0 ∷ get_or xs 8 0 ∷ get_or xs 9 0 ∷ get_or xs 10 0 ∷ get_or xs 11 0 ∷ []
twelve [] e = absurd (omega arith)
twelve (a ∷ []) e = absurd (omega arith)
twelve (a ∷ b ∷ []) e = absurd (omega arith)
twelve (a ∷ b ∷ c ∷ []) e = absurd (omega arith)
twelve (a ∷ b ∷ c ∷ d ∷ []) e = absurd (omega arith)
twelve (a ∷ b ∷ c ∷ d ∷ f ∷ []) e = absurd (omega arith)
twelve (a ∷ b ∷ c ∷ d ∷ f ∷ g ∷ []) e = absurd (omega arith)
twelve (a ∷ b ∷ c ∷ d ∷ f ∷ g ∷ h ∷ []) e = absurd (omega arith)
twelve (a ∷ b ∷ c ∷ d ∷ f ∷ g ∷ h ∷ i ∷ []) e = absurd (omega arith)
twelve (a ∷ b ∷ c ∷ d ∷ f ∷ g ∷ h ∷ i ∷ j ∷ []) e = absurd (omega arith)
twelve (a ∷ b ∷ c ∷ d ∷ f ∷ g ∷ h ∷ i ∷ j ∷ k ∷ []) e = absurd (omega arith)
twelve (a ∷ b ∷ c ∷ d ∷ f ∷ g ∷ h ∷ i ∷ j ∷ k ∷ l ∷ []) e = absurd (omega arith)
twelve (a ∷ b ∷ c ∷ d ∷ f ∷ g ∷ h ∷ i ∷ j ∷ k ∷ l ∷ m ∷ []) e = refl
twelve (a ∷ b ∷ c ∷ d ∷ f ∷ g ∷ h ∷ i ∷ j ∷ k ∷ l ∷ m ∷ n ∷ xs) e = absurd (omega arith)

pub or_twelve : (xs ys : List ℕ) → length xs ≡ 12 → length ys ≡ 12
    → bit_or (get_or xs 0 0) (get_or ys 0 0) ∷ bit_or (get_or xs 1 0) (get_or ys 1 0) ∷ bit_or (get_or xs 2 0) (get_or ys 2 0) ∷ bit_or (get_or xs 3 0) (get_or ys 3 0) ∷ bit_or (get_or xs 4 0) (get_or ys 4 0) ∷ bit_or (get_or xs 5 0) (get_or ys 5 0) ∷ bit_or (get_or xs 6 0) (get_or ys 6 0) ∷ bit_or (get_or xs 7 0) (get_or ys 7 0) ∷ bit_or (get_or xs 8 0) (get_or ys 8 0) ∷ bit_or (get_or xs 9 0) (get_or ys 9 0) ∷ bit_or (get_or xs 10 0) (get_or ys 10 0) ∷ bit_or (get_or xs 11 0) (get_or ys 11 0) ∷ [] ≡ or_bytes xs ys
unfolding or_bytes
or_twelve xs ys e f = sym (λ i. or_bytes (twelve xs e i) (twelve ys f i))
