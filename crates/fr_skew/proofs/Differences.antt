-- The spread of some numbers is the greatest of their differences.
use Rattle.std.proofs.Common.{◌≡◌, ◌⊎◌, suc, ◌<◌, ℤ, pos, ◌-ℤ◌, ◌≤ℤ◌, Bool, true, false, List, [], ◌∷◌, length, All, refl, sym, subst, inl, inr, arith}
use Rattle.std.specs.Prelude.{fold, int_le, Contains}
use Rattle.std.specs.Int.{int_max, int_min}
use Rattle.std.proofs.lemmas.Int.{fold-int_max_bounds, fold-int_max_reached, fold-int_min_bounds, fold-int_min_reached, ints}
use Rattle.std.proofs.lemmas.List.Elements.{All-cons, All-weaker, All-nil}
use Rattle.fr_base.specs.Within.{LieWithin}
use Rattle.fr_bound.specs.Sync.{lie_within}
use Rattle.fr_bound.proofs.Sync.{to_within, within_from}
use Rattle.fr_skew.specs.Spreads.{spread_of, HasDifference}

below_max : (first : ℤ) (rest : List ℤ) → All (λ x. x ≤ℤ (fold int_max first rest)) (first ∷ rest)
below_max first rest =
    let most : ℤ = fold int_max first rest in
    let bounds = fold-int_max_bounds first rest most refl in
    All-cons (λ (x : ℤ). x ≤ℤ most) first rest bounds.0 bounds.1

above_min : (first : ℤ) (rest : List ℤ) → All (λ x. (fold int_min first rest) ≤ℤ x) (first ∷ rest)
above_min first rest =
    let least : ℤ = fold int_min first rest in
    let bounds = fold-int_min_bounds first rest least refl in
    All-cons (λ (x : ℤ). least ≤ℤ x) first rest bounds.0 bounds.1

-- any two lie at most their spread apart
pub within_spread : (xs : List ℤ) → LieWithin (spread_of xs) xs
within_spread [] = All-nil (λ (a : ℤ). All (λ b. (a -ℤ b) ≤ℤ pos 0) [])
within_spread (first ∷ rest) =
    All-weaker (λ (a : ℤ). a ≤ℤ (fold int_max first rest)) (λ a. All (λ b. (a -ℤ b) ≤ℤ (spread_of (first ∷ rest))) (first ∷ rest))
    (λ a high. All-weaker (λ (b : ℤ). (fold int_min first rest) ≤ℤ b) (λ b. (a -ℤ b) ≤ℤ (spread_of (first ∷ rest)))
    (λ b low. apart a b (fold int_max first rest) (fold int_min first rest) high low) (first ∷ rest) (above_min first rest))
    (first ∷ rest) (below_max first rest)
  where
    apart : (a b most least : ℤ) → a ≤ℤ most → least ≤ℤ b → (a -ℤ b) ≤ℤ (most -ℤ least)
    apart a b most least high low = omega (arith, ints)

at_first : (x first : ℤ) (rest : List ℤ) → (x ≡ first) ⊎ Contains rest x → Contains (first ∷ rest) x
at_first x first rest (inl same) = (0, omega arith, sym same)
at_first x first rest (inr later) = (suc later.0, omega (arith, later.1), later.2)

-- where there is a number, two lie as far apart
pub spread_reached : (xs : List ℤ) → 0 < length xs → HasDifference (spread_of xs) xs
spread_reached [] some = absurd (omega arith)
spread_reached (first ∷ rest) some =
    let most : ℤ = fold int_max first rest in
    let least : ℤ = fold int_min first rest in
    record {
      greater = most;
      less = least;
      has_greater = at_first most first rest (fold-int_max_reached first rest most refl);
      has_less = at_first least first rest (fold-int_min_reached first rest least refl);
      differ = refl;
    }

-- ---- numbers lie within a bound where their spread does

same_tests : (a b : Bool) → (a ≡ true → b ≡ true) → (b ≡ true → a ≡ true) → a ≡ b
same_tests true b forth back = sym (forth refl)
same_tests false true forth back = back refl
same_tests false false forth back = refl

is_in : (P : ℤ → Type 0) (xs : List ℤ) (x : ℤ) → All P xs → Contains xs x → P x
is_in P xs x all has = subst P has.2 (all has.0 x has.1)

pub spread_from : (bound : ℤ) (xs : List ℤ) → pos 0 ≤ℤ bound → LieWithin bound xs → spread_of xs ≤ℤ bound
spread_from bound [] some within = some
spread_from bound (first ∷ rest) some within =
    let xs : List ℤ = first ∷ rest in
    let far : HasDifference (spread_of xs) xs = spread_reached xs (omega arith) in
    let near : (far.greater -ℤ far.less) ≤ℤ bound = is_in (λ b. (far.greater -ℤ b) ≤ℤ bound) xs far.less (is_in (λ a. All (λ b. (a -ℤ b) ≤ℤ bound) xs) xs far.greater within far.has_greater) far.has_less in
    subst (λ (z : ℤ). z ≤ℤ bound) far.differ near

pub within_by_spread : (bound : ℤ) (xs : List ℤ) → spread_of xs ≤ℤ bound → LieWithin bound xs
within_by_spread bound xs near =
    All-weaker (λ (a : ℤ). All (λ b. (a -ℤ b) ≤ℤ (spread_of xs)) xs) (λ a. All (λ b. (a -ℤ b) ≤ℤ bound) xs)
    (λ a. All-weaker (λ (b : ℤ). (a -ℤ b) ≤ℤ (spread_of xs)) (λ b. (a -ℤ b) ≤ℤ bound) (λ b less. trans (a -ℤ b) (spread_of xs) bound less near) xs) xs (within_spread xs)
  where
    trans : (a b c : ℤ) → a ≤ℤ b → b ≤ℤ c → a ≤ℤ c
    trans a b c low high = omega (arith, ints)

from_le : (a b : ℤ) → int_le a b ≡ true → a ≤ℤ b
from_le a b is = grind (arith, ints)

to_le : (a b : ℤ) → a ≤ℤ b → int_le a b ≡ true
to_le a b is = grind (arith, ints)

pub tested_by_spread : (bound : ℤ) (xs : List ℤ) → pos 0 ≤ℤ bound → int_le (spread_of xs) bound ≡ lie_within bound xs
tested_by_spread bound xs some =
    same_tests (int_le (spread_of xs) bound) (lie_within bound xs)
    (λ near. to_within bound xs (within_by_spread bound xs (from_le (spread_of xs) bound near)))
    (λ within. to_le (spread_of xs) bound (spread_from bound xs some (within_from bound xs within)))
