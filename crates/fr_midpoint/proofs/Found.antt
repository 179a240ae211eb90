-- The midpoint of a list is the number that the ranks of its values give.
use Rattle.std.proofs.Common.{◌≡◌, ℕ, ◌+◌, ◌≤◌, true, false, ℤ, pos, Some, unwrap_or, List, [], ◌∷◌, length, arith, ap, ap₂, sym, subst, ◌∙◌}
use Rattle.std.specs.Prelude.{int_lt, int_le, count_by, find}
use Rattle.std.proofs.lemmas.Int.{ints}
use Rattle.std.proofs.lemmas.Bool.Decides.{nat_tests}
use Rattle.fr_midpoint.specs.Midpoint.{discarded, half_of_sum, is_low, is_high, midpoint_by_ranks, IsLow, IsHigh, IsMidpoint, MidpointIsFound}
use Rattle.fr_midpoint.proofs.Counts.{count_by-le-both, find-only}
use Rattle.fr_midpoint.proofs.MidpointLemmas.{IsLow-unique, IsHigh-unique}

is_low-IsLow : (k : ℕ) (xs : List ℤ) (low : ℤ) → is_low k xs low ≡ true → IsLow k xs low
is_low-IsLow k xs low passes = record { few_below = grind (arith, nat_tests); more_up_to = grind (arith, nat_tests) }

IsLow-is_low : (k : ℕ) (xs : List ℤ) (low : ℤ) → IsLow k xs low → is_low k xs low ≡ true
IsLow-is_low k xs low is = grind (arith, nat_tests)

is_high-IsHigh : (k : ℕ) (xs : List ℤ) (high : ℤ) → is_high k xs high ≡ true → IsHigh k xs high
is_high-IsHigh k xs high passes = record { few_above = grind (arith, nat_tests); more_from = grind (arith, nat_tests) }

IsHigh-is_high : (k : ℕ) (xs : List ℤ) (high : ℤ) → IsHigh k xs high → is_high k xs high ≡ true
IsHigh-is_high k xs high is = grind (arith, nat_tests)

meets : (a b : ℤ) → int_le a b ≡ true → int_lt a b ≡ false → b ≡ a
meets a b le lt = grind (arith, ints)

-- the least that remains is found among the values
find-is_low : (k : ℕ) (xs : List ℤ) (low : ℤ) → IsLow k xs low → find (is_low k xs) xs ≡ Some low
find-is_low k xs low is =
    let both : count_by (λ x. int_le x low) xs ≤ count_by (λ x. int_lt x low) xs + count_by (is_low k xs) xs =
    count_by-le-both
    (λ x. int_le x low)
    (λ x. int_lt x low)
    (is_low k xs)
    xs
    (λ x le lt. let P : ℤ → Type 0 = λ y. is_low k xs y ≡ true in subst P (meets x low le lt) (IsLow-is_low k xs low is)) in
    find-only
    (is_low k xs)
    low
    xs
    (λ x passes. IsLow-unique k xs x low (is_low-IsLow k xs x passes) is)
    (omega (arith, is.few_below, is.more_up_to))

-- and the greatest
find-is_high : (k : ℕ) (xs : List ℤ) (high : ℤ) → IsHigh k xs high → find (is_high k xs) xs ≡ Some high
find-is_high k xs high is =
    let both : count_by (λ x. int_le high x) xs ≤ count_by (λ x. int_lt high x) xs + count_by (is_high k xs) xs =
    count_by-le-both
    (λ x. int_le high x)
    (λ x. int_lt high x)
    (is_high k xs)
    xs
    (λ x le lt.
    let P : ℤ → Type 0 = λ y. is_high k xs y ≡ true in
    subst P (sym (meets high x le lt)) (IsHigh-is_high k xs high is)) in
    find-only
    (is_high k xs)
    high
    xs
    (λ x passes. IsHigh-unique k xs x high (is_high-IsHigh k xs x passes) is)
    (omega (arith, is.few_above, is.more_from))

pub midpoint_by_ranks-is : (xs : List ℤ) (mid : ℤ) → IsMidpoint xs mid → midpoint_by_ranks xs ≡ mid
unfolding midpoint_by_ranks
midpoint_by_ranks-is xs mid is =
    ap₂
    half_of_sum
    (ap (λ o. unwrap_or o (pos 0)) (find-is_low (discarded (length xs)) xs is.low is.least))
    (ap (λ o. unwrap_or o (pos 0)) (find-is_high (discarded (length xs)) xs is.high is.greatest))
    ∙ sym is.half

-- the midpoint of a list is the number that its values' ranks give
pub midpoint_of-is : MidpointIsFound
midpoint_of-is [] mid is = absurd (omega (arith, is.least.more_up_to))
midpoint_of-is (x ∷ xs) mid is = ap Some (midpoint_by_ranks-is (x ∷ xs) mid is)
