-- The midpoint by ranks: where an ascending list has it, and that there is one alone.
use Rattle.std.proofs.Common.{◌≡◌, ℕ, ◌+◌, ◌-◌, ◌*◌, ◌≤◌, ◌<◌, true, false, cond, ℤ, pos, ◌<ℤ◌, ◌≤ℤ◌, List, length, get_or, arith, ap, ap₂, sym, ◌∙◌}
use Rattle.std.specs.Prelude.{int_lt, int_le, count_by, IsSorted, IsPermutation}
use Rattle.std.specs.Ordering.{int_cmp}
use Rattle.std.proofs.lemmas.Int.{ints, by_lt_z}
use Rattle.std.proofs.lemmas.List.Sorted.{sum_by-IsPermutation, length_permutation}
use Rattle.fr_midpoint.specs.Midpoint.{discarded, half_of_sum, IsLow, IsHigh, IsMidpoint, MidpointIsUnique}
use Rattle.fr_midpoint.proofs.Counts.{count_by-le-count_by, count_by-front, front-count_by, count_by-back, back-count_by}
use Rattle.fr_midpoint.proofs.Ascending.{ascending}

at_most : (a b : ℤ) → int_lt a b ≡ false → int_le b a ≡ true
at_most a b h = grind (arith, ints)

-- in an ascending list the element at k is the least that remains of k discarded
pub IsLow-ascending :
    (xs : List ℤ) → IsSorted int_cmp xs → (k : ℕ) (d : ℤ) → k < length xs → IsLow k xs (get_or xs k d)
IsLow-ascending xs up k d short = record {
  few_below = count_by-front (λ x. int_lt x (get_or xs k d)) xs k d (λ i from below. ascending xs up k i d from below);
  more_up_to =
      omega (
        arith,
        front-count_by
            (λ x. int_le x (get_or xs k d))
            xs
            (k + 1)
            d
            (λ i before. at_most (get_or xs k d) (get_or xs i d) (ascending xs up i k d (omega arith) short))
            (omega arith),
      );
}

-- and the one as far from the end is the greatest
pub IsHigh-ascending :
    (xs : List ℤ) → IsSorted int_cmp xs → (k : ℕ) (d : ℤ) → k < length xs → IsHigh k xs (get_or xs (length xs - 1 - k) d)
IsHigh-ascending xs up k d short = record {
  few_above =
      omega (
        arith,
        count_by-back
            (λ x. int_lt (get_or xs (length xs - 1 - k) d) x)
            xs
            (length xs - k)
            d
            (λ i before. ascending xs up i (length xs - 1 - k) d (omega arith) (omega arith))
            (omega arith),
      );
  more_from =
      omega (
        arith,
        back-count_by
            (λ x. int_le (get_or xs (length xs - 1 - k) d) x)
            xs
            (length xs - 1 - k)
            d
            (λ i from below.
            at_most (get_or xs i d) (get_or xs (length xs - 1 - k) d) (ascending xs up (length xs - 1 - k) i d from below)),
      );
}

-- ranks do not see the order of a list
pub IsLow-permutation :
    (k : ℕ) (xs ys : List ℤ) (low : ℤ) → IsPermutation xs ys → IsLow k ys low → IsLow k xs low
IsLow-permutation k xs ys low moved is = record {
  few_below = omega (arith, is.few_below, sum_by-IsPermutation (λ x. cond (int_lt x low) 1 0) xs ys moved);
  more_up_to = omega (arith, is.more_up_to, sum_by-IsPermutation (λ x. cond (int_le x low) 1 0) xs ys moved);
}

pub IsHigh-permutation :
    (k : ℕ) (xs ys : List ℤ) (high : ℤ) → IsPermutation xs ys → IsHigh k ys high → IsHigh k xs high
IsHigh-permutation k xs ys high moved is = record {
  few_above = omega (arith, is.few_above, sum_by-IsPermutation (λ x. cond (int_lt high x) 1 0) xs ys moved);
  more_from = omega (arith, is.more_from, sum_by-IsPermutation (λ x. cond (int_le high x) 1 0) xs ys moved);
}

-- the midpoint of a list, read in the ascending one
pub IsMidpoint-ascending :
    (xs ys : List ℤ) (k : ℕ) (mid : ℤ)
    → IsPermutation xs ys → IsSorted int_cmp ys → k ≡ discarded (length ys) → 2 * k + 1 ≤ length ys
    → mid ≡ half_of_sum (get_or ys k (pos 0)) (get_or ys (length ys - 1 - k) (pos 0)) → IsMidpoint xs mid
IsMidpoint-ascending xs ys k mid moved up is some half =
    let same : discarded (length xs) ≡ k = cc (ap discarded (length_permutation xs ys moved)) in
    record {
      low = get_or ys k (pos 0);
      high = get_or ys (length ys - 1 - k) (pos 0);
      least =
          rw same (IsLow-permutation k xs ys (get_or ys k (pos 0)) moved (IsLow-ascending ys up k (pos 0) (omega arith)));
      greatest =
          rw
          same
          (
          IsHigh-permutation
          k
          xs
          ys
          (get_or ys (length ys - 1 - k) (pos 0))
          moved
          (IsHigh-ascending ys up k (pos 0) (omega arith))
          );
      half = half;
    }

lt_from_le : (x a b : ℤ) → a <ℤ b → int_le x a ≡ true → int_lt x b ≡ true
lt_from_le x a b before h = grind (arith, ints)

lt_to_le : (x a b : ℤ) → a <ℤ b → int_le b x ≡ true → int_lt a x ≡ true
lt_to_le x a b before h = grind (arith, ints)

-- no two numbers are the least that remains
IsLow-le : (k : ℕ) (xs : List ℤ) (one other : ℤ) → IsLow k xs one → IsLow k xs other → one ≤ℤ other
IsLow-le k xs one other is also =
    by_lt_z
    other
    one
    (λ before.
    let fewer : count_by (λ x. int_le x other) xs ≤ count_by (λ x. int_lt x one) xs =
    count_by-le-count_by (λ x. int_le x other) (λ x. int_lt x one) xs (λ x. lt_from_le x other one before) in
    absurd (omega (arith, is.few_below, also.more_up_to)))
    (λ h. h)

-- nor the greatest
IsHigh-le : (k : ℕ) (xs : List ℤ) (one other : ℤ) → IsHigh k xs one → IsHigh k xs other → one ≤ℤ other
IsHigh-le k xs one other is also =
    by_lt_z
    other
    one
    (λ before.
    let fewer : count_by (λ x. int_le one x) xs ≤ count_by (λ x. int_lt other x) xs =
    count_by-le-count_by (λ x. int_le one x) (λ x. int_lt other x) xs (λ x. lt_to_le x other one before) in
    absurd (omega (arith, is.more_from, also.few_above)))
    (λ h. h)

pub IsLow-unique : (k : ℕ) (xs : List ℤ) (one other : ℤ) → IsLow k xs one → IsLow k xs other → one ≡ other
IsLow-unique k xs one other is also =
    let up = IsLow-le k xs one other is also in
    let down = IsLow-le k xs other one also is in
    omega (arith, ints)

pub IsHigh-unique : (k : ℕ) (xs : List ℤ) (one other : ℤ) → IsHigh k xs one → IsHigh k xs other → one ≡ other
IsHigh-unique k xs one other is also =
    let up = IsHigh-le k xs one other is also in
    let down = IsHigh-le k xs other one also is in
    omega (arith, ints)

-- no list has two midpoints
pub midpoint_is_unique_lem : MidpointIsUnique
midpoint_is_unique_lem xs one other is also =
    is.half
    ∙ ap₂
    half_of_sum
    (IsLow-unique (discarded (length xs)) xs is.low also.low is.least also.least)
    (IsHigh-unique (discarded (length xs)) xs is.high also.high is.greatest also.greatest)
    ∙ sym also.half
