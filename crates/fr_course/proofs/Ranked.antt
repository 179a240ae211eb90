-- Of each rank a list has a number, a search finds it, and in ascending order it stands at that rank.
use Rattle.std.proofs.Common.{◌≡◌, ℕ, zero, suc, ◌+◌, ◌-◌, ◌≤◌, ◌<◌, Bool, true, false, cond, ℤ, pos, negsuc, None, Option, Some, unwrap_or, List, [], ◌∷◌, length, get_or, arith, ap, refl, sym, subst, ◌∙◌}
use Rattle.std.specs.Prelude.{◌-ℤ◌, ◌≤ℤ◌, ◌&&◌, neg_ℤ, int_lt, int_le, count_by, find, nat_le, nat_lt}
use Rattle.std.proofs.lemmas.Int.{ints}
use Rattle.std.proofs.lemmas.List.Sorted.{length_permutation}
use Rattle.std.proofs.lemmas.List.Sums.{count_by-le-length}
use Rattle.std.proofs.lemmas.Bool.Decides.{nat_tests}
use Rattle.fr_midpoint.specs.Midpoint.{is_high, is_low, IsHigh, IsLow}
use Rattle.fr_midpoint.proofs.Counts.{both-le-length, count_by-cons_no, count_by-cons_yes, count_by-le-both, count_by-le-count_by, find-only, length-le-both}
use Rattle.fr_midpoint.proofs.MidpointLemmas.{IsHigh-ascending, IsHigh-permutation, IsHigh-unique, IsLow-ascending, IsLow-permutation, IsLow-unique}
use Rattle.fr_course.specs.Ends.{AreRanked}
use Rattle.fr_course.specs.Middles.{greatest_left, least_left}

-- ---- a number of each rank

-- how many of some numbers are no greater than another one
abbrev up_to : ℤ → List ℤ → ℕ
up_to t xs = count_by (λ x. int_le x t) xs

-- all of some numbers lie above the one and none above the other
record IsBound (xs : List ℤ) (bound : ℕ) : Type 0 where
  none : (t : ℤ) → t ≤ℤ neg_ℤ (pos bound) → up_to t xs ≡ 0
  all : (t : ℤ) → pos bound ≤ℤ t → up_to t xs ≡ length xs

size_of : (x : ℤ) → (n : ℕ) × (neg_ℤ (pos n) ≤ℤ x) × (x ≤ℤ pos n)
size_of (pos n) = (n, omega (arith, ints), omega (arith, ints))
size_of (negsuc n) = (suc n, omega (arith, ints), omega (arith, ints))

bound_of : (xs : List ℤ) → (bound : ℕ) × IsBound xs bound
bound_of [] = (0, record { none = λ t h. refl; all = λ t h. refl })
bound_of (x ∷ xs) =
    let size = size_of x in
    let rest = bound_of xs in
    let bound : ℕ = suc (rest.0 + size.0) in (
      bound,
      record {
        none = λ t h. omega (arith, count_by-cons_no (λ y. int_le y t) x xs (under x t size.0 rest.0 size.1 h), rest.1.none t (lower t size.0 rest.0 h));
        all = λ t h. omega (arith, count_by-cons_yes (λ y. int_le y t) x xs (over x t size.0 rest.0 size.2 h), rest.1.all t (upper t size.0 rest.0 h));
      },
    )
  where
    under : (x t : ℤ) (n b : ℕ) → neg_ℤ (pos n) ≤ℤ x → t ≤ℤ neg_ℤ (pos (suc (b + n))) → int_le x t ≡ false
    under x t n b from h = grind (arith, ints)

    over : (x t : ℤ) (n b : ℕ) → x ≤ℤ pos n → pos (suc (b + n)) ≤ℤ t → int_le x t ≡ true
    over x t n b to h = grind (arith, ints)

    lower : (t : ℤ) (n b : ℕ) → t ≤ℤ neg_ℤ (pos (suc (b + n))) → t ≤ℤ neg_ℤ (pos b)
    lower t n b h = omega (arith, ints)

    upper : (t : ℤ) (n b : ℕ) → pos (suc (b + n)) ≤ℤ t → pos b ≤ℤ t
    upper t n b h = omega (arith, ints)

-- the least number up to which there are more than k
descend_by : (xs : List ℤ) (k : ℕ) (t : ℤ) (b : Bool) → nat_lt k (up_to (t -ℤ pos 1) xs) ≡ b → k < up_to t xs
    → (k < up_to (t -ℤ pos 1) xs → (low : ℤ) × IsLow k xs low) → (low : ℤ) × IsLow k xs low
descend_by xs k t true still more rest = rest (grind (arith, nat_tests))
descend_by xs k t false last more rest =
    let most : up_to (t -ℤ pos 1) xs ≤ k = grind (arith, nat_tests) in
    (t, record { few_below = omega (arith, most, count_by-le-count_by (λ x. int_lt x t) (λ x. int_le x (t -ℤ pos 1)) xs (λ x. before x t)); more_up_to = more })
  where
    before : (x t : ℤ) → int_lt x t ≡ true → int_le x (t -ℤ pos 1) ≡ true
    before x t h = grind (arith, ints)

none_off : (t : ℤ) → t -ℤ pos 0 ≡ t
none_off t = omega (arith, ints)

one_off : (t : ℤ) (n : ℕ) → t -ℤ pos (suc n) ≡ (t -ℤ pos 1) -ℤ pos n
one_off t n = omega (arith, ints)

descend : (xs : List ℤ) (k steps : ℕ) (t : ℤ) → k < up_to t xs → up_to (t -ℤ pos steps) xs ≤ k → (low : ℤ) × IsLow k xs low
descend xs k zero t more few = absurd (omega (arith, more, subst (λ s. up_to s xs ≤ k) (none_off t) few))
descend xs k (suc steps) t more few =
    descend_by xs k t (nat_lt k (up_to (t -ℤ pos 1) xs)) refl more
    (λ still. descend xs k steps (t -ℤ pos 1) still (subst (λ s. up_to s xs ≤ k) (one_off t steps) few))

low_there : (xs : List ℤ) (k : ℕ) → k < length xs → (low : ℤ) × IsLow k xs low
low_there xs k short =
    let bound = bound_of xs in
    let b = bound.0 in
    descend xs k (b + b) (pos b) (omega (arith, short, bound.1.all (pos b) (itself b))) (omega (arith, bound.1.none (pos b -ℤ pos (b + b)) (low b)))
  where
    itself : (b : ℕ) → pos b ≤ℤ pos b
    itself b = omega (arith, ints)

    low : (b : ℕ) → (pos b -ℤ pos (b + b)) ≤ℤ neg_ℤ (pos b)
    low b = omega (arith, ints)

high_there : (xs : List ℤ) (k : ℕ) → k < length xs → (high : ℤ) × IsHigh k xs high
high_there xs k short =
    let low = low_there xs (length xs - suc k) (omega (arith, short)) in
    let over = both-le-length (int_lt low.0) (λ y. int_le y low.0) xs (not_up low.0) in
    let from = length-le-both (λ y. int_lt y low.0) (int_le low.0) xs (at_least low.0) in
    let few = low.1.few_below in
    let more = low.1.more_up_to in
    (low.0, record { few_above = omega (arith, over, more, short); more_from = omega (arith, from, few, short) })
  where
    not_up : (v y : ℤ) → int_lt v y ≡ true → int_le y v ≡ false
    not_up v y over = grind (arith, ints)

    at_least : (v y : ℤ) → int_lt y v ≡ false → int_le v y ≡ true
    at_least v y under = grind (arith, ints)

-- ---- a search for it

is_low-IsLow : (k : ℕ) (xs : List ℤ) (low : ℤ) → is_low k xs low ≡ true → IsLow k xs low
is_low-IsLow k xs low passes = record { few_below = grind (arith, nat_tests); more_up_to = grind (arith, nat_tests) }

IsLow-is_low : (k : ℕ) (xs : List ℤ) (low : ℤ) → IsLow k xs low → is_low k xs low ≡ true
IsLow-is_low k xs low is = grind (arith, nat_tests)

is_high-IsHigh : (k : ℕ) (xs : List ℤ) (high : ℤ) → is_high k xs high ≡ true → IsHigh k xs high
is_high-IsHigh k xs high passes = record { few_above = grind (arith, nat_tests); more_from = grind (arith, nat_tests) }

IsHigh-is_high : (k : ℕ) (xs : List ℤ) (high : ℤ) → IsHigh k xs high → is_high k xs high ≡ true
IsHigh-is_high k xs high is = grind (arith, nat_tests)

meets : (a b : ℤ) → int_le a b ≡ true → int_lt a b ≡ false → b ≡ a
meets a b le lt = grind (arith, ints)

find-is_low : (k : ℕ) (xs : List ℤ) (low : ℤ) → IsLow k xs low → find (is_low k xs) xs ≡ Some low
find-is_low k xs low is =
    let P : ℤ → Type 0 = λ y. is_low k xs y ≡ true in
    let both : count_by (λ x. int_le x low) xs ≤ count_by (λ x. int_lt x low) xs + count_by (is_low k xs) xs =
    count_by-le-both (λ x. int_le x low) (λ x. int_lt x low) (is_low k xs) xs (λ x le lt. subst P (meets x low le lt) (IsLow-is_low k xs low is)) in
    find-only (is_low k xs) low xs (λ x passes. IsLow-unique k xs x low (is_low-IsLow k xs x passes) is) (omega (arith, is.few_below, is.more_up_to))

find-is_high : (k : ℕ) (xs : List ℤ) (high : ℤ) → IsHigh k xs high → find (is_high k xs) xs ≡ Some high
find-is_high k xs high is =
    let P : ℤ → Type 0 = λ y. is_high k xs y ≡ true in
    let both : count_by (λ x. int_le high x) xs ≤ count_by (λ x. int_lt high x) xs + count_by (is_high k xs) xs =
    count_by-le-both (λ x. int_le high x) (λ x. int_lt high x) (is_high k xs) xs (λ x le lt. subst P (sym (meets high x le lt)) (IsHigh-is_high k xs high is)) in
    find-only (is_high k xs) high xs (λ x passes. IsHigh-unique k xs x high (is_high-IsHigh k xs x passes) is) (omega (arith, is.few_above, is.more_from))

pub least_left-is_low : (k : ℕ) (xs : List ℤ) → k < length xs → IsLow k xs (least_left k xs)
least_left-is_low k xs short =
    let there = low_there xs k short in
    subst (IsLow k xs) (sym (ap (λ o. unwrap_or o (pos 0)) (find-is_low k xs there.0 there.1))) there.1

pub greatest_left-is_high : (k : ℕ) (xs : List ℤ) → k < length xs → IsHigh k xs (greatest_left k xs)
greatest_left-is_high k xs short =
    let there = high_there xs k short in
    subst (IsHigh k xs) (sym (ap (λ o. unwrap_or o (pos 0)) (find-is_high k xs there.0 there.1))) there.1

-- ---- where it stands

pub least_left-ranked : (k : ℕ) (xs ys : List ℤ) (d : ℤ) → AreRanked xs ys → k < length ys → least_left k xs ≡ get_or ys k d
least_left-ranked k xs ys d is short =
    let same : length xs ≡ length ys = sym (length_permutation xs ys is.same) in
    IsLow-unique k xs (least_left k xs) (get_or ys k d) (least_left-is_low k xs (omega (arith, same, short)))
    (IsLow-permutation k xs ys (get_or ys k d) is.same (IsLow-ascending ys is.ascend k d short))

pub greatest_left-ranked : (k : ℕ) (xs ys : List ℤ) (d : ℤ) → AreRanked xs ys → k < length ys
    → greatest_left k xs ≡ get_or ys (length ys - 1 - k) d
greatest_left-ranked k xs ys d is short =
    let same : length xs ≡ length ys = sym (length_permutation xs ys is.same) in
    IsHigh-unique k xs (greatest_left k xs) (get_or ys (length ys - 1 - k) d) (greatest_left-is_high k xs (omega (arith, same, short)))
    (IsHigh-permutation k xs ys (get_or ys (length ys - 1 - k) d) is.same (IsHigh-ascending ys is.ascend k d short))

find-fails : (p : ℤ → Bool) (xs : List ℤ) → ((x : ℤ) → p x ≡ false) → find p xs ≡ None
find-fails p [] fails = refl
find-fails p (x ∷ xs) fails = ap (λ (b : Bool). cond b (Some x) (find p xs)) (fails x) ∙ find-fails p xs fails

too_few : (k n up : ℕ) (b : Bool) → n ≤ k → up ≤ n → (b && nat_lt k up) ≡ false
too_few k n up true few up_to = grind (arith, nat_tests)
too_few k n up false few up_to = refl

-- no number has a rank that is none of a list
pub least_left-none : (k : ℕ) (xs ys : List ℤ) → AreRanked xs ys → length ys ≤ k → least_left k xs ≡ pos 0
least_left-none k xs ys is few =
    let same : length xs ≡ length ys = sym (length_permutation xs ys is.same) in
    ap (λ (o : Option ℤ). unwrap_or o (pos 0))
    (find-fails (is_low k xs) xs (λ x. too_few k (length xs) (count_by (λ y. int_le y x) xs) (nat_le (count_by (λ y. int_lt y x) xs) k) (omega (arith, same, few)) (count_by-le-length (λ y. int_le y x) xs)))

pub greatest_left-none : (k : ℕ) (xs ys : List ℤ) → AreRanked xs ys → length ys ≤ k → greatest_left k xs ≡ pos 0
greatest_left-none k xs ys is few =
    let same : length xs ≡ length ys = sym (length_permutation xs ys is.same) in
    ap (λ (o : Option ℤ). unwrap_or o (pos 0))
    (find-fails (is_high k xs) xs (λ x. too_few k (length xs) (count_by (λ y. int_le x y) xs) (nat_le (count_by (λ y. int_lt x y) xs) k) (omega (arith, same, few)) (count_by-le-length (λ y. int_le x y) xs)))
