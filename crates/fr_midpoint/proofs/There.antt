-- A list with a value has its midpoint: for each rank there is a value of it.
use Rattle.std.proofs.Common.{◌≡◌, ℕ, zero, suc, ◌-◌, ◌≤◌, ◌<◌, ◌&&◌, Bool, true, false, cond, ℤ, List, [], ◌∷◌, length, arith, sym, subst, refl}
use Rattle.std.specs.Prelude.{int_lt, int_le, count_by, nat_lt, if◌then◌else◌}
use Rattle.std.proofs.lemmas.Int.{ints}
use Rattle.std.proofs.lemmas.Bool.Decides.{nat_tests}
use Rattle.std.proofs.lemmas.List.Sums.{sum_by-cons}
use Rattle.fr_midpoint.specs.Midpoint.{discarded, half_of_sum, IsLow, IsHigh, IsMidpoint, MidpointIsThere}
use Rattle.fr_midpoint.proofs.Counts.{all_pass, both-le-count_by, both-le-length, count_by-cons_no, count_by-cons_yes, count_by-le-both, count_by-le-count_by, length-le-both}
use Rattle.fr_midpoint.proofs.Found.{midpoint_by_ranks-is}

-- the least of the values that pass a test
record IsLeast (p : ℤ → Bool) (xs : List ℤ) (least : ℤ) : Type 0 where
  passes : p least ≡ true
  none_below : count_by (λ y. p y && int_lt y least) xs ≡ 0
  some_up_to : 0 < count_by (λ y. p y && int_le y least) xs

itself_le : (x : ℤ) → int_le x x ≡ true
itself_le x = grind (arith, ints)

itself_lt : (x : ℤ) → int_lt x x ≡ false
itself_lt x = grind (arith, ints)

and_true : (a b : Bool) → a ≡ true → b ≡ true → (a && b) ≡ true
and_true a b one two = rw (one, two) refl

and_left : (a b : Bool) → (a && b) ≡ true → a ≡ true
and_left true b is = refl
and_left false b is = absurd (cc)

and_right : (a b : Bool) → (a && b) ≡ true → b ≡ true
and_right true b is = is
and_right false b is = absurd (cc)

and_false : (a b : Bool) → b ≡ false → (a && b) ≡ false
and_false true b is = is
and_false false b is = refl

not_left : (a b : Bool) → a ≡ false → (a && b) ≡ false
not_left a b is = rw is refl

-- a value that passes and below which none does
least_here : (p : ℤ → Bool) (x : ℤ) (xs : List ℤ) → p x ≡ true → count_by (λ y. p y && int_lt y x) xs ≡ 0 → IsLeast p (x ∷ xs) x
least_here p x xs passes none = record {
  passes = passes;
  none_below = omega (arith, none, count_by-cons_no (λ y. p y && int_lt y x) x xs (and_false (p x) (int_lt x x) (itself_lt x)));
  some_up_to = omega (arith, count_by-cons_yes (λ y. p y && int_le y x) x xs (and_true (p x) (int_le x x) passes (itself_le x)));
}

least_later : (p : ℤ → Bool) (x : ℤ) (xs : List ℤ) (least : ℤ) → (p x && int_lt x least) ≡ false → IsLeast p xs least → IsLeast p (x ∷ xs) least
least_later p x xs least not_below is = record {
  passes = is.passes;
  none_below = omega (arith, is.none_below, count_by-cons_no (λ y. p y && int_lt y least) x xs not_below);
  some_up_to = omega (arith, is.some_up_to, sum_by-cons (λ y. cond (p y && int_le y least) 1 0) x xs);
}

least_of_both : (p : ℤ → Bool) (x : ℤ) (xs : List ℤ) (least : ℤ) (b : Bool) → p x ≡ true → int_lt x least ≡ b → IsLeast p xs least → (low : ℤ) × IsLeast p (x ∷ xs) low
least_of_both p x xs least true passes below is =
    let fewer = count_by-le-count_by (λ y. p y && int_lt y x) (λ y. p y && int_lt y least) xs
    (λ y both. and_true (p y) (int_lt y least) (and_left (p y) (int_lt y x) both) (further y x least (and_right (p y) (int_lt y x) both) below)) in
    (x, least_here p x xs passes (omega (arith, fewer, is.none_below)))
  where
    further : (y x z : ℤ) → int_lt y x ≡ true → int_lt x z ≡ true → int_lt y z ≡ true
    further y x z one two = grind (arith, ints)
least_of_both p x xs least false passes above is = (least, least_later p x xs least (and_false (p x) (int_lt x least) above) is)

least_by : (p : ℤ → Bool) (x : ℤ) (xs : List ℤ) (b more : Bool) → p x ≡ b → nat_lt 0 (count_by p xs) ≡ more → 0 < count_by p (x ∷ xs)
    → (0 < count_by p xs → (low : ℤ) × IsLeast p xs low) → (low : ℤ) × IsLeast p (x ∷ xs) low
least_by p x xs false more fails any some rest =
    let least = rest (omega (arith, some, count_by-cons_no p x xs fails)) in
    (least.0, least_later p x xs least.0 (not_left (p x) (int_lt x least.0) fails) least.1)
least_by p x xs true true passes any some rest =
    let least = rest (grind (arith, nat_tests)) in
    least_of_both p x xs least.0 (int_lt x least.0) passes refl least.1
least_by p x xs true false passes none some rest =
    let zero : count_by p xs ≤ 0 = grind (arith, nat_tests) in
    let fewer = count_by-le-count_by (λ y. p y && int_lt y x) p xs (λ y both. and_left (p y) (int_lt y x) both) in
    (x, least_here p x xs passes (omega (arith, fewer, zero)))

least_there : (p : ℤ → Bool) (xs : List ℤ) → 0 < count_by p xs → (least : ℤ) × IsLeast p xs least
least_there p [] some = absurd (omega (arith, some))
least_there p (x ∷ xs) some = least_by p x xs (p x) (nat_lt 0 (count_by p xs)) refl refl some (least_there p xs)

above : (v y : ℤ) → int_le y v ≡ false → int_lt v y ≡ true
above v y not_up_to = grind (arith, ints)

-- a value of the next rank: the same one again, or the least above it
next_rank : (xs : List ℤ) (j : ℕ) (low : ℤ) (b : Bool) → nat_lt (suc j) (count_by (λ y. int_le y low) xs) ≡ b → suc j < length xs → IsLow j xs low → (next : ℤ) × IsLow (suc j) xs next
next_rank xs j low true again short is =
    (low, record { few_below = omega (arith, is.few_below); more_up_to = grind (arith, nat_tests) })
next_rank xs j low false last short is =
    let most : count_by (λ y. int_le y low) xs ≤ suc j = grind (arith, nat_tests) in
    let rest = length-le-both (λ y. int_le y low) (int_lt low) xs (above low) in
    let least = least_there (int_lt low) xs (omega (arith, most, rest, short)) in
    let below = count_by-le-both (λ y. int_lt y least.0) (λ y. int_le y low) (λ y. int_lt low y && int_lt y least.0) xs
    (λ y under over. and_true (int_lt low y) (int_lt y least.0) (above low y over) under) in
    let up_to = both-le-count_by (λ y. int_le y low) (λ y. int_lt low y && int_le y least.0) (λ y. int_le y least.0) xs
    (λ y up. not_left (int_lt low y) (int_le y least.0) (not_above low y up))
    (λ y up. further low y least.0 up least.1.passes)
    (λ y both. and_right (int_lt low y) (int_le y least.0) both) in
    let none = least.1.none_below in
    let some = least.1.some_up_to in
    let more = is.more_up_to in
    (least.0, record { few_below = omega (arith, below, most, none); more_up_to = omega (arith, up_to, more, some) })
  where
    not_above : (v y : ℤ) → int_le y v ≡ true → int_lt v y ≡ false
    not_above v y up = grind (arith, ints)

    further : (v y w : ℤ) → int_le y v ≡ true → int_lt v w ≡ true → int_le y w ≡ true
    further v y w one two = grind (arith, ints)

low_there : (xs : List ℤ) (j : ℕ) → j < length xs → (low : ℤ) × IsLow j xs low
low_there xs zero short =
    let all = all_pass xs in
    let least = least_there (λ y. true) xs (omega (arith, all, short)) in
    (least.0, record { few_below = omega (arith, least.1.none_below); more_up_to = least.1.some_up_to })
low_there xs (suc j) short =
    let low = low_there xs j (omega (arith, short)) in
    next_rank xs j low.0 (nat_lt (suc j) (count_by (λ y. int_le y low.0) xs)) refl short low.1

high_there : (xs : List ℤ) (k : ℕ) → k < length xs → (high : ℤ) × IsHigh k xs high
high_there xs k short =
    let low = low_there xs (length xs - suc k) (omega (arith, short)) in
    let over = both-le-length (int_lt low.0) (λ y. int_le y low.0) xs (not_up low.0) in
    let from = length-le-both (λ y. int_lt y low.0) (int_le low.0) xs (at_least low.0) in
    let few = low.1.few_below in
    let more = low.1.more_up_to in
    (low.0, record { few_above = omega (arith, over, more, short); more_from = omega (arith, from, few, short) })
  where
    not_up : (v y : ℤ) → int_lt v y ≡ true → int_le y v ≡ false
    not_up v y over = grind (arith, ints)

    at_least : (v y : ℤ) → int_lt y v ≡ false → int_le v y ≡ true
    at_least v y under = grind (arith, ints)

some_remain : (n : ℕ) → 1 ≤ n → discarded n < n
some_remain n some = by_tests (nat_lt n 3) (nat_lt n 8) refl refl
  where
    by_tests : (a b : Bool) → nat_lt n 3 ≡ a → nat_lt n 8 ≡ b → (if a then 0 else (if b then 1 else 2)) < n
    by_tests true b is also = some
    by_tests false true is also = grind (arith, nat_tests)
    by_tests false false is also = grind (arith, nat_tests)

pub midpoint_is_there_lem : MidpointIsThere
midpoint_is_there_lem value values =
    let xs = value ∷ values in
    let short = some_remain (length xs) (omega arith) in
    let low = low_there xs (discarded (length xs)) short in
    let high = high_there xs (discarded (length xs)) short in
    let is : IsMidpoint xs (half_of_sum low.0 high.0) = record { low = low.0; high = high.0; least = low.1; greatest = high.1; half = refl } in
    subst (IsMidpoint xs) (sym (midpoint_by_ranks-is xs (half_of_sum low.0 high.0) is)) is
