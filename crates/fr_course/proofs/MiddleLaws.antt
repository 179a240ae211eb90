-- The midpoint of values that lie in intervals, without some that were missed and with further ones: ranks rise with the
-- values, a further value is at worst below all others or above all, and at worst those were missed that are above all others
-- or below all.
use Rattle.std.proofs.Common.{◌≡◌, ℕ, zero, suc, ◌+◌, ◌-◌, ◌*◌, ◌/◌, ◌≤◌, ◌<◌, Bool, true, false, cond, ℤ, pos, negsuc, Some, None, IfSome, List, [], ◌∷◌, ◌++◌, length, map, arith, ap, refl, sym, subst, lit≤, zero-le, ◌∙◌}
use Rattle.std.specs.Prelude.{Option, ◌+ℤ◌, ◌≤ℤ◌, ◌<ℤ◌, neg_ℤ, int_div, int_lt, int_le, count_by, filter_map, is_none, nat_le, nat_lt, IsPermutation, if◌then◌else◌}
use Rattle.std.specs.List.{AllZip}
use Rattle.std.proofs.lemmas.Int.{ints, clamps, by_lt_z}
use Rattle.std.proofs.lemmas.Bool.Decides.{nat_tests}
use Rattle.std.proofs.lemmas.List.Sums.{count_by-le-length, sum_by-append, sum_by-cons}
use Rattle.std.proofs.lemmas.List.Sorted.{sum_by-IsPermutation, length_permutation}
use Rattle.std.proofs.lemmas.List.{length-append}
use Rattle.fr_base.specs.Within.{IsBetween}
use Rattle.fr_midpoint.specs.Midpoint.{discarded, half_of_sum, IsHigh, IsLow, IsMidpoint}
use Rattle.fr_course.specs.Readings.{Interval}
use Rattle.fr_course.specs.Middles.{greatest_left, greatest_middle, highs_of, hull, least_left, least_middle, lows_of, middle, middle_missing, middle_where, middle_with, MiddlesHold, MissingMiddlesWiden}
use Rattle.fr_course.proofs.Middling.{middle-none, middle-same, middle-wide, middle_where-none, middle_where-some}
use Rattle.fr_course.proofs.Ranked.{greatest_left-is_high, least_left-is_low}

-- ---- counts

cond_le : (a b : Bool) → (a ≡ true → b ≡ true) → cond a 1 0 ≤ cond b 1 0
cond_le false b along = zero-le
cond_le true b along = rw (along refl) (lit≤ tt)

-- the values that were heard, and how many were not
abbrev heard : List (Option ℤ) → List ℤ
heard said = filter_map (λ value. value) said

abbrev missed : List (Option ℤ) → ℕ
missed said = count_by is_none said

-- where each value that was heard passes a test when the number beside it passes another one
count_along : {X : Type 0} (f : X → ℤ) (R : X → ℤ → Type 0) (p q : ℤ → Bool) (xs : List X) (vs : List (Option ℤ))
    → AllZip (λ x value. IfSome value (R x)) xs vs
    → ((x : X) (v : ℤ) → R x v → p (f x) ≡ true → q v ≡ true) → count_by p (map f xs) ≤ count_by q (heard vs) + missed vs
count_along f R p q [] [] zip along = lit≤ tt
count_along f R p q [] (v ∷ vs) zip along = absurd zip
count_along f R p q (x ∷ xs) [] zip along = absurd zip
count_along f R p q (x ∷ xs) (Some v ∷ vs) zip along =
    omega (
      arith,
      sum_by-cons (λ y. cond (p y) 1 0) (f x) (map f xs),
      sum_by-cons (λ y. cond (q y) 1 0) v (heard vs),
      sum_by-cons (λ (y : Option ℤ). cond (is_none y) 1 0) (Some v) vs,
      cond_le (p (f x)) (q v) (along x v zip.0),
      count_along f R p q xs vs zip.1 along,
    )
count_along f R p q (x ∷ xs) (None ∷ vs) zip along =
    omega (
      arith,
      sum_by-cons (λ y. cond (p y) 1 0) (f x) (map f xs),
      sum_by-cons (λ (y : Option ℤ). cond (is_none y) 1 0) None vs,
      cond_le (p (f x)) true (λ h. refl),
      count_along f R p q xs vs zip.1 along,
    )

-- and the other way round
count_back : {X : Type 0} (f : X → ℤ) (R : X → ℤ → Type 0) (p q : ℤ → Bool) (xs : List X) (vs : List (Option ℤ))
    → AllZip (λ x value. IfSome value (R x)) xs vs
    → ((x : X) (v : ℤ) → R x v → q v ≡ true → p (f x) ≡ true) → count_by q (heard vs) ≤ count_by p (map f xs)
count_back f R p q [] [] zip along = lit≤ tt
count_back f R p q [] (v ∷ vs) zip along = absurd zip
count_back f R p q (x ∷ xs) [] zip along = absurd zip
count_back f R p q (x ∷ xs) (Some v ∷ vs) zip along =
    omega (
      arith,
      sum_by-cons (λ y. cond (p y) 1 0) (f x) (map f xs),
      sum_by-cons (λ y. cond (q y) 1 0) v (heard vs),
      cond_le (q v) (p (f x)) (along x v zip.0),
      count_back f R p q xs vs zip.1 along,
    )
count_back f R p q (x ∷ xs) (None ∷ vs) zip along =
    omega (
      arith,
      sum_by-cons (λ y. cond (p y) 1 0) (f x) (map f xs),
      count_back f R p q xs vs zip.1 along,
    )

-- among all values are those that were said and the further ones
count_parts : (p : ℤ → Bool) (said extra values : List ℤ) → IsPermutation (said ++ extra) values
    → count_by p values ≡ count_by p said + count_by p extra
count_parts p said extra values parts =
    sum_by-IsPermutation (λ x. cond (p x) 1 0) (said ++ extra) values parts ∙ sum_by-append (λ x. cond (p x) 1 0) said extra

-- ---- what is left at each end

abbrev LiesIn : Interval → ℤ → Type 0
LiesIn interval value = IsBetween interval.low interval.high value

abbrev LieIn : List Interval → List (Option ℤ) → Type 0
LieIn known said = AllZip (λ interval value. IfSome value (LiesIn interval)) known said

abbrev low_end : Interval → ℤ
low_end interval = interval.low

abbrev high_end : Interval → ℤ
high_end interval = interval.high

module _ (known : List Interval) (said : List (Option ℤ)) (extra values : List ℤ) (k : ℕ) (parts : IsPermutation (heard said ++ extra) values) (zip : LieIn known said) where
  -- the least value that is left is no less than the least low end where the further values are discarded below it
  least_from_low : (least low : ℤ) → length extra ≤ k → IsLow (k - length extra) (lows_of known) least → IsLow k values low → least ≤ℤ low
  least_from_low least low few is_least is_low =
      by_lt_z low least
      (λ before.
      let said_up : count_by (λ (x : ℤ). int_le x low) (heard said) ≤ count_by (λ (x : ℤ). int_lt x least) (lows_of known) = count_back low_end LiesIn (λ x. int_lt x least) (λ x. int_le x low) known said zip (λ i v lies. under i.low v least low lies.low before) in
      let extra_up : count_by (λ (x : ℤ). int_le x low) extra ≤ length extra = count_by-le-length (λ x. int_le x low) extra in
      let all : count_by (λ (x : ℤ). int_le x low) values ≡ count_by (λ (x : ℤ). int_le x low) (heard said) + count_by (λ (x : ℤ). int_le x low) extra = count_parts (λ x. int_le x low) (heard said) extra values parts in
      let fewer : count_by (λ (x : ℤ). int_lt x least) (lows_of known) ≤ k - length extra = is_least.few_below in
      let more : k < count_by (λ (x : ℤ). int_le x low) values = is_low.more_up_to in
      absurd (omega (arith, said_up, extra_up, all, fewer, more, few)))
      (λ h. h)
    where
      under : (l v least low : ℤ) → l ≤ℤ v → low <ℤ least → int_le v low ≡ true → int_lt l least ≡ true
      under l v least low from before h = grind (arith, ints)

  -- the greatest one is no less than the greatest low end where none of them is, and those that were missed are discarded too
  greatest_from_low : (greatest high : ℤ) → IsHigh (k + missed said) (lows_of known) greatest → IsHigh k values high → greatest ≤ℤ high
  greatest_from_low greatest high is_greatest is_high =
      by_lt_z high greatest
      (λ before.
      let said_over : count_by (λ (x : ℤ). int_le greatest x) (lows_of known) ≤ count_by (λ (x : ℤ). int_lt high x) (heard said) + missed said = count_along low_end LiesIn (λ x. int_le greatest x) (λ x. int_lt high x) known said zip (λ i v lies. over i.low v greatest high lies.low before) in
      let all : count_by (λ (x : ℤ). int_lt high x) values ≡ count_by (λ (x : ℤ). int_lt high x) (heard said) + count_by (λ (x : ℤ). int_lt high x) extra = count_parts (λ x. int_lt high x) (heard said) extra values parts in
      let more : k + missed said < count_by (λ (x : ℤ). int_le greatest x) (lows_of known) = is_greatest.more_from in
      let fewer : count_by (λ (x : ℤ). int_lt high x) values ≤ k = is_high.few_above in
      absurd (omega (arith, said_over, all, fewer, more)))
      (λ h. h)
    where
      over : (l v greatest high : ℤ) → l ≤ℤ v → high <ℤ greatest → int_le greatest l ≡ true → int_lt high v ≡ true
      over l v greatest high from before h = grind (arith, ints)

  -- the same mirrored
  least_to_high : (least low : ℤ) → IsLow (k + missed said) (highs_of known) least → IsLow k values low → low ≤ℤ least
  least_to_high least low is_least is_low =
      by_lt_z least low
      (λ before.
      let said_under : count_by (λ (x : ℤ). int_le x least) (highs_of known) ≤ count_by (λ (x : ℤ). int_lt x low) (heard said) + missed said = count_along high_end LiesIn (λ x. int_le x least) (λ x. int_lt x low) known said zip (λ i v lies. under i.high v least low lies.high before) in
      let all : count_by (λ (x : ℤ). int_lt x low) values ≡ count_by (λ (x : ℤ). int_lt x low) (heard said) + count_by (λ (x : ℤ). int_lt x low) extra = count_parts (λ x. int_lt x low) (heard said) extra values parts in
      let more : k + missed said < count_by (λ (x : ℤ). int_le x least) (highs_of known) = is_least.more_up_to in
      let fewer : count_by (λ (x : ℤ). int_lt x low) values ≤ k = is_low.few_below in
      absurd (omega (arith, said_under, all, fewer, more)))
      (λ h. h)
    where
      under : (h v least low : ℤ) → v ≤ℤ h → least <ℤ low → int_le h least ≡ true → int_lt v low ≡ true
      under h v least low to before is = grind (arith, ints)

  greatest_to_high : (greatest high : ℤ) → length extra ≤ k → IsHigh (k - length extra) (highs_of known) greatest → IsHigh k values high → high ≤ℤ greatest
  greatest_to_high greatest high few is_greatest is_high =
      by_lt_z greatest high
      (λ before.
      let said_over : count_by (λ (x : ℤ). int_le high x) (heard said) ≤ count_by (λ (x : ℤ). int_lt greatest x) (highs_of known) = count_back high_end LiesIn (λ x. int_lt greatest x) (λ x. int_le high x) known said zip (λ i v lies. over i.high v greatest high lies.high before) in
      let extra_over : count_by (λ (x : ℤ). int_le high x) extra ≤ length extra = count_by-le-length (λ x. int_le high x) extra in
      let all : count_by (λ (x : ℤ). int_le high x) values ≡ count_by (λ (x : ℤ). int_le high x) (heard said) + count_by (λ (x : ℤ). int_le high x) extra = count_parts (λ x. int_le high x) (heard said) extra values parts in
      let fewer : count_by (λ (x : ℤ). int_lt greatest x) (highs_of known) ≤ k - length extra = is_greatest.few_above in
      let more : k < count_by (λ (x : ℤ). int_le high x) values = is_high.more_from in
      absurd (omega (arith, said_over, extra_over, all, fewer, more, few)))
      (λ h. h)
    where
      over : (h v greatest high : ℤ) → v ≤ℤ h → greatest <ℤ high → int_le high v ≡ true → int_lt greatest h ≡ true
      over h v greatest high to before is = grind (arith, ints)

-- ---- the midpoint

half_up : (s t : ℤ) → s ≤ℤ t → int_div s (pos 2) ≤ℤ int_div t (pos 2)
half_up (pos a) (pos b) le =
    let half : a / 2 ≤ b / 2 = omega (arith, ints, le) in
    let is : pos (a / 2) ≤ℤ pos (b / 2) = omega (arith, ints, half) in
    is
half_up (pos a) (negsuc b) le = absurd (omega (arith, ints, le))
half_up (negsuc a) (pos b) le =
    let is : neg_ℤ (pos (suc a / 2)) ≤ℤ pos (b / 2) = omega (arith, ints) in
    is
half_up (negsuc a) (negsuc b) le =
    let half : suc b / 2 ≤ suc a / 2 = omega (arith, ints, le) in
    let is : neg_ℤ (pos (suc a / 2)) ≤ℤ neg_ℤ (pos (suc b / 2)) = omega (arith, ints, half) in
    is

sum_le : (a b c d : ℤ) → a ≤ℤ c → b ≤ℤ d → (a +ℤ b) ≤ℤ (c +ℤ d)
sum_le a b c d one other = omega (arith, ints)

half_le : (a b c d : ℤ) → a ≤ℤ c → b ≤ℤ d → half_of_sum a b ≤ℤ half_of_sum c d
half_le a b c d one other = half_up (a +ℤ b) (c +ℤ d) (sum_le a b c d one other)

-- some remain of as many as are discarded at both ends
discarded_twice : (n : ℕ) → 1 ≤ n → 2 * discarded n + 1 ≤ n
discarded_twice n some = by_tests (nat_lt n 3) (nat_lt n 8) refl refl
  where
    by_tests : (a b : Bool) → nat_lt n 3 ≡ a → nat_lt n 8 ≡ b → 2 * (if a then 0 else (if b then 1 else 2)) + 1 ≤ n
    by_tests true b is also = some
    by_tests false true is also = grind (arith, nat_tests)
    by_tests false false is also = grind (arith, nat_tests)

length_map : {X : Type 0} (f : X → ℤ) (xs : List X) → length (map f xs) ≡ length xs
length_map f [] = refl
length_map f (x ∷ xs) = ap suc (length_map f xs)

-- as many intervals as values that were heard and that were missed
length_zip : (known : List Interval) (said : List (Option ℤ)) → LieIn known said → length (heard said) + missed said ≡ length known
length_zip [] [] zip = refl
length_zip [] (v ∷ vs) zip = absurd zip
length_zip (i ∷ is) [] zip = absurd zip
length_zip (i ∷ is) (Some v ∷ vs) zip =
    omega (arith, sum_by-cons (λ (y : Option ℤ). cond (is_none y) 1 0) (Some v) vs, length_zip is vs zip.1)
length_zip (i ∷ is) (None ∷ vs) zip =
    omega (arith, sum_by-cons (λ (y : Option ℤ). cond (is_none y) 1 0) None vs, length_zip is vs zip.1)

abbrev Holds : ℤ → Option Interval → Type 0
Holds mid found = IfSome found (λ middle. IsBetween middle.low middle.high mid)

module _ (known : List Interval) (said : List (Option ℤ)) (extra values : List ℤ) (mid : ℤ) (parts : IsPermutation (heard said ++ extra) values) (zip : LieIn known said) (is : IsMidpoint values mid) where
  -- with just so many further values and so many that were missed, of which as many are discarded at each end
  middle_between : (k : ℕ) → k + missed said < length known → length extra ≤ k → k ≡ discarded (length values)
      → IsBetween (least_middle (length extra) (missed said) k known) (greatest_middle (length extra) (missed said) k known) mid
  middle_between k short few is_k =
      let m = length extra in
      let s = missed said in
      let least_is : IsLow k values is.low = subst (λ n. IsLow n values is.low) (sym is_k) is.least in
      let greatest_is : IsHigh k values is.high = subst (λ n. IsHigh n values is.high) (sym is_k) is.greatest in
      let lows : length (lows_of known) ≡ length known = length_map low_end known in
      let highs : length (highs_of known) ≡ length known = length_map high_end known in
      let from_least = least_from_low known said extra values k parts zip (least_left (k - m) (lows_of known)) is.low few (least_left-is_low (k - m) (lows_of known) (omega (arith, lows, short))) least_is in
      let from_greatest = greatest_from_low known said extra values k parts zip (greatest_left (k + s) (lows_of known)) is.high (greatest_left-is_high (k + s) (lows_of known) (omega (arith, lows, short))) greatest_is in
      let to_least = least_to_high known said extra values k parts zip (least_left (k + s) (highs_of known)) is.low (least_left-is_low (k + s) (highs_of known) (omega (arith, highs, short))) least_is in
      let to_greatest = greatest_to_high known said extra values k parts zip (greatest_left (k - m) (highs_of known)) is.high few (greatest_left-is_high (k - m) (highs_of known) (omega (arith, highs, short))) greatest_is in
      record {
        low = subst (λ x. least_middle m s k known ≤ℤ x) (sym is.half) (half_le (least_left (k - m) (lows_of known)) (greatest_left (k + s) (lows_of known)) is.low is.high from_least from_greatest);
        high = subst (λ x. x ≤ℤ greatest_middle m s k known) (sym is.half) (half_le is.low is.high (least_left (k + s) (highs_of known)) (greatest_left (k - m) (highs_of known)) to_least to_greatest);
      }

  -- with so many
  middle_where_holds : (k : ℕ) (b : Bool) → missed said < length known → 2 * k + 1 ≤ (length known - missed said) + length extra
      → k ≡ discarded (length values) → nat_lt k (length extra) ≡ b → Holds mid (middle_where (length extra) (missed said) k known)
  middle_where_holds k true some remain is_k many = subst (Holds mid) (sym (middle_where-none (length extra) (missed said) k known many)) tt
  middle_where_holds k false some remain is_k few =
      let le : length extra ≤ k = grind (arith, nat_tests) in
      subst (Holds mid) (sym (middle_where-some (length extra) (missed said) k known few)) (middle_between k (omega (arith, le, remain, some)) le is_k)

  middle_with_holds : 1 ≤ length (heard said) → Holds mid (middle_with (length extra) (missed said) known)
  middle_with_holds some =
      let n = (length known - missed said) + length extra in
      let both = length_zip known said zip in
      let counted : length values ≡ n = omega (arith, length_permutation (heard said ++ extra) values parts, length-append (heard said) extra, both) in
      middle_where_holds (discarded n) (nat_lt (discarded n) (length extra)) (omega (arith, some, both)) (discarded_twice n (omega (arith, some, both))) (ap discarded (sym counted)) refl

-- ---- at most so many further values

hull_first : (mid : ℤ) (one other : Option Interval) → Holds mid one → Holds mid (hull one other)
hull_first mid None other holds = tt
hull_first mid (Some one) None holds = tt
hull_first mid (Some one) (Some other) holds = record { low = omega (arith, ints, clamps, holds.low); high = omega (arith, ints, clamps, holds.high) }

hull_second : (mid : ℤ) (one other : Option Interval) → Holds mid other → Holds mid (hull one other)
hull_second mid None other holds = tt
hull_second mid (Some one) None holds = tt
hull_second mid (Some one) (Some other) holds = record { low = omega (arith, ints, clamps, holds.low); high = omega (arith, ints, clamps, holds.high) }

none : (m : ℕ) → m ≤ 0 → m ≡ 0
none m le = omega (arith, le)

at_end : (m more : ℕ) → m ≤ suc more → more < m → m ≡ suc more
at_end m more le lt = omega (arith, le, lt)

one_of : (mid : ℤ) (known : List Interval) (s m further : ℕ) (b : Bool) → nat_le m further ≡ b → m ≤ suc further
    → (m ≤ further → Holds mid (middle_missing further s known)) → Holds mid (middle_with m s known)
    → Holds mid (hull (middle_missing further s known) (middle_with (suc further) s known))
one_of mid known s m further true fewer le rest holds =
    hull_first mid (middle_missing further s known) (middle_with (suc further) s known) (rest (grind (arith, nat_tests)))
one_of mid known s m further false not_fewer le rest holds =
    let last : m ≡ suc further = at_end m further le (grind (arith, nat_tests)) in
    hull_second mid (middle_missing further s known) (middle_with (suc further) s known) (subst (λ n. Holds mid (middle_with n s known)) last holds)

at_most : (mid : ℤ) (known : List Interval) (s m further : ℕ) → m ≤ further → Holds mid (middle_with m s known)
    → Holds mid (middle_missing further s known)
unfolding middle_missing
at_most mid known s m zero le holds = subst (λ n. Holds mid (middle_with n s known)) (none m le) holds
at_most mid known s m (suc further) le holds =
    one_of mid known s m further (nat_le m further) refl le (λ fewer. at_most mid known s m further fewer holds) holds

-- ---- at most so many that were missed

one_wider : (mid : ℤ) (known : List Interval) (further lost : ℕ) (b : Bool) → nat_lt (suc lost) (length known) ≡ b
    → Holds mid (middle further lost known) → Holds mid (middle further (suc lost) known)
one_wider mid known further lost true some holds =
    subst (Holds mid) (sym (middle-wide further lost known (grind (arith, nat_tests))))
    (hull_first mid (middle further lost known) (middle_missing further (suc lost) known) holds)
one_wider mid known further lost false all holds = subst (Holds mid) (sym (middle-same further lost known (grind (arith, nat_tests)))) holds

lost_of : (mid : ℤ) (known : List Interval) (s further lost : ℕ) (b : Bool) → nat_le s lost ≡ b → s ≤ suc lost → s < length known
    → (s ≤ lost → Holds mid (middle further lost known)) → Holds mid (middle_missing further s known)
    → Holds mid (middle further (suc lost) known)
lost_of mid known s further lost true fewer le some rest holds =
    one_wider mid known further lost (nat_lt (suc lost) (length known)) refl (rest (grind (arith, nat_tests)))
lost_of mid known s further lost false not_fewer le some rest holds =
    let last : s ≡ suc lost = at_end s lost le (grind (arith, nat_tests)) in
    let short : suc lost < length known = omega (arith, some, last) in
    subst (Holds mid) (sym (middle-wide further lost known short))
    (hull_second mid (middle further lost known) (middle_missing further (suc lost) known) (subst (λ n. Holds mid (middle_missing further n known)) last holds))

lost_at_most : (mid : ℤ) (known : List Interval) (s further lost : ℕ) → s ≤ lost → s < length known
    → Holds mid (middle_missing further s known) → Holds mid (middle further lost known)
lost_at_most mid known s further zero le some holds =
    subst (Holds mid) (sym (middle-none further known)) (subst (λ n. Holds mid (middle_missing further n known)) (none s le) holds)
lost_at_most mid known s further (suc lost) le some holds =
    lost_of mid known s further lost (nat_le s lost) refl le some (λ fewer. lost_at_most mid known s further lost fewer some holds) holds

pub middles_hold_lem : MiddlesHold
middles_hold_lem further lost known said extra values mid parts zip few_lost few some is =
    lost_at_most mid known (missed said) further lost few_lost (omega (arith, some, length_zip known said zip))
    (at_most mid known (missed said) (length extra) further few (middle_with_holds known said extra values mid parts zip is some))

-- ---- more that were missed

wider_of : (mid : ℤ) (known : List Interval) (further lost more : ℕ) (b : Bool) → nat_le lost more ≡ b → lost ≤ suc more
    → (lost ≤ more → Holds mid (middle further more known)) → Holds mid (middle further lost known)
    → Holds mid (middle further (suc more) known)
wider_of mid known further lost more true fewer le rest holds =
    one_wider mid known further more (nat_lt (suc more) (length known)) refl (rest (grind (arith, nat_tests)))
wider_of mid known further lost more false not_fewer le rest holds =
    let last : lost ≡ suc more = at_end lost more le (grind (arith, nat_tests)) in
    subst (λ n. Holds mid (middle further n known)) last holds

pub missing_middles_widen_lem : MissingMiddlesWiden
missing_middles_widen_lem further lost zero known mid le holds = subst (λ n. Holds mid (middle further n known)) (none lost le) holds
missing_middles_widen_lem further lost (suc more) known mid le holds =
    wider_of mid known further lost more (nat_le lost more) refl le (λ fewer. missing_middles_widen_lem further lost more known mid fewer holds) holds
