-- How far any two of some readings lie apart, by the intervals in which they lie.
use Rattle.std.proofs.Common.{◌≡◌, ℤ, pos, Bool, true, false, List, [], ◌∷◌, All, map, refl, arith}
use Rattle.std.specs.Prelude.{◌-ℤ◌, ◌*ℤ◌, ◌≤ℤ◌, int_lt, if◌then◌else◌, Contains}
use Rattle.std.specs.Int.{int_max}
use Rattle.std.proofs.lemmas.Int.{ints}
use Rattle.std.proofs.lemmas.List.Elements.{All-cons, All-contains, All-contains_itself, All-head, All-map, All-nil, All-tail, All-weaker}
use Rattle.fr_midpoint.proofs.Products.{mulz-lez_left, mulz-subz, mulz_from}
use Rattle.fr_skew.specs.Spreads.{spread_of}
use Rattle.fr_skew.proofs.Differences.{spread_from}
use Rattle.fr_course.specs.declared.intervals.Interval.{Interval}
use Rattle.fr_course.specs.Spread.{least_distance, least_from, least_spread, most_distance, most_from, most_spread}
use Rattle.fr_seen.specs.Clocks.{HasReading, StraightClock}
use Rattle.fr_seen.proofs.Intervals.{on_max}

-- ---- the greater of two numbers

le_itself : (a : ℤ) → a ≤ℤ a
le_itself a = omega (arith, ints)

from_lt : (a b : ℤ) → int_lt a b ≡ true → a ≤ℤ b
from_lt a b is = grind (arith, ints)

from_ge : (a b : ℤ) → int_lt a b ≡ false → b ≤ℤ a
from_ge a b is = grind (arith, ints)

pub max_left : (a b : ℤ) → a ≤ℤ int_max a b
max_left a b = by (int_lt b a) refl
  where
    by : (first : Bool) → int_lt b a ≡ first → a ≤ℤ (if first then a else b)
    by true is = le_itself a
    by false is = from_ge b a is

pub max_right : (a b : ℤ) → b ≤ℤ int_max a b
max_right a b = by (int_lt b a) refl
  where
    by : (first : Bool) → int_lt b a ≡ first → b ≤ℤ (if first then a else b)
    by true is = from_lt b a is
    by false is = le_itself b

pub wider : (ticks a b x : ℤ) → pos 0 ≤ℤ ticks → a ≤ℤ b → x ≤ℤ (ticks *ℤ a) → x ≤ℤ (ticks *ℤ b)
wider ticks a b x from le under = trans x (ticks *ℤ a) (ticks *ℤ b) under (mulz-lez_left a b ticks le from)
  where
    trans : (a b c : ℤ) → a ≤ℤ b → b ≤ℤ c → a ≤ℤ c
    trans a b c h k = omega (arith, ints)

-- ---- at most

pub most_from_above : (point : Interval) (others : List Interval) → pos 0 ≤ℤ most_from point others
unfolding most_from
most_from_above point [] = le_itself (pos 0)
most_from_above point (other ∷ others) = above (most_distance point other) (most_from point others) (most_from_above point others) (max_right (most_distance point other) (most_from point others))
  where
    above : (a b : ℤ) → pos 0 ≤ℤ b → b ≤ℤ int_max a b → pos 0 ≤ℤ int_max a b
    above a b h k = trans (pos 0) b (int_max a b) h k
      where
        trans : (a b c : ℤ) → a ≤ℤ b → b ≤ℤ c → a ≤ℤ c
        trans a b c h k = omega (arith, ints)

pub most_spread_above : (points : List Interval) → pos 0 ≤ℤ most_spread points
unfolding most_spread
most_spread_above [] = le_itself (pos 0)
most_spread_above (point ∷ others) =
    trans (pos 0) (most_from point others) (int_max (most_from point others) (most_spread others)) (most_from_above point others) (max_left (most_from point others) (most_spread others))
  where
    trans : (a b c : ℤ) → a ≤ℤ b → b ≤ℤ c → a ≤ℤ c
    trans a b c h k = omega (arith, ints)

-- a point and others whose readings lie in intervals
module _ {X : Type 0} (clock : StraightClock) (ticks_from : pos 0 ≤ℤ clock.ticks) (c : X → Interval) (f : X → ℤ) where
  abbrev Lies : X → Type 0
  Lies x = HasReading clock (c x) (f x)

  pair_most : (a b : X) → Lies a → Lies b → (f a -ℤ f b) ≤ℤ (clock.ticks *ℤ ((c a).high -ℤ (c b).low))
  pair_most a b here there = apart (f a) (f b) (clock.ticks *ℤ (c a).high) (clock.ticks *ℤ (c b).low) (clock.ticks *ℤ ((c a).high -ℤ (c b).low)) here.high there.low (mulz-subz (c a).high (c b).low clock.ticks)
    where
      apart : (x y h l d : ℤ) → x ≤ℤ h → l ≤ℤ y → d ≡ h -ℤ l → (x -ℤ y) ≤ℤ d
      apart x y h l d i j k = omega (arith, ints)

  abbrev Within : ℤ → X → X → Type 0
  Within bound a b = (f a -ℤ f b) ≤ℤ (clock.ticks *ℤ bound)

  one_most : (a : X) (xs : List X) → Lies a → All Lies xs → All (λ b. Within (most_from (c a) (map c xs)) a b × Within (most_from (c a) (map c xs)) b a) xs
  unfolding most_from
  one_most a [] here all = All-nil (λ b. Within (pos 0) a b × Within (pos 0) b a)
  one_most a (b ∷ xs) here all =
      let there = All-head Lies b xs all in
      let apart = most_distance (c a) (c b) in
      let rest = most_from (c a) (map c xs) in
      let most = int_max apart rest in
      let Both : ℤ → X → Type 0 = λ bound x. Within bound a x × Within bound x a in
      All-cons (Both most) b xs (
        wider clock.ticks apart most (f a -ℤ f b) ticks_from (max_left apart rest)
            (wider clock.ticks ((c a).high -ℤ (c b).low) apart (f a -ℤ f b) ticks_from (max_left ((c a).high -ℤ (c b).low) ((c b).high -ℤ (c a).low)) (pair_most a b here there)),
        wider clock.ticks apart most (f b -ℤ f a) ticks_from (max_left apart rest)
            (wider clock.ticks ((c b).high -ℤ (c a).low) apart (f b -ℤ f a) ticks_from (max_right ((c a).high -ℤ (c b).low) ((c b).high -ℤ (c a).low)) (pair_most b a there here)),
      )
      (All-weaker (Both rest) (Both most)
      (λ x both. (wider clock.ticks rest most (f a -ℤ f x) ticks_from (max_right apart rest) both.0, wider clock.ticks rest most (f x -ℤ f a) ticks_from (max_right apart rest) both.1))
      xs (one_most a xs here (All-tail Lies b xs all)))

  itself_within : (bound : ℤ) (a : X) → pos 0 ≤ℤ bound → Within bound a a
  itself_within bound a from = none (f a) (clock.ticks *ℤ bound) (mulz_from clock.ticks bound ticks_from from)
    where
      none : (x y : ℤ) → pos 0 ≤ℤ y → (x -ℤ x) ≤ℤ y
      none x y h = omega (arith, ints)

  -- any two lie no further apart than the greatest spread
  pairs_most : (xs : List X) → All Lies xs → All (λ a. All (λ b. Within (most_spread (map c xs)) a b) xs) xs
  unfolding most_spread
  pairs_most [] all = All-nil (λ a. All (λ b. Within (pos 0) a b) [])
  pairs_most (n ∷ xs) all =
      let from = most_from (c n) (map c xs) in
      let rest = most_spread (map c xs) in
      let most = int_max from rest in
      let one = one_most n xs (All-head Lies n xs all) (All-tail Lies n xs all) in
      let others = pairs_most xs (All-tail Lies n xs all) in
      let Near : X → Type 0 = λ a. All (λ b. Within most a b) (n ∷ xs) in
      All-cons Near n xs
      (All-cons (λ b. Within most n b) n xs (itself_within most n (most_spread_above (c n ∷ map c xs)))
      (All-weaker (λ b. Within from n b × Within from b n) (λ b. Within most n b) (λ b both. wider clock.ticks from most (f n -ℤ f b) ticks_from (max_left from rest) both.0) xs one))
      (All-weaker (Contains xs) Near
      (λ a here.
      All-cons (λ b. Within most a b) n xs
      (wider clock.ticks from most (f a -ℤ f n) ticks_from (max_left from rest) (All-contains (λ b. Within from n b × Within from b n) xs a one here).1)
      (All-weaker (λ b. Within rest a b) (λ b. Within most a b) (λ b near. wider clock.ticks rest most (f a -ℤ f b) ticks_from (max_right from rest) near) xs
      (All-contains (λ a. All (λ b. Within rest a b) xs) xs a others here)))
      xs (All-contains_itself xs))

  pub pair_within : (xs : List X) (a b : X) → All Lies xs → Contains xs a → Contains xs b → (f a -ℤ f b) ≤ℤ (clock.ticks *ℤ most_spread (map c xs))
  pair_within xs a b all here there =
      All-contains (λ b. Within (most_spread (map c xs)) a b) xs b (All-contains (λ a. All (λ b. Within (most_spread (map c xs)) a b) xs) xs a (pairs_most xs all) here) there

-- ---- at least

module _ {X : Type 0} (ticks reach : ℤ) (reach_from : pos 0 ≤ℤ reach) (c : X → Interval) where
  abbrev Reaches : ℤ → Type 0
  Reaches x = (ticks *ℤ x) ≤ℤ reach

  abbrev Apart : X → X → Type 0
  Apart a b = Reaches ((c a).low -ℤ (c b).high)

  none_apart : Reaches (pos 0)
  none_apart = none ticks reach reach_from
    where
      none : (t r : ℤ) → pos 0 ≤ℤ r → (t *ℤ pos 0) ≤ℤ r
      none t r h = omega (arith, ints)

  one_least : (a : X) (xs : List X) → All (λ b. Apart a b × Apart b a) xs → Reaches (least_from (c a) (map c xs))
  unfolding least_from
  one_least a [] all = none_apart
  one_least a (b ∷ xs) all =
      let Both : X → Type 0 = λ b. Apart a b × Apart b a in
      let both = All-head Both b xs all in
      on_max Reaches (least_distance (c a) (c b)) (least_from (c a) (map c xs))
      (on_max Reaches ((c a).low -ℤ (c b).high) ((c b).low -ℤ (c a).high) both.0 both.1)
      (one_least a xs (All-tail Both b xs all))

  least_listed : (xs : List X) → All (λ a. All (Apart a) xs) xs → Reaches (least_spread (map c xs))
  unfolding least_spread
  least_listed [] all = none_apart
  least_listed (n ∷ xs) all =
      let Near : X → Type 0 = λ a. All (Apart a) (n ∷ xs) in
      let first = All-head Near n xs all in
      let others = All-tail Near n xs all in
      on_max Reaches (least_from (c n) (map c xs)) (least_spread (map c xs))
      (one_least n xs
      (All-weaker (Contains xs) (λ b. Apart n b × Apart b n)
      (λ b here. (All-contains (Apart n) xs b (All-tail (Apart n) n xs first) here, All-head (Apart b) n xs (All-contains Near xs b others here)))
      xs (All-contains_itself xs)))
      (least_listed xs (All-weaker Near (λ a. All (Apart a) xs) (λ a near. All-tail (Apart a) n xs near) xs others))

  -- what any two of the least distances reach, the least spread reaches
  pub pairs_least : (xs : List X) → ((a b : X) → Contains xs a → Contains xs b → Apart a b) → Reaches (least_spread (map c xs))
  pairs_least xs each =
      least_listed xs
      (All-weaker (Contains xs) (λ a. All (Apart a) xs) (λ a here. All-weaker (Contains xs) (Apart a) (λ b there. each a b here there) xs (All-contains_itself xs)) xs (All-contains_itself xs))

-- ---- spreads

-- any two of which lie near
pub spread_of_all : {X : Type 0} (f : X → ℤ) (bound : ℤ) (xs : List X) → pos 0 ≤ℤ bound
    → ((a b : X) → Contains xs a → Contains xs b → (f a -ℤ f b) ≤ℤ bound) → spread_of (map f xs) ≤ℤ bound
spread_of_all f bound xs from near =
    spread_from bound (map f xs) from
    (All-map (λ x. All (λ y. (x -ℤ y) ≤ℤ bound) (map f xs)) f xs
    (All-weaker (Contains xs) (λ a. All (λ y. (f a -ℤ y) ≤ℤ bound) (map f xs))
    (λ a here. All-map (λ y. (f a -ℤ y) ≤ℤ bound) f xs (All-weaker (Contains xs) (λ b. (f a -ℤ f b) ≤ℤ bound) (λ b there. near a b here there) xs (All-contains_itself xs)))
    xs (All-contains_itself xs)))
