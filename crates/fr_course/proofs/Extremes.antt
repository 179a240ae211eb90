-- How far a point lies from others, by where they begin and end at the least and at the greatest.
use Rattle.std.proofs.Common.{◌≡◌, ◌∙◌, ℕ, ◌+◌, ◌<◌, ℤ, pos, List, [], ◌∷◌, length, get_or, drop, map, ap, sym, arith}
use Rattle.std.specs.Int.{int_max, int_min}
use Rattle.std.specs.Prelude.{◌-ℤ◌, ◌≤ℤ◌, neg_ℤ}
use Rattle.std.proofs.lemmas.Int.{ints, clamps}
use Rattle.std.proofs.lemmas.List.{drop_more, drop_all}
use Rattle.fr_course.specs.Extremes.{around, common, join}
use Rattle.fr_course.specs.Near.{EndBetween, EndWithin}
use Rattle.fr_course.specs.Readings.{meet, Interval}
use Rattle.fr_course.specs.Course.{Course}
use Rattle.fr_course.specs.Spread.{least_distance, least_from, least_spread, most_distance, most_from, most_spread}
use Rattle.fr_course.proofs.Spreads.{least_spread-more, most_spread-more}

-- ---- numbers

less_least : (x a b : ℤ) → x -ℤ int_min a b ≡ int_max (x -ℤ a) (x -ℤ b)
less_least x a b = omega (arith, ints, clamps)

greatest_less : (a b x : ℤ) → int_max a b -ℤ x ≡ int_max (a -ℤ x) (b -ℤ x)
greatest_less a b x = omega (arith, ints, clamps)

of_both : (a b c d : ℤ) → int_max (int_max a b) (int_max (int_max c d) (pos 0)) ≡ int_max (int_max (int_max c a) (int_max d b)) (pos 0)
of_both a b c d = omega (arith, ints, clamps)

-- with one more interval, from which a point lies so far, where x and y are its own ends
one_more : (x y a b c d : ℤ)
    → int_max (int_max (x -ℤ b) (a -ℤ y)) (int_max (int_max (x -ℤ d) (c -ℤ y)) (pos 0)) ≡ int_max (int_max (x -ℤ int_min d b) (int_max c a -ℤ y)) (pos 0)
one_more x y a b c d =
    of_both (x -ℤ b) (a -ℤ y) (x -ℤ d) (c -ℤ y)
    ∙ sym (
    ap (λ (z : ℤ). int_max (int_max z (int_max c a -ℤ y)) (pos 0)) (less_least x d b)
    ∙ ap (λ (z : ℤ). int_max (int_max (int_max (x -ℤ d) (x -ℤ b)) z) (pos 0)) (greatest_less c a y)
    )

of_none : (x y : ℤ) → x ≤ℤ pos 3_000_000_000_000_000_000 → neg_ℤ (pos 3_000_000_000_000_000_000) ≤ℤ y
    → pos 0 ≡ int_max (int_max (x -ℤ pos 3_000_000_000_000_000_000) (neg_ℤ (pos 3_000_000_000_000_000_000) -ℤ y)) (pos 0)
of_none x y h k = omega (arith, ints, clamps, h, k)

-- a number below 0 does not count where another is none
above_none : (x y : ℤ) → pos 0 ≤ℤ y → int_max x y ≡ int_max (int_max x (pos 0)) y
above_none x y h = omega (arith, ints, clamps, h)

-- ---- one point and others

pub least_from-common : (point : Interval) (others : List Interval) → EndWithin (pos 3_000_000_000_000_000_000) point
    → least_from point others ≡ int_max (least_distance point (common others)) (pos 0)
unfolding least_from common
least_from-common point [] near = of_none point.low point.high near.low_to near.high_from
least_from-common point (other ∷ others) near =
    ap (int_max (least_distance point other)) (least_from-common point others near)
    ∙ one_more point.low point.high other.low other.high (common others).low (common others).high

pub most_from-around : (point : Interval) (others : List Interval) → EndWithin (pos 3_000_000_000_000_000_000) point
    → most_from point others ≡ int_max (most_distance point (around others)) (pos 0)
unfolding most_from around
most_from-around point [] near = of_none point.high point.low near.high_to near.low_from
most_from-around point (other ∷ others) near =
    ap (int_max (most_distance point other)) (most_from-around point others near)
    ∙ one_more point.high point.low other.high other.low (around others).high (around others).low

-- ---- courses one by one

pub common-more : (f : Course → Interval) (courses : List Course) (place : ℕ) (d : Course) → place < length courses
    → common (map f (drop place courses)) ≡ meet (common (map f (drop (place + 1) courses))) (f (get_or courses place d))
unfolding common
common-more f courses place d lt = ap (λ (xs : List Course). common (map f xs)) (drop_more courses place d lt)

pub around-more : (f : Course → Interval) (courses : List Course) (place : ℕ) (d : Course) → place < length courses
    → around (map f (drop place courses)) ≡ join (around (map f (drop (place + 1) courses))) (f (get_or courses place d))
unfolding around
around-more f courses place d lt = ap (λ (xs : List Course). around (map f xs)) (drop_more courses place d lt)

pub common-none : (f : Course → Interval) (courses : List Course)
    → common (map f (drop (length courses) courses)) ≡ record { low = neg_ℤ (pos 3_000_000_000_000_000_000); high = pos 3_000_000_000_000_000_000 }
unfolding common
common-none f courses = ap (λ (xs : List Course). common (map f xs)) (drop_all (length courses) courses (omega arith))

pub around-none : (f : Course → Interval) (courses : List Course)
    → around (map f (drop (length courses) courses)) ≡ record { low = pos 3_000_000_000_000_000_000; high = neg_ℤ (pos 3_000_000_000_000_000_000) }
unfolding around
around-none f courses = ap (λ (xs : List Course). around (map f xs)) (drop_all (length courses) courses (omega arith))

-- so far apart with the course at a place as with those behind it, or as its corner lies from theirs
pub least_spread-common : (f : Course → Interval) (courses : List Course) (place : ℕ) (d : Course) (point behind : Interval) (least : ℤ)
    → place < length courses → point ≡ f (get_or courses place d) → EndWithin (pos 3_000_000_000_000_000_000) point
    → behind ≡ common (map f (drop (place + 1) courses)) → least ≡ least_spread (map f (drop (place + 1) courses)) → pos 0 ≤ℤ least
    → int_max (least_distance point behind) least ≡ least_spread (map f (drop place courses))
least_spread-common f courses place d point behind least inside here near ends value some =
    let others : List Interval = map f (drop (place + 1) courses) in
    above_none (least_distance point behind) least some
    ∙ ap (λ (x : Interval). int_max (int_max (least_distance point x) (pos 0)) least) ends
    ∙ ap (λ (x : ℤ). int_max x least) (sym (least_from-common point others near))
    ∙ ap (λ (x : Interval). int_max (least_from x others) least) here
    ∙ ap (int_max (least_from (f (get_or courses place d)) others)) value
    ∙ sym (least_spread-more f courses place d inside)

pub most_spread-around : (f : Course → Interval) (courses : List Course) (place : ℕ) (d : Course) (point behind : Interval) (most : ℤ)
    → place < length courses → point ≡ f (get_or courses place d) → EndWithin (pos 3_000_000_000_000_000_000) point
    → behind ≡ around (map f (drop (place + 1) courses)) → most ≡ most_spread (map f (drop (place + 1) courses)) → pos 0 ≤ℤ most
    → int_max (most_distance point behind) most ≡ most_spread (map f (drop place courses))
most_spread-around f courses place d point behind most inside here near ends value some =
    let others : List Interval = map f (drop (place + 1) courses) in
    above_none (most_distance point behind) most some
    ∙ ap (λ (x : Interval). int_max (int_max (most_distance point x) (pos 0)) most) ends
    ∙ ap (λ (x : ℤ). int_max x most) (sym (most_from-around point others near))
    ∙ ap (λ (x : Interval). int_max (most_from x others) most) here
    ∙ ap (int_max (most_from (f (get_or courses place d)) others)) value
    ∙ sym (most_spread-more f courses place d inside)

-- ---- ends

pub join_between : (least greatest : ℤ) (one other : Interval) → EndBetween least greatest one → EndBetween least greatest other
    → EndBetween least greatest (join one other)
join_between least greatest one other a b =
    record {
      low_from = omega (arith, ints, clamps, a.low_from, b.low_from);
      low_to = omega (arith, ints, clamps, a.low_to, b.low_to);
      high_from = omega (arith, ints, clamps, a.high_from, b.high_from);
      high_to = omega (arith, ints, clamps, a.high_to, b.high_to);
    }
