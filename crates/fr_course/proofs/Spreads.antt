-- How far corners of courses lie apart, course by course.
use Rattle.std.proofs.Common.{◌≡◌, ℕ, ◌+◌, ◌<◌, pos, List, length, get_or, drop, map, ap, arith}
use Rattle.std.specs.Int.{int_max}
use Rattle.std.proofs.lemmas.List.{drop_more, drop_all}
use Rattle.fr_course.specs.Readings.{Interval}
use Rattle.fr_course.specs.Course.{Course}
use Rattle.fr_course.specs.Spread.{least_from, least_spread, most_from, most_spread}

-- a course of zeros, where a list has no other
abbrev pub nowhere : Course
nowhere =
    let none : Interval = record { low = pos 0; high = pos 0 } in
    record { action = pos 0; even = none; odd = none; apart = none; length = none }

pub least_spread-more : (f : Course → Interval) (courses : List Course) (place : ℕ) (d : Course) → place < length courses
    → least_spread (map f (drop place courses))
    ≡ int_max (least_from (f (get_or courses place d)) (map f (drop (place + 1) courses))) (least_spread (map f (drop (place + 1) courses)))
unfolding least_spread
least_spread-more f courses place d lt = ap (λ (xs : List Course). least_spread (map f xs)) (drop_more courses place d lt)

pub most_spread-more : (f : Course → Interval) (courses : List Course) (place : ℕ) (d : Course) → place < length courses
    → most_spread (map f (drop place courses))
    ≡ int_max (most_from (f (get_or courses place d)) (map f (drop (place + 1) courses))) (most_spread (map f (drop (place + 1) courses)))
unfolding most_spread
most_spread-more f courses place d lt = ap (λ (xs : List Course). most_spread (map f xs)) (drop_more courses place d lt)

-- of none
pub least_spread-none : (f : Course → Interval) (courses : List Course) → least_spread (map f (drop (length courses) courses)) ≡ pos 0
unfolding least_spread
least_spread-none f courses = ap (λ (xs : List Course). least_spread (map f xs)) (drop_all (length courses) courses (omega arith))

pub most_spread-none : (f : Course → Interval) (courses : List Course) → most_spread (map f (drop (length courses) courses)) ≡ pos 0
unfolding most_spread
most_spread-none f courses = ap (λ (xs : List Course). most_spread (map f xs)) (drop_all (length courses) courses (omega arith))
