-- How far quotients, weighed sums and what lies in two intervals lie from 0.
use Rattle.std.proofs.Common.{◌≡◌, ◌∙◌, ℤ, pos, Option, Some, None, IfSome, FitsSigned, ap, arith}
use mir.Syntax.{w128}
use Rattle.std.specs.Int.{int_max, int_min}
use Rattle.std.specs.Prelude.{◌+ℤ◌, ◌-ℤ◌, ◌*ℤ◌, ◌≤ℤ◌, ◌<ℤ◌, neg_ℤ}
use Rattle.std.proofs.lemmas.Int.{ints, clamps}
use Rattle.fr_base.specs.Within.{IsBetween, IsWithin}
use Rattle.fr_midpoint.proofs.Products.{lez_of_mulz-lez, mulz_comm, mulz_within, negz-mulz, subz-mulz}
use Rattle.fr_time.specs.Position.{floor_of}
use Rattle.fr_course.specs.Readings.{ceiling_of, meet, meet_if, Interval, Scale}
use Rattle.fr_course.specs.Course.{course_back, course_on, length_seen, share_from, share_to}
use Rattle.fr_course.specs.Near.{IsBox, IsNearCourse, IsReadingScale, IsSpan, EndBetween, EndWithin}
use Rattle.fr_course.proofs.Fits.{box_near, difference_near, ends_near, high_near, low_near, sum_near, wider_near}
use Rattle.fr_course.proofs.Floors.{floor_above, floor_below}

-- a quotient lies within a bound where the number lies within as many divisors
pub floor_within : (n d bound : ℤ) → pos 1 ≤ℤ d → IsWithin (d *ℤ bound) n → IsWithin bound (floor_of n d)
floor_within n d bound from near =
    let some : pos 0 <ℤ d = above d from in
    let turned : bound *ℤ d ≡ d *ℤ bound = mulz_comm bound d in
    let under : neg_ℤ bound *ℤ d ≡ neg_ℤ (bound *ℤ d) = negz-mulz bound d in
    record {
      low = floor_above n d (neg_ℤ bound) some (below (neg_ℤ bound *ℤ d) (bound *ℤ d) (d *ℤ bound) n under turned near.low);
      high = lez_of_mulz-lez (floor_of n d) bound d some (over (floor_of n d *ℤ d) n (d *ℤ bound) (bound *ℤ d) (floor_below n d some) near.high turned);
    }
  where
    above : (d : ℤ) → pos 1 ≤ℤ d → pos 0 <ℤ d
    above d h = omega (arith, ints)

    below : (a b c n : ℤ) → a ≡ neg_ℤ b → b ≡ c → neg_ℤ c ≤ℤ n → a ≤ℤ n
    below a b c n e f h = omega (arith, ints)

    over : (a n b c : ℤ) → a ≤ℤ n → n ≤ℤ b → c ≡ b → a ≤ℤ c
    over a n b c h k e = omega (arith, ints)

turned_within : (bound x : ℤ) → IsWithin bound x → IsWithin bound (neg_ℤ x)
turned_within bound x near = record { low = omega (arith, ints, near.high); high = omega (arith, ints, near.low) }

pub ceiling_within : (n d bound : ℤ) → pos 1 ≤ℤ d → IsWithin (d *ℤ bound) n → IsWithin bound (ceiling_of n d)
ceiling_within n d bound from near =
    turned_within bound (floor_of (neg_ℤ n) d) (floor_within (neg_ℤ n) d bound from (turned_within (d *ℤ bound) n near))

-- a sum of two numbers within a bound, of which each counts so many of a number of parts
pub weighed_within : (parts before x y bound : ℤ) → pos 0 ≤ℤ before → before ≤ℤ parts → IsWithin bound x → IsWithin bound y
    → IsWithin (parts *ℤ bound) ((before *ℤ x) +ℤ ((parts -ℤ before) *ℤ y))
weighed_within parts before x y bound from to near also =
    let left = mulz_within before x before bound from (itself before) near in
    let right = mulz_within (parts -ℤ before) y (parts -ℤ before) bound (rest parts before to) (itself (parts -ℤ before)) also in
    let whole : (parts -ℤ before) *ℤ bound ≡ (parts *ℤ bound) -ℤ (before *ℤ bound) = subz-mulz parts before bound in
    both (before *ℤ x) ((parts -ℤ before) *ℤ y) (before *ℤ bound) ((parts -ℤ before) *ℤ bound) (parts *ℤ bound) left right whole
  where
    itself : (a : ℤ) → a ≤ℤ a
    itself a = omega (arith, ints)

    rest : (a b : ℤ) → b ≤ℤ a → pos 0 ≤ℤ (a -ℤ b)
    rest a b h = omega (arith, ints)

    both : (p q r s t : ℤ) → IsWithin r p → IsWithin s q → s ≡ t -ℤ r → IsWithin t (p +ℤ q)
    both p q r s t a b e = record { low = omega (arith, ints, a.low, b.low); high = omega (arith, ints, a.high, b.high) }

-- what lies in two intervals ends where they do
pub meet_between : (least greatest : ℤ) (one other : Interval) → EndBetween least greatest one → EndBetween least greatest other
    → EndBetween least greatest (meet one other)
meet_between least greatest one other a b =
    record {
      low_from = omega (arith, ints, clamps, a.low_from, b.low_from);
      low_to = omega (arith, ints, clamps, a.low_to, b.low_to);
      high_from = omega (arith, ints, clamps, a.high_from, b.high_from);
      high_to = omega (arith, ints, clamps, a.high_to, b.high_to);
    }

pub meet_if_between : (least greatest : ℤ) (one : Option Interval) (other : Interval) → IfSome one (EndBetween least greatest)
    → EndBetween least greatest other → EndBetween least greatest (meet_if one other)
meet_if_between least greatest None other a b = b
meet_if_between least greatest (Some one) other a b = meet_between least greatest one other a b

-- so many macroticks of a cycle times a reading are a number of the machine
pub product_fits : (macroticks x : ℤ) → pos 0 ≤ℤ macroticks → macroticks ≤ℤ pos 16_000 → IsWithin (pos 1_900_000_000_000_000_000) x → FitsSigned w128 (macroticks *ℤ x)
product_fits macroticks x from to near =
    let within = mulz_within macroticks x (pos 16_000) (pos 1_900_000_000_000_000_000) from to near in
    omega (arith, ints, within.low, within.high)

-- what lies within a bound lies within a greater one
pub wider : (bound other : ℤ) (interval : Interval) → bound ≤ℤ other → EndWithin bound interval → EndWithin other interval
wider bound other interval le near =
    record {
      low_from = omega (arith, ints, near.low_from);
      low_to = omega (arith, ints, near.low_to);
      high_from = omega (arith, ints, near.high_from);
      high_to = omega (arith, ints, near.high_to);
    }

pub span_wider : (span : Option Interval) → IfSome span IsSpan → IfSome span (EndWithin (pos 920_000_000_000_000_000))
span_wider None near = near
span_wider (Some span) near = wider (pos 910_000_000_000_000_000) (pos 920_000_000_000_000_000) span (omega (arith, ints)) near

-- where action points can lie by others that lie so far apart from them
pub before_within : (even odd apart : Interval) → IsBox even → IsBox odd → EndWithin (pos 920_000_000_000_000_000) apart
    → EndWithin (pos 1_900_000_000_000_000_000) (record { low = int_max even.low (odd.low -ℤ apart.high); high = int_min even.high (odd.high -ℤ apart.low) })
before_within even odd apart a b d =
    record {
      low_from = omega (arith, ints, clamps, a.low_from);
      low_to = omega (arith, ints, clamps, a.low_to, b.low_to, d.high_from);
      high_from = omega (arith, ints, clamps, a.high_from, b.high_from, d.low_to);
      high_to = omega (arith, ints, clamps, a.high_to);
    }

pub behind_within : (even odd apart : Interval) → IsBox even → IsBox odd → EndWithin (pos 920_000_000_000_000_000) apart
    → EndWithin (pos 1_900_000_000_000_000_000) (record { low = int_max odd.low (even.low +ℤ apart.low); high = int_min odd.high (even.high +ℤ apart.high) })
behind_within even odd apart a b d =
    record {
      low_from = omega (arith, ints, clamps, b.low_from);
      low_to = omega (arith, ints, clamps, b.low_to, a.low_to, d.low_to);
      high_from = omega (arith, ints, clamps, b.high_from, a.high_from, d.high_from);
      high_to = omega (arith, ints, clamps, b.high_to);
    }

pub length_within : (scale : Scale) (apart : Interval) → IsReadingScale scale → EndWithin (pos 920_000_000_000_000_000) apart
    → EndWithin (pos 930_000_000_000_000_000) (length_seen scale apart)
length_within scale apart is near =
    record {
      low_from = omega (arith, ints, clamps, is.length_from.low);
      low_to = omega (arith, ints, clamps, is.length_from.high, is.change.low, near.low_to);
      high_from = omega (arith, ints, clamps, is.length_to.low, is.change.low, near.high_from);
      high_to = omega (arith, ints, clamps, is.length_to.high);
    }

-- a number less than none by so much
pub less_than_none : (x : ℤ) → pos 0 -ℤ x ≡ neg_ℤ x
less_than_none x = omega (arith, ints)

-- the greater and the lesser of two numbers within a bound
pub max_within : (bound x y : ℤ) → IsWithin bound x → IsWithin bound y → IsWithin bound (int_max x y)
max_within bound x y a b = record { low = omega (arith, ints, clamps, a.low, b.low); high = omega (arith, ints, clamps, a.high, b.high) }

pub min_within : (bound x y : ℤ) → IsWithin bound x → IsWithin bound y → IsWithin bound (int_min x y)
min_within bound x y a b = record { low = omega (arith, ints, clamps, a.low, b.low); high = omega (arith, ints, clamps, a.high, b.high) }

-- with a microtick more
pub sum_fits : (x micro : ℤ) → IsWithin (pos 2_900_000_000_000_000_000) x → IsBetween (pos 1) (pos 1_001_000_000_000) micro → FitsSigned w128 (x +ℤ micro)
sum_fits x micro near short = omega (arith, ints, near.low, near.high, short.low, short.high)

pub sum_within : (x micro : ℤ) → IsWithin (pos 2_900_000_000_000_000_000) x → IsBetween (pos 1) (pos 1_001_000_000_000) micro
    → IsWithin (pos 3_000_000_000_000_000_000) (x +ℤ micro)
sum_within x micro near short =
    record { low = omega (arith, ints, near.low, short.low); high = omega (arith, ints, near.high, short.high) }

-- the greater of two numbers of which one is none below 0
pub max_between : (bound x y : ℤ) → IsWithin bound x → IsBetween (pos 0) bound y → IsBetween (pos 0) bound (int_max x y)
max_between bound x y a b = record { low = omega (arith, ints, clamps, b.low); high = omega (arith, ints, clamps, a.high, b.high) }

-- a share of so many macroticks before a point
pub share_from-negz : (scale : Scale) (macroticks length : ℤ) → share_from scale (neg_ℤ macroticks) length ≡ neg_ℤ (share_to scale macroticks length)
share_from-negz scale macroticks length =
    ap (λ (x : ℤ). floor_of x scale.macros) (negz-mulz macroticks length) ∙ twice (floor_of (neg_ℤ (macroticks *ℤ length)) scale.macros)
  where
    twice : (x : ℤ) → x ≡ neg_ℤ (neg_ℤ x)
    twice x = omega (arith, ints)

pub share_to-negz : (scale : Scale) (macroticks length : ℤ) → share_to scale (neg_ℤ macroticks) length ≡ neg_ℤ (share_from scale macroticks length)
share_to-negz scale macroticks length =
    ap (λ (x : ℤ). neg_ℤ (floor_of x scale.macros)) (ap neg_ℤ (negz-mulz macroticks length) ∙ twice (macroticks *ℤ length))
  where
    twice : (x : ℤ) → neg_ℤ (neg_ℤ x) ≡ x
    twice x = omega (arith, ints)

-- ---- courses by a frame in one cycle

pub course_on-near : (scale : Scale) (action : ℤ) (even : Interval) → IsReadingScale scale → IsBetween (pos 0) scale.correction action → IsBox even
    → IsNearCourse scale (course_on scale action even)
course_on-near scale action even is at box =
    record {
      action_from = at.low;
      action_to = at.high;
      even = ends_near (wider_near (record { le = tt }) (low_near {bound = pos 910_000_000_000_000_000} (box_near box))) (wider_near (record { le = tt }) (high_near {bound = pos 910_000_000_000_000_000} (box_near box)));
      odd =
          ends_near (wider_near (record { le = tt }) (sum_near (low_near {bound = pos 910_000_000_000_000_000} (box_near box)) is.length_from))
          (wider_near (record { le = tt }) (sum_near (high_near {bound = pos 910_000_000_000_000_000} (box_near box)) is.length_to));
      apart = ends_near (wider_near (record { le = tt }) is.length_from) (wider_near (record { le = tt }) is.length_to);
      length = ends_near (wider_near (record { le = tt }) is.length_from) (wider_near (record { le = tt }) is.length_to);
    }

pub course_back-near : (scale : Scale) (action : ℤ) (odd : Interval) → IsReadingScale scale → IsBetween (pos 0) scale.correction action → IsBox odd
    → IsNearCourse scale (course_back scale action odd)
course_back-near scale action odd is at box =
    record {
      action_from = at.low;
      action_to = at.high;
      even =
          ends_near (wider_near (record { le = tt }) (difference_near (low_near {bound = pos 910_000_000_000_000_000} (box_near box)) is.length_to))
          (wider_near (record { le = tt }) (difference_near (high_near {bound = pos 910_000_000_000_000_000} (box_near box)) is.length_from));
      odd = ends_near (wider_near (record { le = tt }) (low_near {bound = pos 910_000_000_000_000_000} (box_near box))) (wider_near (record { le = tt }) (high_near {bound = pos 910_000_000_000_000_000} (box_near box)));
      apart = ends_near (wider_near (record { le = tt }) is.length_from) (wider_near (record { le = tt }) is.length_to);
      length = ends_near (wider_near (record { le = tt }) is.length_from) (wider_near (record { le = tt }) is.length_to);
    }
