-- Where a value lies that counts so many ticks with an error.
use Rattle.std.proofs.Common.{◌≡◌, Bool, true, false, ℤ, pos, negsuc, refl, arith}
use Rattle.std.specs.Prelude.{◌+ℤ◌, ◌-ℤ◌, ◌*ℤ◌, ◌≤ℤ◌, ◌<ℤ◌, neg_ℤ, int_lt, if◌then◌else◌}
use Rattle.std.proofs.lemmas.Int.{ints, by_lt_z}
use Rattle.fr_midpoint.proofs.Products.{addz-mulz, mulz-lez, mulz-lez_left}
use Rattle.fr_time.specs.Position.{floor_of}
use Rattle.fr_course.specs.Readings.{ceiling_of}
use Rattle.fr_course.specs.Computed.{ValuesAreCounted, ValuesArePlaced}
use Rattle.fr_course.proofs.Floors.{ceiling_below, floor_above, floor_below, mulz-lez_down}

weak : (x y : ℤ) → x <ℤ y → x ≤ℤ y
weak x y h = omega (arith, ints)

through : (x y z : ℤ) → x ≤ℤ y → y ≤ℤ z → x ≤ℤ z
through x y z a b = omega (arith, ints)

above_through : (x y z : ℤ) → x <ℤ y → y ≤ℤ z → x <ℤ z
above_through x y z a b = omega (arith, ints)

above_after : (x y z : ℤ) → x ≤ℤ y → y <ℤ z → x <ℤ z
above_after x y z a b = omega (arith, ints)

is_under : (x : ℤ) → int_lt x (pos 0) ≡ true → x <ℤ pos 0
is_under x h = grind (arith, ints)

is_from : (x : ℤ) → int_lt x (pos 0) ≡ false → pos 0 ≤ℤ x
is_from x h = grind (arith, ints)

-- a product with a number from 0 on has the sign of the other one
product_from : (v t : ℤ) → pos 0 ≤ℤ v → pos 0 ≤ℤ t → pos 0 ≤ℤ (v *ℤ t)
product_from v t from also = none (pos 0 *ℤ t) (v *ℤ t) (mulz-lez (pos 0) v t from also) (zero_times t)
  where
    zero_times : (t : ℤ) → pos 0 *ℤ t ≡ pos 0
    zero_times t = omega (arith, ints)

    none : (z p : ℤ) → z ≤ℤ p → z ≡ pos 0 → pos 0 ≤ℤ p
    none z p h e = omega (arith, ints)

product_to : (v t : ℤ) → v ≤ℤ pos 0 → pos 0 ≤ℤ t → (v *ℤ t) ≤ℤ pos 0
product_to v t to also = none (pos 0 *ℤ t) (v *ℤ t) (mulz-lez v (pos 0) t to also) (zero_times t)
  where
    zero_times : (t : ℤ) → pos 0 *ℤ t ≡ pos 0
    zero_times t = omega (arith, ints)

    none : (z p : ℤ) → p ≤ℤ z → z ≡ pos 0 → p ≤ℤ pos 0
    none z p h e = omega (arith, ints)

product_under : (v t : ℤ) → v <ℤ pos 0 → pos 0 <ℤ t → (v *ℤ t) <ℤ pos 0
product_under v t under also =
    below (v *ℤ t) (negsuc 0 *ℤ t) t (mulz-lez v (negsuc 0) t (at_most v under) (weak (pos 0) t also)) (once t) also
  where
    at_most : (v : ℤ) → v <ℤ pos 0 → v ≤ℤ negsuc 0
    at_most v h = omega (arith, ints)

    once : (t : ℤ) → negsuc 0 *ℤ t ≡ neg_ℤ t
    once t = omega (arith, ints)

    below : (p q t : ℤ) → p ≤ℤ q → q ≡ neg_ℤ t → pos 0 <ℤ t → p <ℤ pos 0
    below p q t le is also = omega (arith, ints)

-- a number of microticks that are no longer than so many ticks
module _ (v micro short long : ℤ) (lasts : pos 0 <ℤ short) (from : short ≤ℤ micro) (to : micro ≤ℤ long) where
  micro_lasts : pos 0 ≤ℤ micro
  micro_lasts = weak (pos 0) micro (above_through (pos 0) short micro lasts from)

  long_lasts : pos 0 <ℤ long
  long_lasts = above_through (pos 0) short long lasts (through short micro long from to)

  to_under : (h : ℤ) → h <ℤ pos 0 → (v *ℤ micro) ≤ℤ h → v ≤ℤ floor_of h long
  to_under h under le =
      by_lt_z v (pos 0)
      (λ less. floor_above h long v long_lasts (through (v *ℤ long) (v *ℤ micro) h (mulz-lez_down micro long v to (weak v (pos 0) less)) le))
      (λ more. absurd (apart h (v *ℤ micro) under le (product_from v micro more micro_lasts)))
    where
      apart : (h p : ℤ) → h <ℤ pos 0 → p ≤ℤ h → pos 0 ≤ℤ p → ⊥
      apart h p a b c = omega (arith, ints)

  to_from : (h : ℤ) → pos 0 ≤ℤ h → (v *ℤ micro) ≤ℤ h → v ≤ℤ floor_of h short
  to_from h above le =
      by_lt_z v (pos 0)
      (λ less. floor_above h short v lasts (through (v *ℤ short) (pos 0) h (product_to v short (weak v (pos 0) less) (weak (pos 0) short lasts)) above))
      (λ more. floor_above h short v lasts (through (v *ℤ short) (v *ℤ micro) h (mulz-lez_left short micro v from more) le))

  to_lem : (h : ℤ) (b : Bool) → int_lt h (pos 0) ≡ b → (v *ℤ micro) ≤ℤ h → v ≤ℤ floor_of h (if b then long else short)
  to_lem h true under le = to_under h (is_under h under) le
  to_lem h false above le = to_from h (is_from h above) le

-- a number of microticks that are no shorter than so many ticks
module _ (v micro short long : ℤ) (lasts : pos 0 <ℤ short) (from : short ≤ℤ micro) (to : micro ≤ℤ long) where
  up_under : (x : ℤ) → x <ℤ pos 0 → x ≤ℤ (v *ℤ micro) → ceiling_of x short ≤ℤ v
  up_under x under le =
      by_lt_z v (pos 0)
      (λ less. ceiling_below x short v lasts (through x (v *ℤ micro) (v *ℤ short) le (mulz-lez_down short micro v from (weak v (pos 0) less))))
      (λ more. ceiling_below x short v lasts (through x (pos 0) (v *ℤ short) (weak x (pos 0) under) (product_from v short more (weak (pos 0) short lasts))))

  up_from : (x : ℤ) → pos 0 ≤ℤ x → x ≤ℤ (v *ℤ micro) → ceiling_of x long ≤ℤ v
  up_from x above le =
      by_lt_z v (pos 0)
      (λ less. absurd (apart x (v *ℤ micro) above le (product_under v micro less (above_through (pos 0) short micro lasts from))))
      (λ more. ceiling_below x long v (long_lasts v micro short long lasts from to) (through x (v *ℤ micro) (v *ℤ long) le (mulz-lez_left micro long v to more)))
    where
      apart : (x p : ℤ) → pos 0 ≤ℤ x → x ≤ℤ p → p <ℤ pos 0 → ⊥
      apart x p a b c = omega (arith, ints)

  up_lem : (x : ℤ) (b : Bool) → int_lt x (pos 0) ≡ b → x ≤ℤ (v *ℤ micro) → ceiling_of x (if b then short else long) ≤ℤ v
  up_lem x true under le = up_under x (is_under x under) le
  up_lem x false above le = up_from x (is_from x above) le

-- a number whose microticks, with one more, are longer than so many ticks
not_above : (x d v : ℤ) → pos 0 <ℤ d → x <ℤ ((v +ℤ pos 1) *ℤ d) → floor_of x d ≤ℤ v
not_above x d v some over =
    by_lt_z v (floor_of x d)
    (λ less. absurd (apart x (floor_of x d *ℤ d) ((v +ℤ pos 1) *ℤ d) over (mulz-lez (v +ℤ pos 1) (floor_of x d) d (next v (floor_of x d) less) (weak (pos 0) d some)) (floor_below x d some)))
    (λ h. h)
  where
    next : (v f : ℤ) → v <ℤ f → (v +ℤ pos 1) ≤ℤ f
    next v f h = omega (arith, ints)

    apart : (x f w : ℤ) → x <ℤ w → w ≤ℤ f → f ≤ℤ x → ⊥
    apart x f w a b c = omega (arith, ints)

module _ (w micro short long : ℤ) (lasts : pos 0 <ℤ short) (from : short ≤ℤ micro) (to : micro ≤ℤ long) where
  from_under : (x : ℤ) → x <ℤ pos 0 → x <ℤ (w *ℤ micro) → x <ℤ (w *ℤ short)
  from_under x under over =
      by_lt_z w (pos 0)
      (λ less. above_through x (w *ℤ micro) (w *ℤ short) over (mulz-lez_down short micro w from (weak w (pos 0) less)))
      (λ more. above_through x (pos 0) (w *ℤ short) under (product_from w short more (weak (pos 0) short lasts)))

  from_from : (x : ℤ) → pos 0 ≤ℤ x → x <ℤ (w *ℤ micro) → x <ℤ (w *ℤ long)
  from_from x above over =
      by_lt_z w (pos 0)
      (λ less. absurd (apart x (w *ℤ micro) above over (product_to w micro (weak w (pos 0) less) (micro_lasts w micro short long lasts from to))))
      (λ more. above_through x (w *ℤ micro) (w *ℤ long) over (mulz-lez_left micro long w to more))
    where
      apart : (x p : ℤ) → pos 0 ≤ℤ x → x <ℤ p → p ≤ℤ pos 0 → ⊥
      apart x p a b c = omega (arith, ints)

from_lem : (v micro short long : ℤ) → pos 0 <ℤ short → short ≤ℤ micro → micro ≤ℤ long → (x : ℤ) (b : Bool) → int_lt x (pos 0) ≡ b
    → x <ℤ ((v +ℤ pos 1) *ℤ micro) → floor_of x (if b then short else long) ≤ℤ v
from_lem v micro short long lasts from to x true under over =
    not_above x short v lasts (from_under (v +ℤ pos 1) micro short long lasts from to x (is_under x under) over)
from_lem v micro short long lasts from to x false above over =
    not_above x long v (long_lasts v micro short long lasts from to) (from_from (v +ℤ pos 1) micro short long lasts from to x (is_from x above) over)

pub values_are_counted_lem : ValuesAreCounted
values_are_counted_lem m ticks error micro apart value lasts near lies over under =
    record {
      low = from_lem value micro m.shortest m.longest lasts near.low near.high (ticks.low -ℤ error) (int_lt (ticks.low -ℤ error) (pos 0)) refl
          (after ticks.low apart error micro (value *ℤ micro) ((value +ℤ pos 1) *ℤ micro) (pos 1 *ℤ micro) lies.low over (addz-mulz value (pos 1) micro) (once micro));
      high = to_lem value micro m.shortest m.longest lasts near.low near.high (ticks.high +ℤ error) (int_lt (ticks.high +ℤ error) (pos 0)) refl
          (before ticks.high apart error (value *ℤ micro) lies.high under);
    }
  where
    once : (t : ℤ) → pos 1 *ℤ t ≡ t
    once t = omega (arith, ints)

    after : (l a e t p w o : ℤ) → l ≤ℤ a → ((a -ℤ e) -ℤ t) <ℤ p → w ≡ p +ℤ o → o ≡ t → (l -ℤ e) <ℤ w
    after l a e t p w o lies over is one = omega (arith, ints)

    before : (h a e p : ℤ) → a ≤ℤ h → p ≤ℤ (a +ℤ e) → p ≤ℤ (h +ℤ e)
    before h a e p lies under = omega (arith, ints)

pub values_are_placed_lem : ValuesArePlaced
values_are_placed_lem m ticks error micro apart value lasts near lies placed =
    record {
      low = up_lem value micro m.shortest m.longest lasts near.low near.high (ticks.low -ℤ error) (int_lt (ticks.low -ℤ error) (pos 0)) refl
          (after ticks.low apart error (value *ℤ micro) lies.low placed.low);
      high = to_lem value micro m.shortest m.longest lasts near.low near.high (ticks.high +ℤ error) (int_lt (ticks.high +ℤ error) (pos 0)) refl
          (before ticks.high apart error (value *ℤ micro) lies.high placed.high);
    }
  where
    after : (l a e p : ℤ) → l ≤ℤ a → (a -ℤ e) ≤ℤ p → (l -ℤ e) ≤ℤ p
    after l a e p lies over = omega (arith, ints)

    before : (h a e p : ℤ) → a ≤ℤ h → p ≤ℤ (a +ℤ e) → p ≤ℤ (h +ℤ e)
    before h a e p lies under = omega (arith, ints)
