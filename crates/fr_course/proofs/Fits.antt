-- Numbers within a bound: their sums and differences, and that they are numbers of the machine.
use Rattle.std.proofs.Common.{◌≡◌, ◌≤◌, ℕ, ℤ, pos, FitsSigned, w64, arith}
use Rattle.std.specs.Prelude.{◌+ℤ◌, ◌-ℤ◌, ◌≤ℤ◌}
use mir.Syntax.{w128}
use mir.Val.{of_z, to_z}
use Rattle.std.proofs.lemmas.Int.{ints, to_z_pos}
use Rattle.fr_base.specs.Within.{IsBetween, IsWithin}
use Rattle.fr_course.specs.Near.{IsBox, EndWithin}
use Rattle.fr_course.specs.Readings.{Interval}

pub wider_near : {bound other x : ℤ} → bound ≤ℤ other → IsWithin bound x → IsWithin other x
wider_near le near = record { low = omega (arith, ints, le, near.low); high = omega (arith, ints, le, near.high) }

pub fits : {bound x : ℤ} → bound ≤ℤ pos 10_000_000_000_000_000_000 → IsWithin bound x → FitsSigned w128 x
fits le near = omega (arith, ints, le, near.low, near.high)

pub sum_near : {a b x y : ℤ} → IsWithin a x → IsWithin b y → IsWithin (a +ℤ b) (x +ℤ y)
sum_near one other =
    record { low = omega (arith, ints, one.low, other.low); high = omega (arith, ints, one.high, other.high) }

pub difference_near : {a b x y : ℤ} → IsWithin a x → IsWithin b y → IsWithin (a +ℤ b) (x -ℤ y)
difference_near one other =
    record { low = omega (arith, ints, one.low, other.high); high = omega (arith, ints, one.high, other.low) }

pub between_near : {least greatest x : ℤ} → pos 0 ≤ℤ least → pos 0 ≤ℤ greatest → IsBetween least greatest x → IsWithin greatest x
between_near from some near = record { low = omega (arith, ints, from, some, near.low); high = near.high }

pub low_near : {bound : ℤ} {interval : Interval} → EndWithin bound interval → IsWithin bound interval.low
low_near near = record { low = near.low_from; high = near.low_to }

pub high_near : {bound : ℤ} {interval : Interval} → EndWithin bound interval → IsWithin bound interval.high
high_near near = record { low = near.high_from; high = near.high_to }

pub ends_near : {bound : ℤ} {interval : Interval} → IsWithin bound interval.low → IsWithin bound interval.high → EndWithin bound interval
ends_near low high = record { low_from = low.low; low_to = low.high; high_from = high.low; high_to = high.high }

pub box_near : {interval : Interval} → IsBox interval → EndWithin (pos 910_000_000_000_000_000) interval
box_near box =
    record {
      low_from = omega (arith, ints, box.low_from);
      low_to = box.low_to;
      high_from = omega (arith, ints, box.high_from);
      high_to = box.high_to;
    }

pub fits64 : {x : ℤ} → IsWithin (pos 6_200_000_000_000_000_000) x → FitsSigned w64 x
fits64 near = omega (arith, ints, near.low, near.high)

pub none_near : {greatest x : ℤ} → pos 0 ≤ℤ greatest → IsBetween (pos 0) greatest x → IsWithin greatest x
none_near some near = between_near (record { le = tt }) some near

-- a microtick as a reading
pub micro_near : {x : ℤ} → IsBetween (pos 1) (pos 1_001_000_000_000) x → IsWithin (pos 1_001_000_000_000) x
micro_near near = between_near (record { le = tt }) (record { le = tt }) near

pub boxes_apart : {from to : Interval} → IsBox from → IsBox to
    → EndWithin (pos 920_000_000_000_000_000) (record { low = to.low -ℤ from.high; high = to.high -ℤ from.low })
boxes_apart from to =
    record {
      low_from = omega (arith, ints, to.low_from, from.high_to);
      low_to = omega (arith, ints, to.low_to, from.high_from);
      high_from = omega (arith, ints, to.high_from, from.low_to);
      high_to = omega (arith, ints, to.high_to, from.low_from);
    }

-- a natural number of an observer, read as a number with a sign
pub natural_read : (n : ℕ) → n ≤ 1_000_000_000 → to_z w128 n ≡ pos n
natural_read n le = to_z_pos w128 n (omega (arith, le))

-- the end of an interval, read as a number of 64 bits
pub end_read : (x : ℤ) → IsWithin (pos 21_000_000_000_000) x → to_z w64 (of_z w64 x) ≡ x
end_read x near = omega (arith, ints, near.low, near.high)
