-- Values that a receiver counts: how far they lie from 0.
use Rattle.std.proofs.Common.{ℤ, pos, FitsSigned, arith}
use Rattle.std.specs.Prelude.{◌*ℤ◌, ◌≤ℤ◌}
use mir.Syntax.{w128}
use Rattle.std.proofs.lemmas.Int.{ints}
use Rattle.fr_base.specs.Within.{IsBetween, IsWithin}
use Rattle.fr_time.specs.Position.{floor_of}
use Rattle.fr_course.specs.Readings.{ceiling_of}
use Rattle.fr_course.proofs.Limits.{ceiling_within, floor_within}

pub values_fit : {ticks : ℤ} → IsWithin (pos 20_000_000_000_000_000_000) ticks → FitsSigned w128 ticks
values_fit near = omega (arith, ints, near.low, near.high)

some : {micro : ℤ} → IsBetween (pos 998_500) (pos 1_001_500) micro → pos 1 ≤ℤ micro
some about = omega (arith, ints, about.low)

enough : (ticks micro : ℤ) → IsBetween (pos 998_500) (pos 1_001_500) micro → IsWithin (pos 20_000_000_000_000_000_000) ticks
    → IsWithin (micro *ℤ pos 21_000_000_000_000) ticks
enough ticks micro about near = record { low = omega (arith, ints, about.low, near.low); high = omega (arith, ints, about.low, near.high) }

pub values_near : (ticks micro : ℤ) → IsBetween (pos 998_500) (pos 1_001_500) micro → IsWithin (pos 20_000_000_000_000_000_000) ticks
    → IsWithin (pos 21_000_000_000_000) (floor_of ticks micro)
values_near ticks micro about near = floor_within ticks micro (pos 21_000_000_000_000) (some about) (enough ticks micro about near)

pub rounded_near : (ticks micro : ℤ) → IsBetween (pos 998_500) (pos 1_001_500) micro → IsWithin (pos 20_000_000_000_000_000_000) ticks
    → IsWithin (pos 21_000_000_000_000) (ceiling_of ticks micro)
rounded_near ticks micro about near = ceiling_within ticks micro (pos 21_000_000_000_000) (some about) (enough ticks micro about near)
