-- Quotients rounded down: they lie within what is divided, and leave less than the divisor.
use Rattle.std.proofs.Common.{◌≡◌, ℕ, ℤ, pos, negsuc, ◌*◌, ◌/◌, ◌≤◌, subst, arith}
use Rattle.std.specs.Prelude.{neg_ℤ, ◌-ℤ◌, ◌*ℤ◌, ◌≤ℤ◌}
use Rattle.std.proofs.lemmas.Int.{ints}
use Rattle.std.proofs.Math.Nat.{div-le_of_le-mul, mul-le-mul_right}
use Rattle.fr_base.specs.Within.{IsBetween, IsWithin}
use Rattle.fr_midpoint.proofs.Products.{mulz_comm, mulz_within}
use Rattle.fr_time.specs.Position.{floor_of}
use Rattle.fr_time.proofs.Lines.{rest_of}

part_le : (n d : ℕ) → 1 ≤ d → n / d ≤ n
part_le n d some =
    let one : 1 * n ≤ d * n = mul-le-mul_right n some in
    div-le_of_le-mul d (omega (arith, one))

pub floor_within : (n d bound : ℤ) → pos 1 ≤ℤ d → IsWithin bound n → IsWithin bound (floor_of n d)
floor_within (pos n) (pos d) bound some within =
    let less = part_le n d (omega (arith, ints)) in
    record { low = omega (arith, ints, within.low, within.high); high = omega (arith, ints, less, within.high) }
floor_within (negsuc n) (pos d) bound some within =
    let less = part_le n d (omega (arith, ints)) in
    record { low = omega (arith, ints, less, within.low); high = omega (arith, ints, within.low) }
floor_within n (negsuc d) bound some within = absurd (omega (arith, ints))

pub left_over : (n : ℤ) → IsBetween (pos 0) (pos 63) (n -ℤ (floor_of n (pos 64) *ℤ pos 64))
left_over n =
    let rest = rest_of n (pos 64) (omega (arith, ints)) in
    record { low = rest.from; high = omega (arith, ints, rest.to) }

-- a product of a number within a bound with one from 0 to another
pub product_within : (x a bound most : ℤ) → IsWithin bound x → pos 0 ≤ℤ a → a ≤ℤ most → IsWithin (most *ℤ bound) (x *ℤ a)
product_within x a bound most within from to = subst (IsWithin (most *ℤ bound)) (mulz_comm a x) (mulz_within a x most bound from to within)
