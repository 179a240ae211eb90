-- Products of microticks and their length.
use Rattle.std.proofs.Common.{ℕ, ℤ, pos, negsuc, ◌*◌, ◌≤◌, arith}
use Rattle.std.specs.Prelude.{◌≤ℤ◌, ◌*ℤ◌}
use Rattle.std.proofs.lemmas.Int.{ints}
use Rattle.std.proofs.Math.Nat.{mul-le-mul_left, mul-le-mul_right}
use Rattle.fr_base.specs.Within.{IsBetween}
use Rattle.fr_base.specs.Timed.{IsLength}

-- more microticks last longer
pub product-le : (a b length : ℤ) → pos 0 ≤ℤ a → a ≤ℤ b → pos 0 ≤ℤ length → (a *ℤ length) ≤ℤ (b *ℤ length)
product-le (pos a) (pos b) (pos length) from to positive =
    let more : a * length ≤ b * length = mul-le-mul_right length (omega (arith, ints)) in omega (arith, ints)
product-le (negsuc a) b length from to positive = absurd (omega (arith, ints))
product-le (pos a) (negsuc b) length from to positive = absurd (omega (arith, ints))
product-le (pos a) (pos b) (negsuc length) from to positive = absurd (omega (arith, ints))

pub product_from : (a length : ℤ) → pos 0 ≤ℤ a → pos 0 ≤ℤ length → pos 0 ≤ℤ (a *ℤ length)
product_from (pos a) (pos length) from positive = omega (arith, ints)
product_from (negsuc a) length from positive = absurd (omega (arith, ints))
product_from (pos a) (negsuc length) from positive = absurd (omega (arith, ints))

-- so many microticks take no more than as many of the longest
pub below_longest : (microticks length : ℤ) → IsLength length → (most : ℕ) → IsBetween (pos 0) (pos most) microticks → IsBetween (pos 0) (pos (most * 1500000)) (microticks *ℤ length)
below_longest (pos a) (pos b) long most few =
    let more : a * b ≤ most * b = mul-le-mul_right b (omega (arith, ints, few.high)) in
    let longer : most * b ≤ most * 1500000 = mul-le-mul_left most (omega (arith, ints, long.high)) in
    record { low = omega (arith, ints); high = omega (arith, ints, more, longer) }
below_longest (negsuc a) length long most few = absurd (omega (arith, ints, few.low))
below_longest (pos a) (negsuc b) long most few = absurd (omega (arith, ints, long.low))
