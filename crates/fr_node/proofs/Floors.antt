-- Quotients rounded down.
use Rattle.std.proofs.Common.{◌≡◌, ℕ, ℤ, pos, negsuc, ◌*◌, ◌/◌, ◌≤◌, arith}
use Rattle.std.specs.Prelude.{◌≤ℤ◌, ◌*ℤ◌}
use Rattle.std.proofs.lemmas.Int.{ints}
use Rattle.std.proofs.Math.Nat.{div-le_of_le-mul, mul_comm}
use Rattle.fr_time.specs.Position.{floor_of}

-- so many lengths are no more than so many
pub floor_le : (a length : ℤ) (most : ℕ) → pos 0 ≤ℤ a → a ≤ℤ (pos most *ℤ length) → pos 1 ≤ℤ length → floor_of a length ≤ℤ pos most
floor_le (pos a) (pos length) most from to some =
    let turned : most * length ≡ length * most = mul_comm most length in
    let within : a ≤ length * most = omega (arith, ints, to, turned) in
    let below : a / length ≤ most = div-le_of_le-mul length within in
    omega (arith, ints, below)
floor_le (negsuc a) length most from to some = absurd (omega (arith, ints))
floor_le (pos a) (negsuc length) most from to some = absurd (omega (arith, ints))
