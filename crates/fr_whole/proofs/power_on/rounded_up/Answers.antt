use Rattle.std.proofs.Common.{◌≡◌, ◌≤◌, ◌+◌, ◌-◌, ◌*◌, ◌/◌, ℕ, arith}
use Rattle.std.proofs.Math.Nat.{div-le_of_le-mul, mul-le-mul_right}
use Rattle.fr_whole.proofs.power_on.rounded_up.Goals as goal

no_more : (n parts : ℕ) → 1 ≤ parts → n / parts ≤ n
no_more n parts from = div-le_of_le-mul parts (grown n parts (mul-le-mul_right n from))
  where
    grown : (n parts : ℕ) → 1 * n ≤ parts * n → n ≤ parts * n
    grown n parts le = omega (arith, le)

pub returns-clause-most : goal.returns-clause-most
returns-clause-most c =
    let a = c.args in
    let below = no_more (a.ticks + (a.parts - 1)) a.parts c.requires.from in
    omega (arith, below, c.requires.ticks, c.requires.to)
