use Rattle.std.proofs.Common.{◌-ℤ◌, ◌+ℤ◌, FitsSigned, w64, arith}
use Rattle.std.proofs.lemmas.Int.{ints, to_z-of_z}
use Rattle.fr_node.proofs.listener.is_near.Goals as goal

pub returns-then-nominal-limit : goal.returns-then-nominal-limit
returns-then-nominal-limit c =
    let nominal : FitsSigned w64 c.args.nominal = c.ranges.nominal in
    let limit : FitsSigned w64 c.args.limit = c.ranges.limit in
    let micros : FitsSigned w64 c.args.micros = c.ranges.micros in
    let less : FitsSigned w64 (c.args.nominal -ℤ c.args.limit) = omega (arith, ints, c.requires.nominal.low, c.requires.nominal.high, c.requires.limit.low, c.requires.limit.high) in
    let more : FitsSigned w64 (c.args.nominal +ℤ c.args.limit) = omega (arith, ints, c.requires.nominal.low, c.requires.nominal.high, c.requires.limit.low, c.requires.limit.high) in
    let from = simp to_z-of_z at c.if-nominal-limit.true in
    simp to_z-of_z (grind (arith, ints, from))
