use Rattle.std.proofs.Common.{◌≡◌, FitsSigned, w32, w64, arith, rules}
use Rattle.std.specs.Prelude.{◌*ℤ◌, pos}
use Rattle.std.proofs.lemmas.Int.{ints, to_z-of_z}
use Rattle.fr_base.specs.Within.{IsBetween}
use Rattle.fr_base.proofs.Products.{below_longest}
use Rattle.fr_time.specs.Position.{position_of}
use Rattle.fr_time.proofs.positions.instant.Goals as goal

-- the ticks after the start
after_lem : (c : goal.After-ticks_of) → (c.ticks_of.result ≡ position_of c.args.grid.now c.args.row.now.rate c.args.row.now.offset c.args.odd c.args.macrotick *ℤ c.args.row.now.length)
    × IsBetween (pos 0) (pos 1050000000000) c.ticks_of.result
after_lem c =
    let can = c.requires.row.placeable in
    let macrotick : FitsSigned w64 c.args.macrotick = c.ranges.macrotick in
    let rate : FitsSigned w32 c.args.row.now.rate = omega (arith, ints, can.rate_from, can.rate_to) in
    let offset : FitsSigned w32 c.args.row.now.offset = omega (arith, ints, can.offset_from, can.offset_to) in
    let length : FitsSigned w64 c.args.row.now.length = omega (arith, ints) in
    let microticks : FitsSigned w64 c.position-microticks.result = search rules in
    let at : c.position-microticks.result ≡ position_of c.args.grid.now c.args.row.now.rate c.args.row.now.offset c.args.odd c.args.macrotick =
    simp to_z-of_z at c.position-microticks.ensures.value in
    let after : c.ticks_of.result ≡ c.position-microticks.result *ℤ c.args.row.now.length = simp to_z-of_z at c.ticks_of.ensures.value in
    let few = below_longest c.position-microticks.result c.args.row.now.length c.requires.row.timed.length 700000 c.position-microticks.ensures.within in
    (rw at at after, rw after few)

pub returns-clause-value : goal.returns-clause-value
returns-clause-value c = let after = after_lem c in omega (arith, ints, after.0, after.1.low, after.1.high)

pub returns-clause-within : goal.returns-clause-within
returns-clause-within c =
    let after = after_lem c in
    record { low = omega (arith, ints, after.1.low, after.1.high); high = omega (arith, ints, after.1.low, after.1.high) }
