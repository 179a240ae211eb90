use Rattle.std.proofs.Common.{◌≡◌, rules, pos, FitsSigned, w32, w64, arith}
use Rattle.std.specs.Prelude.{◌≤ℤ◌, ◌*ℤ◌}
use Rattle.std.proofs.lemmas.Int.{ints, to_z-of_z}
use Rattle.fr_base.specs.Within.{IsBetween}
use Rattle.fr_base.proofs.Products.{below_longest, product-le}
use Rattle.fr_time.specs.Position.{even_position, grid_for}
use Rattle.fr_time.proofs.instants.early_instant.Goals as goal

-- the ticks after the start
after_lem : (c : goal.After-ticks_of) → (c.ticks_of.result ≡ even_position (grid_for c.args.params.now) c.args.row.now.rate c.args.macrotick *ℤ c.args.row.now.length)
    × IsBetween (pos 0) (pos 1050000000000) c.ticks_of.result × (c.ticks_of.result ≤ℤ (pos 700000 *ℤ c.args.row.now.length))
after_lem c =
    let macrotick : FitsSigned w64 c.args.macrotick = c.ranges.macrotick in
    let rate : FitsSigned w32 c.args.row.now.rate = search rules in
    let length : FitsSigned w64 c.args.row.now.length = omega (arith, ints) in
    let position : FitsSigned w64 c.early_position.result = omega (arith, ints) in
    let at : c.early_position.result ≡ even_position (grid_for c.args.params.now) c.args.row.now.rate c.args.macrotick = simp to_z-of_z at c.early_position.ensures.value in
    let is : c.ticks_of.result ≡ c.early_position.result *ℤ c.args.row.now.length = simp to_z-of_z at c.ticks_of.ensures.value in
    let few = below_longest c.early_position.result c.args.row.now.length c.requires.timed.length 700000 c.early_position.ensures.within in
    let most : (c.early_position.result *ℤ c.args.row.now.length) ≤ℤ (pos 700000 *ℤ c.args.row.now.length) =
    product-le c.early_position.result (pos 700000) c.args.row.now.length c.early_position.ensures.within.low c.early_position.ensures.within.high (omega (arith, ints)) in
    (rw at at is, rw is few, rw is most)

pub returns-clause-value : goal.returns-clause-value
returns-clause-value c =
    let ticks = (after_lem c).1 in
    omega (arith, ints, (after_lem c).0, ticks.low, ticks.high)

pub returns-clause-within : goal.returns-clause-within
returns-clause-within c =
    let ticks = (after_lem c).1 in
    record { low = omega (arith, ints, ticks.low, ticks.high); high = omega (arith, ints, ticks.low, ticks.high) }

pub returns-clause-in_cycle : goal.returns-clause-in_cycle
returns-clause-in_cycle c =
    let ticks = (after_lem c).1 in
    record { from = omega (arith, ints, ticks.low, ticks.high); to = omega (arith, ints, ticks.low, ticks.high, (after_lem c).2) }
