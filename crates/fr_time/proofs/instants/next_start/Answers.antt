use Rattle.std.proofs.Common.{◌≡◌, pos, FitsSigned, w32, w64, rules, arith}
use Rattle.std.specs.Prelude.{◌+ℤ◌, ◌*ℤ◌}
use Rattle.std.proofs.lemmas.Int.{ints, to_z-of_z}
use Rattle.fr_base.specs.Within.{IsBetween}
use Rattle.fr_base.proofs.Products.{below_longest}
use Rattle.fr_time.proofs.instants.next_start.Goals as goal

-- the ticks of the cycle
ticks_lem : (c : goal.After-ticks_of) → (c.ticks_of.result ≡ (c.args.params.now.micros +ℤ c.args.row.now.rate +ℤ c.args.row.now.offset) *ℤ c.args.row.now.length)
    × IsBetween (pos 0) (pos 990000000000) c.ticks_of.result
ticks_lem c =
    let length : FitsSigned w64 c.args.row.now.length = omega (arith, ints) in
    let micros : FitsSigned w64 c.cycle_micros.result = omega (arith, ints) in
    let is : c.ticks_of.result ≡ c.cycle_micros.result *ℤ c.args.row.now.length = simp to_z-of_z at c.ticks_of.ensures.value in
    let few = below_longest c.cycle_micros.result c.args.row.now.length c.requires.timed.length 660000 c.cycle_micros.ensures.within in
    let rate : FitsSigned w32 c.args.row.now.rate = search rules in
    let offset : FitsSigned w32 c.args.row.now.offset = search rules in
    let whole : c.cycle_micros.result ≡ c.args.params.now.micros +ℤ c.args.row.now.rate +ℤ c.args.row.now.offset = simp to_z-of_z at c.cycle_micros.ensures.value in
    (rw whole at is, rw is few)

pub overflow_add-result : goal.overflow_add-result
overflow_add-result c = let ticks = (ticks_lem c).1 in omega (arith, ints, ticks.low, ticks.high)

pub returns-clause-value : goal.returns-clause-value
returns-clause-value c =
    let ticks = (ticks_lem c).1 in
    omega (arith, ints, (ticks_lem c).0, ticks.low, ticks.high)

pub returns-clause-later : goal.returns-clause-later
returns-clause-later c =
    let ticks = (ticks_lem c).1 in
    record { low = omega (arith, ints, ticks.low, ticks.high); high = omega (arith, ints, ticks.low, ticks.high) }
