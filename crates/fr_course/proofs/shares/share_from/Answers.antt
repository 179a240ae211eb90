use Rattle.std.proofs.Common.{◌≡◌, FitsSigned, pos, arith, rules}
use Rattle.std.specs.Prelude.{◌≤ℤ◌, ◌*ℤ◌}
use mir.Syntax.{w128}
use Rattle.std.proofs.lemmas.Int.{ints, to_z-of_z}
use Rattle.fr_base.specs.Within.{IsWithin}
use Rattle.fr_midpoint.proofs.Products.{mulz_within}
use Rattle.fr_time.specs.Position.{floor_of}
use Rattle.fr_course.proofs.Limits.{floor_within, product_fits}
use Rattle.fr_course.proofs.Numbers.{macros_are, scale_is}
use Rattle.fr_course.proofs.shares.share_from.Goals as goal

pub overflow_mul-whole : goal.overflow_mul-whole
overflow_mul-whole c =
    let macroticks : FitsSigned w128 c.args.macroticks = c.ranges.macroticks in
    let length : FitsSigned w128 c.args.length = c.ranges.length in
    let few : c.args.macroticks ≤ℤ pos 16_000 = omega (arith, ints, c.requires.macroticks.high, (scale_is c.scale.view_is c.scale.invariant).macros_to) in
    let near : IsWithin (pos 1_900_000_000_000_000_000) c.args.length = record { low = omega (arith, ints, c.requires.length.low); high = omega (arith, ints, c.requires.length.high) } in
    simp to_z-of_z (product_fits c.args.macroticks c.args.length c.requires.macroticks.low few near)

value_lem : (c : goal.After-floor) → c.floor.result ≡ floor_of (c.args.macroticks *ℤ c.args.length) c.args.scale.now.macros
value_lem c =
    let macroticks : FitsSigned w128 c.args.macroticks = c.ranges.macroticks in
    let length : FitsSigned w128 c.args.length = c.ranges.length in
    let few : c.args.macroticks ≤ℤ pos 16_000 = omega (arith, ints, c.requires.macroticks.high, (scale_is c.scale.view_is c.scale.invariant).macros_to) in
    let near : IsWithin (pos 1_900_000_000_000_000_000) c.args.length = record { low = omega (arith, ints, c.requires.length.low); high = omega (arith, ints, c.requires.length.high) } in
    let whole : FitsSigned w128 (c.args.macroticks *ℤ c.args.length) = product_fits c.args.macroticks c.args.length c.requires.macroticks.low few near in
    let macros : FitsSigned w128 c.args.scale.now.macros = omega (arith, ints, (scale_is c.scale.view_is c.scale.invariant).macros_from, (scale_is c.scale.view_is c.scale.invariant).macros_to) in
    let same = macros_are c.scale.view_is in simp to_z-of_z at (rw same at c.floor.ensures)

pub returns-clause-value : goal.returns-clause-value
returns-clause-value c = let value = value_lem c in let fits : FitsSigned w128 c.floor.result = search rules in simp to_z-of_z value

pub returns-clause-within : goal.returns-clause-within
returns-clause-within c =
    let value = value_lem c in
    let near = floor_within (c.args.macroticks *ℤ c.args.length) c.args.scale.now.macros (pos 930_000_000_000_000_000) (scale_is c.scale.view_is c.scale.invariant).macros_from (mulz_within c.args.macroticks c.args.length c.args.scale.now.macros (pos 930_000_000_000_000_000) c.requires.macroticks.low c.requires.macroticks.high c.requires.length) in
    record { low = omega (arith, ints, value, near.low); high = omega (arith, ints, value, near.high) }
