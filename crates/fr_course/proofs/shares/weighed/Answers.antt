use Rattle.std.proofs.Common.{FitsSigned, pos, arith, rules}
use Rattle.std.specs.Prelude.{◌+ℤ◌, ◌-ℤ◌, ◌*ℤ◌, ◌≤ℤ◌}
use mir.Syntax.{w128}
use Rattle.std.proofs.lemmas.Int.{ints, to_z-of_z}
use Rattle.fr_midpoint.proofs.Products.{mulz_within}
use Rattle.fr_course.proofs.Limits.{product_fits, weighed_within}
use Rattle.fr_course.proofs.Numbers.{macros_are, scale_is}
use Rattle.fr_course.proofs.shares.weighed.Goals as goal

pub overflow_mul-one : goal.overflow_mul-one
overflow_mul-one c =
    let before : FitsSigned w128 (c.args.before) = search rules in
    let first : FitsSigned w128 (c.args.first) = search rules in
    let second : FitsSigned w128 (c.args.second) = search rules in
    let macros : FitsSigned w128 (c.args.scale.now.macros) = omega (arith, ints, (scale_is c.scale.view_is c.scale.invariant).macros_from, (scale_is c.scale.view_is c.scale.invariant).macros_to) in
    let behind : FitsSigned w128 (c.args.scale.now.macros -ℤ c.args.before) = omega (arith, ints, c.requires.before, (scale_is c.scale.view_is c.scale.invariant).macros_to) in
    let few : c.args.before ≤ℤ pos 16_000 = omega (arith, ints, c.requires.before.high, (scale_is c.scale.view_is c.scale.invariant).macros_to) in
    let rest_from : pos 0 ≤ℤ (c.args.scale.now.macros -ℤ c.args.before) = omega (arith, ints, c.requires.before.high) in
    let rest_to : (c.args.scale.now.macros -ℤ c.args.before) ≤ℤ pos 16_000 = omega (arith, ints, c.requires.before.low, (scale_is c.scale.view_is c.scale.invariant).macros_to) in
    let one : FitsSigned w128 (c.args.before *ℤ c.args.first) = product_fits (c.args.before) (c.args.first) c.requires.before.low few c.requires.first in
    simp to_z-of_z one

pub overflow_mul-other : goal.overflow_mul-other
overflow_mul-other c =
    let before : FitsSigned w128 (c.args.before) = search rules in
    let first : FitsSigned w128 (c.args.first) = search rules in
    let second : FitsSigned w128 (c.args.second) = search rules in
    let macros : FitsSigned w128 (c.args.scale.now.macros) = omega (arith, ints, (scale_is c.scale.view_is c.scale.invariant).macros_from, (scale_is c.scale.view_is c.scale.invariant).macros_to) in
    let behind : FitsSigned w128 (c.args.scale.now.macros -ℤ c.args.before) = omega (arith, ints, c.requires.before, (scale_is c.scale.view_is c.scale.invariant).macros_to) in
    let few : c.args.before ≤ℤ pos 16_000 = omega (arith, ints, c.requires.before.high, (scale_is c.scale.view_is c.scale.invariant).macros_to) in
    let rest_from : pos 0 ≤ℤ (c.args.scale.now.macros -ℤ c.args.before) = omega (arith, ints, c.requires.before.high) in
    let rest_to : (c.args.scale.now.macros -ℤ c.args.before) ≤ℤ pos 16_000 = omega (arith, ints, c.requires.before.low, (scale_is c.scale.view_is c.scale.invariant).macros_to) in
    let other : FitsSigned w128 ((c.args.scale.now.macros -ℤ c.args.before) *ℤ c.args.second) = product_fits (c.args.scale.now.macros -ℤ c.args.before) (c.args.second) rest_from rest_to c.requires.second in
    simp (to_z-of_z, macros_are c.scale.view_is) other

pub overflow_add-result : goal.overflow_add-result
overflow_add-result c =
    let before : FitsSigned w128 (c.args.before) = search rules in
    let first : FitsSigned w128 (c.args.first) = search rules in
    let second : FitsSigned w128 (c.args.second) = search rules in
    let macros : FitsSigned w128 (c.args.scale.now.macros) = omega (arith, ints, (scale_is c.scale.view_is c.scale.invariant).macros_from, (scale_is c.scale.view_is c.scale.invariant).macros_to) in
    let behind : FitsSigned w128 (c.args.scale.now.macros -ℤ c.args.before) = omega (arith, ints, c.requires.before, (scale_is c.scale.view_is c.scale.invariant).macros_to) in
    let few : c.args.before ≤ℤ pos 16_000 = omega (arith, ints, c.requires.before.high, (scale_is c.scale.view_is c.scale.invariant).macros_to) in
    let rest_from : pos 0 ≤ℤ (c.args.scale.now.macros -ℤ c.args.before) = omega (arith, ints, c.requires.before.high) in
    let rest_to : (c.args.scale.now.macros -ℤ c.args.before) ≤ℤ pos 16_000 = omega (arith, ints, c.requires.before.low, (scale_is c.scale.view_is c.scale.invariant).macros_to) in
    let one : FitsSigned w128 (c.args.before *ℤ c.args.first) = product_fits (c.args.before) (c.args.first) c.requires.before.low few c.requires.first in
    let other : FitsSigned w128 ((c.args.scale.now.macros -ℤ c.args.before) *ℤ c.args.second) = product_fits (c.args.scale.now.macros -ℤ c.args.before) (c.args.second) rest_from rest_to c.requires.second in
    let one_near = mulz_within (c.args.before) (c.args.first) (pos 16_000) (pos 1_900_000_000_000_000_000) c.requires.before.low few c.requires.first in
    let other_near = mulz_within (c.args.scale.now.macros -ℤ c.args.before) (c.args.second) (pos 16_000) (pos 1_900_000_000_000_000_000) rest_from rest_to c.requires.second in
    let sum : FitsSigned w128 ((c.args.before *ℤ c.args.first) +ℤ ((c.args.scale.now.macros -ℤ c.args.before) *ℤ c.args.second)) = omega (arith, ints, one_near, other_near) in
    simp (to_z-of_z, macros_are c.scale.view_is) sum

pub returns-clause-value : goal.returns-clause-value
returns-clause-value c =
    let before : FitsSigned w128 (c.args.before) = search rules in
    let first : FitsSigned w128 (c.args.first) = search rules in
    let second : FitsSigned w128 (c.args.second) = search rules in
    let macros : FitsSigned w128 (c.args.scale.now.macros) = omega (arith, ints, (scale_is c.scale.view_is c.scale.invariant).macros_from, (scale_is c.scale.view_is c.scale.invariant).macros_to) in
    let behind : FitsSigned w128 (c.args.scale.now.macros -ℤ c.args.before) = omega (arith, ints, c.requires.before, (scale_is c.scale.view_is c.scale.invariant).macros_to) in
    let few : c.args.before ≤ℤ pos 16_000 = omega (arith, ints, c.requires.before.high, (scale_is c.scale.view_is c.scale.invariant).macros_to) in
    let rest_from : pos 0 ≤ℤ (c.args.scale.now.macros -ℤ c.args.before) = omega (arith, ints, c.requires.before.high) in
    let rest_to : (c.args.scale.now.macros -ℤ c.args.before) ≤ℤ pos 16_000 = omega (arith, ints, c.requires.before.low, (scale_is c.scale.view_is c.scale.invariant).macros_to) in
    let one : FitsSigned w128 (c.args.before *ℤ c.args.first) = product_fits (c.args.before) (c.args.first) c.requires.before.low few c.requires.first in
    let other : FitsSigned w128 ((c.args.scale.now.macros -ℤ c.args.before) *ℤ c.args.second) = product_fits (c.args.scale.now.macros -ℤ c.args.before) (c.args.second) rest_from rest_to c.requires.second in
    let one_near = mulz_within (c.args.before) (c.args.first) (pos 16_000) (pos 1_900_000_000_000_000_000) c.requires.before.low few c.requires.first in
    let other_near = mulz_within (c.args.scale.now.macros -ℤ c.args.before) (c.args.second) (pos 16_000) (pos 1_900_000_000_000_000_000) rest_from rest_to c.requires.second in
    let sum : FitsSigned w128 ((c.args.before *ℤ c.args.first) +ℤ ((c.args.scale.now.macros -ℤ c.args.before) *ℤ c.args.second)) = omega (arith, ints, one_near, other_near) in
    simp (to_z-of_z, macros_are c.scale.view_is)

pub returns-clause-within : goal.returns-clause-within
returns-clause-within c =
    rw (returns-clause-value c) (weighed_within (c.args.scale.now.macros) (c.args.before) (c.args.first) (c.args.second) (pos 1_900_000_000_000_000_000) c.requires.before.low c.requires.before.high c.requires.first c.requires.second)
