use Rattle.std.proofs.Common.{◌≡◌, FitsSigned, refl, arith, rules}
use Rattle.std.specs.Prelude.{◌-ℤ◌}
use mir.Syntax.{w128}
use Rattle.std.proofs.lemmas.Int.{ints, to_z-of_z}
use Rattle.fr_course.specs.Course.{mean_from}
use Rattle.fr_course.proofs.Numbers.{change_are, scale_is}
use Rattle.fr_course.proofs.corners.between_from.Goals as goal

pub returns-clause-value : goal.returns-clause-value
returns-clause-value c =
    let action : FitsSigned w128 (c.args.course.now.action) = search rules in
    let first : FitsSigned w128 (c.args.course.now.even.low) = search rules in
    let second : FitsSigned w128 (c.args.course.now.odd.low) = search rules in
    let change : FitsSigned w128 (c.args.scale.now.change) = search rules in
    let r : FitsSigned w128 (c.mean_from.result) = search rules in
    let sum : FitsSigned w128 (c.mean_from.result -ℤ c.args.scale.now.change) = omega (arith, ints, c.mean_from.ensures.within, (scale_is c.scale.view_is c.scale.invariant).change) in
    let mean : c.mean_from.result ≡ mean_from c.args.scale.now c.args.course.now.action c.args.course.now.even.low c.args.course.now.odd.low = simp to_z-of_z at c.mean_from.ensures.value in
    simp (to_z-of_z, change_are c.scale.view_is) (rw mean refl)
