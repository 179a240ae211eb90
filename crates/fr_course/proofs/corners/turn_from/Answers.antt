use Rattle.std.proofs.Common.{◌≡◌, FitsSigned, pos, refl}
use Rattle.std.specs.Prelude.{◌-ℤ◌}
use mir.Syntax.{w128}
use Rattle.std.proofs.lemmas.Int.{to_z-of_z}
use Rattle.fr_course.specs.Course.{mean_from}
use Rattle.fr_course.proofs.Counted.{action_between, ahead_between, before_between, correction_between, counted_near, macros_between}
use Rattle.fr_course.proofs.Fits.{between_near, difference_near, fits, low_near, wider_near}
use Rattle.fr_course.proofs.Numbers.{change_are, correction_are, macros_are, scale_is}
use Rattle.fr_course.proofs.corners.turn_from.Goals as goal

pub overflow_sub-ahead : goal.overflow_sub-ahead
overflow_sub-ahead c =
    let action : FitsSigned w128 c.args.course.now.action = fits (record { le = tt }) (counted_near (action_between c.args.scale.now c.args.course.now (scale_is c.scale.view_is c.scale.invariant) c.requires.course) (scale_is c.scale.view_is c.scale.invariant).macros_to) in
    let correction : FitsSigned w128 c.args.scale.now.correction = fits (record { le = tt }) (counted_near (correction_between (scale_is c.scale.view_is c.scale.invariant)) (scale_is c.scale.view_is c.scale.invariant).macros_to) in
    let ahead : FitsSigned w128 (c.args.scale.now.correction -ℤ c.args.course.now.action) = fits (record { le = tt }) (counted_near (ahead_between c.args.scale.now c.args.course.now (scale_is c.scale.view_is c.scale.invariant) c.requires.course) (scale_is c.scale.view_is c.scale.invariant).macros_to) in
    simp (to_z-of_z, correction_are c.scale.view_is) ahead

pub overflow_sub-before : goal.overflow_sub-before
overflow_sub-before c =
    let action : FitsSigned w128 c.args.course.now.action = fits (record { le = tt }) (counted_near (action_between c.args.scale.now c.args.course.now (scale_is c.scale.view_is c.scale.invariant) c.requires.course) (scale_is c.scale.view_is c.scale.invariant).macros_to) in
    let correction : FitsSigned w128 c.args.scale.now.correction = fits (record { le = tt }) (counted_near (correction_between (scale_is c.scale.view_is c.scale.invariant)) (scale_is c.scale.view_is c.scale.invariant).macros_to) in
    let ahead : FitsSigned w128 (c.args.scale.now.correction -ℤ c.args.course.now.action) = fits (record { le = tt }) (counted_near (ahead_between c.args.scale.now c.args.course.now (scale_is c.scale.view_is c.scale.invariant) c.requires.course) (scale_is c.scale.view_is c.scale.invariant).macros_to) in
    let macros : FitsSigned w128 c.args.scale.now.macros = fits (record { le = tt }) (between_near {least = pos 1} (record { le = tt }) (record { le = tt }) (macros_between (scale_is c.scale.view_is c.scale.invariant))) in
    let before : FitsSigned w128 (c.args.scale.now.macros -ℤ (c.args.scale.now.correction -ℤ c.args.course.now.action)) = fits (record { le = tt }) (counted_near (before_between c.args.scale.now c.args.course.now (scale_is c.scale.view_is c.scale.invariant) c.requires.course) (scale_is c.scale.view_is c.scale.invariant).macros_to) in
    simp (to_z-of_z, macros_are c.scale.view_is, correction_are c.scale.view_is) before

pub mean_from-requires-clause-before : goal.mean_from-requires-clause-before
mean_from-requires-clause-before c =
    let action : FitsSigned w128 c.args.course.now.action = fits (record { le = tt }) (counted_near (action_between c.args.scale.now c.args.course.now (scale_is c.scale.view_is c.scale.invariant) c.requires.course) (scale_is c.scale.view_is c.scale.invariant).macros_to) in
    let correction : FitsSigned w128 c.args.scale.now.correction = fits (record { le = tt }) (counted_near (correction_between (scale_is c.scale.view_is c.scale.invariant)) (scale_is c.scale.view_is c.scale.invariant).macros_to) in
    let ahead : FitsSigned w128 (c.args.scale.now.correction -ℤ c.args.course.now.action) = fits (record { le = tt }) (counted_near (ahead_between c.args.scale.now c.args.course.now (scale_is c.scale.view_is c.scale.invariant) c.requires.course) (scale_is c.scale.view_is c.scale.invariant).macros_to) in
    let macros : FitsSigned w128 c.args.scale.now.macros = fits (record { le = tt }) (between_near {least = pos 1} (record { le = tt }) (record { le = tt }) (macros_between (scale_is c.scale.view_is c.scale.invariant))) in
    let before : FitsSigned w128 (c.args.scale.now.macros -ℤ (c.args.scale.now.correction -ℤ c.args.course.now.action)) = fits (record { le = tt }) (counted_near (before_between c.args.scale.now c.args.course.now (scale_is c.scale.view_is c.scale.invariant) c.requires.course) (scale_is c.scale.view_is c.scale.invariant).macros_to) in
    simp (to_z-of_z, macros_are c.scale.view_is, correction_are c.scale.view_is) (before_between c.args.scale.now c.args.course.now (scale_is c.scale.view_is c.scale.invariant) c.requires.course)

pub mean_from-requires-clause-first : goal.mean_from-requires-clause-first
mean_from-requires-clause-first c =
    let first : FitsSigned w128 c.args.course.now.even.low = fits (record { le = tt }) (low_near {bound = pos 1_900_000_000_000_000_000} c.requires.course.even) in
    simp to_z-of_z (low_near {bound = pos 1_900_000_000_000_000_000} c.requires.course.even)

pub mean_from-requires-clause-second : goal.mean_from-requires-clause-second
mean_from-requires-clause-second c =
    let second : FitsSigned w128 c.args.course.now.odd.low = fits (record { le = tt }) (low_near {bound = pos 1_900_000_000_000_000_000} c.requires.course.odd) in
    simp to_z-of_z (low_near {bound = pos 1_900_000_000_000_000_000} c.requires.course.odd)

pub overflow_sub-result : goal.overflow_sub-result
overflow_sub-result c =
    let change : FitsSigned w128 c.args.scale.now.change = fits (record { le = tt }) (scale_is c.scale.view_is c.scale.invariant).change in
    let mean : FitsSigned w128 c.mean_from.result = fits (record { le = tt }) c.mean_from.ensures.within in
    let sum : FitsSigned w128 (c.mean_from.result -ℤ c.args.scale.now.change) = fits (record { le = tt }) (difference_near c.mean_from.ensures.within (scale_is c.scale.view_is c.scale.invariant).change) in
    simp (to_z-of_z, change_are c.scale.view_is) sum

pub returns-clause-value : goal.returns-clause-value
returns-clause-value c =
    let action : FitsSigned w128 c.args.course.now.action = fits (record { le = tt }) (counted_near (action_between c.args.scale.now c.args.course.now (scale_is c.scale.view_is c.scale.invariant) c.requires.course) (scale_is c.scale.view_is c.scale.invariant).macros_to) in
    let correction : FitsSigned w128 c.args.scale.now.correction = fits (record { le = tt }) (counted_near (correction_between (scale_is c.scale.view_is c.scale.invariant)) (scale_is c.scale.view_is c.scale.invariant).macros_to) in
    let ahead : FitsSigned w128 (c.args.scale.now.correction -ℤ c.args.course.now.action) = fits (record { le = tt }) (counted_near (ahead_between c.args.scale.now c.args.course.now (scale_is c.scale.view_is c.scale.invariant) c.requires.course) (scale_is c.scale.view_is c.scale.invariant).macros_to) in
    let macros : FitsSigned w128 c.args.scale.now.macros = fits (record { le = tt }) (between_near {least = pos 1} (record { le = tt }) (record { le = tt }) (macros_between (scale_is c.scale.view_is c.scale.invariant))) in
    let before : FitsSigned w128 (c.args.scale.now.macros -ℤ (c.args.scale.now.correction -ℤ c.args.course.now.action)) = fits (record { le = tt }) (counted_near (before_between c.args.scale.now c.args.course.now (scale_is c.scale.view_is c.scale.invariant) c.requires.course) (scale_is c.scale.view_is c.scale.invariant).macros_to) in
    let first : FitsSigned w128 c.args.course.now.even.low = fits (record { le = tt }) (low_near {bound = pos 1_900_000_000_000_000_000} c.requires.course.even) in
    let second : FitsSigned w128 c.args.course.now.odd.low = fits (record { le = tt }) (low_near {bound = pos 1_900_000_000_000_000_000} c.requires.course.odd) in
    let change : FitsSigned w128 c.args.scale.now.change = fits (record { le = tt }) (scale_is c.scale.view_is c.scale.invariant).change in
    let mean : FitsSigned w128 c.mean_from.result = fits (record { le = tt }) c.mean_from.ensures.within in
    let sum : FitsSigned w128 (c.mean_from.result -ℤ c.args.scale.now.change) = fits (record { le = tt }) (difference_near c.mean_from.ensures.within (scale_is c.scale.view_is c.scale.invariant).change) in
    let value : c.mean_from.result ≡ mean_from c.args.scale.now (c.args.scale.now.macros -ℤ (c.args.scale.now.correction -ℤ c.args.course.now.action)) c.args.course.now.even.low c.args.course.now.odd.low = simp (to_z-of_z, macros_are c.scale.view_is, correction_are c.scale.view_is) at c.mean_from.ensures.value in
    simp (to_z-of_z, change_are c.scale.view_is) (rw value refl)

pub returns-clause-within : goal.returns-clause-within
returns-clause-within c =
    let change : FitsSigned w128 c.args.scale.now.change = fits (record { le = tt }) (scale_is c.scale.view_is c.scale.invariant).change in
    let mean : FitsSigned w128 c.mean_from.result = fits (record { le = tt }) c.mean_from.ensures.within in
    let sum : FitsSigned w128 (c.mean_from.result -ℤ c.args.scale.now.change) = fits (record { le = tt }) (difference_near c.mean_from.ensures.within (scale_is c.scale.view_is c.scale.invariant).change) in
    simp (to_z-of_z, change_are c.scale.view_is) (wider_near (record { le = tt }) (difference_near c.mean_from.ensures.within (scale_is c.scale.view_is c.scale.invariant).change))
