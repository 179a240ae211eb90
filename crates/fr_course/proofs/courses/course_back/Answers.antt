use Rattle.std.proofs.Common.{FitsSigned, pos, subst, sym, rules}
use Rattle.std.specs.Prelude.{◌-ℤ◌}
use mir.Syntax.{w128}
use Rattle.std.proofs.lemmas.Int.{to_z-of_z}
use Rattle.fr_course.specs.Near.{IsNearCourse}
use Rattle.fr_course.proofs.Fits.{box_near, difference_near, fits, high_near, low_near}
use Rattle.fr_course.proofs.Limits.{course_back-near}
use Rattle.fr_course.proofs.Numbers.{length_from_are, length_to_are, scale_is}
use Rattle.fr_course.proofs.courses.course_back.Goals as goal

pub returns-clause-value : goal.returns-clause-value
returns-clause-value c =
    let action : FitsSigned w128 c.args.action = search rules in
    let l : FitsSigned w128 c.args.odd.now.low = fits (record { le = tt }) (low_near {bound = pos 910_000_000_000_000_000} (box_near c.requires.odd)) in
    let h : FitsSigned w128 c.args.odd.now.high = fits (record { le = tt }) (high_near {bound = pos 910_000_000_000_000_000} (box_near c.requires.odd)) in
    let x : FitsSigned w128 c.args.scale.now.length_to = fits (record { le = tt }) (scale_is c.scale.view_is c.scale.invariant).length_to in
    let y : FitsSigned w128 c.args.scale.now.length_from = fits (record { le = tt }) (scale_is c.scale.view_is c.scale.invariant).length_from in
    let low : FitsSigned w128 (c.args.odd.now.low -ℤ c.args.scale.now.length_to) = fits (record { le = tt }) (difference_near (low_near {bound = pos 910_000_000_000_000_000} (box_near c.requires.odd)) (scale_is c.scale.view_is c.scale.invariant).length_to) in
    let high : FitsSigned w128 (c.args.odd.now.high -ℤ c.args.scale.now.length_from) = fits (record { le = tt }) (difference_near (high_near {bound = pos 910_000_000_000_000_000} (box_near c.requires.odd)) (scale_is c.scale.view_is c.scale.invariant).length_from) in
    rw (c.allowed.ensures.value, c.allowed-2.ensures.value) (simp (to_z-of_z, length_from_are c.scale.view_is, length_to_are c.scale.view_is))

pub returns-clause-near : goal.returns-clause-near
returns-clause-near c =
    subst (IsNearCourse c.args.scale.now) (sym (returns-clause-value c)) (course_back-near c.args.scale.now c.args.action c.args.odd.now (scale_is c.scale.view_is c.scale.invariant) c.requires.action c.requires.odd)
