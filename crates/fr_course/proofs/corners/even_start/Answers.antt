use Rattle.std.proofs.Common.{FitsSigned, pos, refl}
use Rattle.std.specs.Prelude.{◌+ℤ◌, ◌-ℤ◌}
use mir.Syntax.{w128}
use Rattle.std.proofs.lemmas.Int.{to_z-of_z}
use Rattle.fr_course.proofs.Fits.{difference_near, fits, high_near, low_near, micro_near, sum_near, wider_near}
use Rattle.fr_course.proofs.Numbers.{micro_to_are, scale_is}
use Rattle.fr_course.proofs.corners.even_start.Goals as goal

pub returns-clause-value : goal.returns-clause-value
returns-clause-value c =
    let a : FitsSigned w128 c.args.course.now.even.low = fits (record { le = tt }) (low_near {bound = pos 1_900_000_000_000_000_000} c.requires.course.even) in
    let b : FitsSigned w128 c.action_to.result = fits (record { le = tt }) c.action_to.ensures.within in
    let d : FitsSigned w128 (c.args.course.now.even.low -ℤ c.action_to.result) = fits (record { le = tt }) (difference_near (low_near {bound = pos 1_900_000_000_000_000_000} c.requires.course.even) c.action_to.ensures.within) in
    let e : FitsSigned w128 c.args.course.now.even.high = fits (record { le = tt }) (high_near {bound = pos 1_900_000_000_000_000_000} c.requires.course.even) in
    let f : FitsSigned w128 c.action_from.result = fits (record { le = tt }) c.action_from.ensures.within in
    let g : FitsSigned w128 (c.args.course.now.even.high -ℤ c.action_from.result) = fits (record { le = tt }) (difference_near (high_near {bound = pos 1_900_000_000_000_000_000} c.requires.course.even) c.action_from.ensures.within) in
    let h : FitsSigned w128 c.args.scale.now.micro_to = fits (record { le = tt }) (micro_near (scale_is c.scale.view_is c.scale.invariant).micro_to) in
    let i : FitsSigned w128 ((c.args.course.now.even.high -ℤ c.action_from.result) +ℤ c.args.scale.now.micro_to) = fits (record { le = tt }) (sum_near (difference_near (high_near {bound = pos 1_900_000_000_000_000_000} c.requires.course.even) c.action_from.ensures.within) (micro_near (scale_is c.scale.view_is c.scale.invariant).micro_to)) in
    simp (to_z-of_z, micro_to_are c.scale.view_is) (rw (c.action_to.ensures.value, c.action_from.ensures.value) refl)

pub returns-clause-near : goal.returns-clause-near
returns-clause-near c =
    let a : FitsSigned w128 c.args.course.now.even.low = fits (record { le = tt }) (low_near {bound = pos 1_900_000_000_000_000_000} c.requires.course.even) in
    let b : FitsSigned w128 c.action_to.result = fits (record { le = tt }) c.action_to.ensures.within in
    let d : FitsSigned w128 (c.args.course.now.even.low -ℤ c.action_to.result) = fits (record { le = tt }) (difference_near (low_near {bound = pos 1_900_000_000_000_000_000} c.requires.course.even) c.action_to.ensures.within) in
    let e : FitsSigned w128 c.args.course.now.even.high = fits (record { le = tt }) (high_near {bound = pos 1_900_000_000_000_000_000} c.requires.course.even) in
    let f : FitsSigned w128 c.action_from.result = fits (record { le = tt }) c.action_from.ensures.within in
    let g : FitsSigned w128 (c.args.course.now.even.high -ℤ c.action_from.result) = fits (record { le = tt }) (difference_near (high_near {bound = pos 1_900_000_000_000_000_000} c.requires.course.even) c.action_from.ensures.within) in
    let h : FitsSigned w128 c.args.scale.now.micro_to = fits (record { le = tt }) (micro_near (scale_is c.scale.view_is c.scale.invariant).micro_to) in
    let i : FitsSigned w128 ((c.args.course.now.even.high -ℤ c.action_from.result) +ℤ c.args.scale.now.micro_to) = fits (record { le = tt }) (sum_near (difference_near (high_near {bound = pos 1_900_000_000_000_000_000} c.requires.course.even) c.action_from.ensures.within) (micro_near (scale_is c.scale.view_is c.scale.invariant).micro_to)) in
    let low = (wider_near {bound = pos 2_830_000_000_000_000_000} {other = pos 3_000_000_000_000_000_000} (record { le = tt }) (difference_near (low_near {bound = pos 1_900_000_000_000_000_000} c.requires.course.even) c.action_to.ensures.within)) in
    let high = (wider_near {bound = pos 2_830_001_001_000_000_000} {other = pos 3_000_000_000_000_000_000} (record { le = tt }) (sum_near (difference_near (high_near {bound = pos 1_900_000_000_000_000_000} c.requires.course.even) c.action_from.ensures.within) (micro_near (scale_is c.scale.view_is c.scale.invariant).micro_to))) in
    simp (to_z-of_z, micro_to_are c.scale.view_is) (record { low_from = low.low; low_to = low.high; high_from = high.low; high_to = high.high })
