use Rattle.std.proofs.Common.{FitsSigned, pos}
use Rattle.std.specs.Prelude.{◌+ℤ◌, ◌-ℤ◌}
use mir.Syntax.{w128}
use Rattle.std.proofs.lemmas.Int.{to_z-of_z}
use Rattle.fr_course.proofs.Fits.{difference_near, fits, high_near, low_near, sum_near, wider_near}
use Rattle.fr_course.proofs.Numbers.{change_are, scale_is}
use Rattle.fr_course.proofs.corrections.step_reading.Goals as goal

pub returns-clause-value : goal.returns-clause-value
returns-clause-value c =
    let a : FitsSigned w128 c.args.next.now.length.low = fits (record { le = tt }) (low_near {bound = pos 930_000_000_000_000_000} c.requires.next.length) in
    let b : FitsSigned w128 c.args.course.now.length.high = fits (record { le = tt }) (high_near {bound = pos 930_000_000_000_000_000} c.requires.course.length) in
    let d : FitsSigned w128 (c.args.next.now.length.low -ℤ c.args.course.now.length.high) = fits (record { le = tt }) (difference_near (low_near {bound = pos 930_000_000_000_000_000} c.requires.next.length) (high_near {bound = pos 930_000_000_000_000_000} c.requires.course.length)) in
    let e : FitsSigned w128 c.args.scale.now.change = fits (record { le = tt }) (scale_is c.scale.view_is c.scale.invariant).change in
    let f : FitsSigned w128 ((c.args.next.now.length.low -ℤ c.args.course.now.length.high) -ℤ c.args.scale.now.change) = fits (record { le = tt }) (difference_near (difference_near (low_near {bound = pos 930_000_000_000_000_000} c.requires.next.length) (high_near {bound = pos 930_000_000_000_000_000} c.requires.course.length)) (scale_is c.scale.view_is c.scale.invariant).change) in
    let g : FitsSigned w128 c.args.next.now.length.high = fits (record { le = tt }) (high_near {bound = pos 930_000_000_000_000_000} c.requires.next.length) in
    let h : FitsSigned w128 c.args.course.now.length.low = fits (record { le = tt }) (low_near {bound = pos 930_000_000_000_000_000} c.requires.course.length) in
    let i : FitsSigned w128 (c.args.next.now.length.high -ℤ c.args.course.now.length.low) = fits (record { le = tt }) (difference_near (high_near {bound = pos 930_000_000_000_000_000} c.requires.next.length) (low_near {bound = pos 930_000_000_000_000_000} c.requires.course.length)) in
    let j : FitsSigned w128 ((c.args.next.now.length.high -ℤ c.args.course.now.length.low) +ℤ c.args.scale.now.change) = fits (record { le = tt }) (sum_near (difference_near (high_near {bound = pos 930_000_000_000_000_000} c.requires.next.length) (low_near {bound = pos 930_000_000_000_000_000} c.requires.course.length)) (scale_is c.scale.view_is c.scale.invariant).change) in
    simp (to_z-of_z, change_are c.scale.view_is)

pub returns-clause-near : goal.returns-clause-near
returns-clause-near c =
    let a : FitsSigned w128 c.args.next.now.length.low = fits (record { le = tt }) (low_near {bound = pos 930_000_000_000_000_000} c.requires.next.length) in
    let b : FitsSigned w128 c.args.course.now.length.high = fits (record { le = tt }) (high_near {bound = pos 930_000_000_000_000_000} c.requires.course.length) in
    let d : FitsSigned w128 (c.args.next.now.length.low -ℤ c.args.course.now.length.high) = fits (record { le = tt }) (difference_near (low_near {bound = pos 930_000_000_000_000_000} c.requires.next.length) (high_near {bound = pos 930_000_000_000_000_000} c.requires.course.length)) in
    let e : FitsSigned w128 c.args.scale.now.change = fits (record { le = tt }) (scale_is c.scale.view_is c.scale.invariant).change in
    let f : FitsSigned w128 ((c.args.next.now.length.low -ℤ c.args.course.now.length.high) -ℤ c.args.scale.now.change) = fits (record { le = tt }) (difference_near (difference_near (low_near {bound = pos 930_000_000_000_000_000} c.requires.next.length) (high_near {bound = pos 930_000_000_000_000_000} c.requires.course.length)) (scale_is c.scale.view_is c.scale.invariant).change) in
    let g : FitsSigned w128 c.args.next.now.length.high = fits (record { le = tt }) (high_near {bound = pos 930_000_000_000_000_000} c.requires.next.length) in
    let h : FitsSigned w128 c.args.course.now.length.low = fits (record { le = tt }) (low_near {bound = pos 930_000_000_000_000_000} c.requires.course.length) in
    let i : FitsSigned w128 (c.args.next.now.length.high -ℤ c.args.course.now.length.low) = fits (record { le = tt }) (difference_near (high_near {bound = pos 930_000_000_000_000_000} c.requires.next.length) (low_near {bound = pos 930_000_000_000_000_000} c.requires.course.length)) in
    let j : FitsSigned w128 ((c.args.next.now.length.high -ℤ c.args.course.now.length.low) +ℤ c.args.scale.now.change) = fits (record { le = tt }) (sum_near (difference_near (high_near {bound = pos 930_000_000_000_000_000} c.requires.next.length) (low_near {bound = pos 930_000_000_000_000_000} c.requires.course.length)) (scale_is c.scale.view_is c.scale.invariant).change) in
    let low = (wider_near {bound = pos 1_860_001_001_000_000_000} {other = pos 6_000_000_000_000_000_000} (record { le = tt }) (difference_near (difference_near (low_near {bound = pos 930_000_000_000_000_000} c.requires.next.length) (high_near {bound = pos 930_000_000_000_000_000} c.requires.course.length)) (scale_is c.scale.view_is c.scale.invariant).change)) in
    let high = (wider_near {bound = pos 1_860_001_001_000_000_000} {other = pos 6_000_000_000_000_000_000} (record { le = tt }) (sum_near (difference_near (high_near {bound = pos 930_000_000_000_000_000} c.requires.next.length) (low_near {bound = pos 930_000_000_000_000_000} c.requires.course.length)) (scale_is c.scale.view_is c.scale.invariant).change)) in
    simp (to_z-of_z, change_are c.scale.view_is) (record { low_from = low.low; low_to = low.high; high_from = high.low; high_to = high.high })
