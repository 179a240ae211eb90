use Rattle.std.proofs.Common.{FitsSigned, pos, refl}
use Rattle.std.specs.Prelude.{◌+ℤ◌, ◌-ℤ◌}
use mir.Syntax.{w128}
use Rattle.std.proofs.lemmas.Int.{to_z-of_z}
use Rattle.fr_course.proofs.Fits.{difference_near, fits, high_near, low_near, micro_near, sum_near, wider_near}
use Rattle.fr_course.proofs.Numbers.{micro_to_are, scale_is}
use Rattle.fr_course.proofs.corrections.offset_reading.Goals as goal

pub returns-clause-value : goal.returns-clause-value
returns-clause-value c =
    let a : FitsSigned w128 c.onward-from.result.low = fits (record { le = tt }) (low_near {bound = pos 3_800_000_000_000_000_000} c.onward-from.ensures.near) in
    let b : FitsSigned w128 c.begun_to.result = fits (record { le = tt }) c.begun_to.ensures.within in
    let d : FitsSigned w128 (c.onward-from.result.low -ℤ c.begun_to.result) = fits (record { le = tt }) (difference_near (low_near {bound = pos 3_800_000_000_000_000_000} c.onward-from.ensures.near) c.begun_to.ensures.within) in
    let e : FitsSigned w128 c.rest_to.result = fits (record { le = tt }) c.rest_to.ensures.within in
    let f : FitsSigned w128 ((c.onward-from.result.low -ℤ c.begun_to.result) -ℤ c.rest_to.result) = fits (record { le = tt }) (difference_near (difference_near (low_near {bound = pos 3_800_000_000_000_000_000} c.onward-from.ensures.near) c.begun_to.ensures.within) c.rest_to.ensures.within) in
    let g : FitsSigned w128 c.args.scale.now.micro_to = fits (record { le = tt }) (micro_near (scale_is c.scale.view_is c.scale.invariant).micro_to) in
    let h : FitsSigned w128 (((c.onward-from.result.low -ℤ c.begun_to.result) -ℤ c.rest_to.result) -ℤ c.args.scale.now.micro_to) = fits (record { le = tt }) (difference_near (difference_near (difference_near (low_near {bound = pos 3_800_000_000_000_000_000} c.onward-from.ensures.near) c.begun_to.ensures.within) c.rest_to.ensures.within) (micro_near (scale_is c.scale.view_is c.scale.invariant).micro_to)) in
    let i : FitsSigned w128 c.onward-from.result.high = fits (record { le = tt }) (high_near {bound = pos 3_800_000_000_000_000_000} c.onward-from.ensures.near) in
    let j : FitsSigned w128 c.begun_from.result = fits (record { le = tt }) c.begun_from.ensures.within in
    let k : FitsSigned w128 (c.onward-from.result.high -ℤ c.begun_from.result) = fits (record { le = tt }) (difference_near (high_near {bound = pos 3_800_000_000_000_000_000} c.onward-from.ensures.near) c.begun_from.ensures.within) in
    let l : FitsSigned w128 c.rest_from.result = fits (record { le = tt }) c.rest_from.ensures.within in
    let m : FitsSigned w128 ((c.onward-from.result.high -ℤ c.begun_from.result) -ℤ c.rest_from.result) = fits (record { le = tt }) (difference_near (difference_near (high_near {bound = pos 3_800_000_000_000_000_000} c.onward-from.ensures.near) c.begun_from.ensures.within) c.rest_from.ensures.within) in
    let n : FitsSigned w128 (((c.onward-from.result.high -ℤ c.begun_from.result) -ℤ c.rest_from.result) +ℤ c.args.scale.now.micro_to) = fits (record { le = tt }) (sum_near (difference_near (difference_near (high_near {bound = pos 3_800_000_000_000_000_000} c.onward-from.ensures.near) c.begun_from.ensures.within) c.rest_from.ensures.within) (micro_near (scale_is c.scale.view_is c.scale.invariant).micro_to)) in
    simp (to_z-of_z, micro_to_are c.scale.view_is) (rw (c.onward-from.ensures.value, c.begun_to.ensures.value, c.rest_to.ensures.value, c.begun_from.ensures.value, c.rest_from.ensures.value) refl)

pub returns-clause-near : goal.returns-clause-near
returns-clause-near c =
    let a : FitsSigned w128 c.onward-from.result.low = fits (record { le = tt }) (low_near {bound = pos 3_800_000_000_000_000_000} c.onward-from.ensures.near) in
    let b : FitsSigned w128 c.begun_to.result = fits (record { le = tt }) c.begun_to.ensures.within in
    let d : FitsSigned w128 (c.onward-from.result.low -ℤ c.begun_to.result) = fits (record { le = tt }) (difference_near (low_near {bound = pos 3_800_000_000_000_000_000} c.onward-from.ensures.near) c.begun_to.ensures.within) in
    let e : FitsSigned w128 c.rest_to.result = fits (record { le = tt }) c.rest_to.ensures.within in
    let f : FitsSigned w128 ((c.onward-from.result.low -ℤ c.begun_to.result) -ℤ c.rest_to.result) = fits (record { le = tt }) (difference_near (difference_near (low_near {bound = pos 3_800_000_000_000_000_000} c.onward-from.ensures.near) c.begun_to.ensures.within) c.rest_to.ensures.within) in
    let g : FitsSigned w128 c.args.scale.now.micro_to = fits (record { le = tt }) (micro_near (scale_is c.scale.view_is c.scale.invariant).micro_to) in
    let h : FitsSigned w128 (((c.onward-from.result.low -ℤ c.begun_to.result) -ℤ c.rest_to.result) -ℤ c.args.scale.now.micro_to) = fits (record { le = tt }) (difference_near (difference_near (difference_near (low_near {bound = pos 3_800_000_000_000_000_000} c.onward-from.ensures.near) c.begun_to.ensures.within) c.rest_to.ensures.within) (micro_near (scale_is c.scale.view_is c.scale.invariant).micro_to)) in
    let i : FitsSigned w128 c.onward-from.result.high = fits (record { le = tt }) (high_near {bound = pos 3_800_000_000_000_000_000} c.onward-from.ensures.near) in
    let j : FitsSigned w128 c.begun_from.result = fits (record { le = tt }) c.begun_from.ensures.within in
    let k : FitsSigned w128 (c.onward-from.result.high -ℤ c.begun_from.result) = fits (record { le = tt }) (difference_near (high_near {bound = pos 3_800_000_000_000_000_000} c.onward-from.ensures.near) c.begun_from.ensures.within) in
    let l : FitsSigned w128 c.rest_from.result = fits (record { le = tt }) c.rest_from.ensures.within in
    let m : FitsSigned w128 ((c.onward-from.result.high -ℤ c.begun_from.result) -ℤ c.rest_from.result) = fits (record { le = tt }) (difference_near (difference_near (high_near {bound = pos 3_800_000_000_000_000_000} c.onward-from.ensures.near) c.begun_from.ensures.within) c.rest_from.ensures.within) in
    let n : FitsSigned w128 (((c.onward-from.result.high -ℤ c.begun_from.result) -ℤ c.rest_from.result) +ℤ c.args.scale.now.micro_to) = fits (record { le = tt }) (sum_near (difference_near (difference_near (high_near {bound = pos 3_800_000_000_000_000_000} c.onward-from.ensures.near) c.begun_from.ensures.within) c.rest_from.ensures.within) (micro_near (scale_is c.scale.view_is c.scale.invariant).micro_to)) in
    let low = (wider_near {bound = pos 5_660_001_001_000_000_000} {other = pos 6_000_000_000_000_000_000} (record { le = tt }) (difference_near (difference_near (difference_near (low_near {bound = pos 3_800_000_000_000_000_000} c.onward-from.ensures.near) c.begun_to.ensures.within) c.rest_to.ensures.within) (micro_near (scale_is c.scale.view_is c.scale.invariant).micro_to))) in
    let high = (wider_near {bound = pos 5_660_001_001_000_000_000} {other = pos 6_000_000_000_000_000_000} (record { le = tt }) (sum_near (difference_near (difference_near (high_near {bound = pos 3_800_000_000_000_000_000} c.onward-from.ensures.near) c.begun_from.ensures.within) c.rest_from.ensures.within) (micro_near (scale_is c.scale.view_is c.scale.invariant).micro_to))) in
    simp (to_z-of_z, micro_to_are c.scale.view_is) (record { low_from = low.low; low_to = low.high; high_from = high.low; high_to = high.high })
