use Rattle.std.proofs.Common.{◌≡◌, FitsSigned, pos, refl, rules}
use Rattle.std.specs.Prelude.{◌+ℤ◌, ◌-ℤ◌}
use mir.Syntax.{w128}
use Rattle.std.proofs.lemmas.Int.{to_z-of_z}
use Rattle.fr_course.specs.Course.{share_from, share_to}
use Rattle.fr_course.proofs.Fits.{difference_near, fits, high_near, low_near, micro_near, sum_near, wider_near}
use Rattle.fr_course.proofs.Numbers.{micro_to_are, scale_is}
use Rattle.fr_course.proofs.corners.macrotick_behind.Goals as goal

pub returns-clause-low : goal.returns-clause-low
returns-clause-low c =
    let ahead : FitsSigned w128 c.args.ahead = search rules in
    let length : FitsSigned w128 c.args.course.now.length.low = fits (record { le = tt }) (low_near {bound = pos 930_000_000_000_000_000} c.requires.course.length) in
    let d : FitsSigned w128 c.args.course.now.odd.low = fits (record { le = tt }) (low_near {bound = pos 1_900_000_000_000_000_000} c.requires.course.odd) in
    let e : FitsSigned w128 c.share_from.result = fits (record { le = tt }) c.share_from.ensures.within in
    let f : FitsSigned w128 (c.args.course.now.odd.low +ℤ c.share_from.result) = fits (record { le = tt }) (sum_near (low_near {bound = pos 1_900_000_000_000_000_000} c.requires.course.odd) c.share_from.ensures.within) in
    let g : FitsSigned w128 c.args.scale.now.micro_to = fits (record { le = tt }) (micro_near (scale_is c.scale.view_is c.scale.invariant).micro_to) in
    let h : FitsSigned w128 ((c.args.course.now.odd.low +ℤ c.share_from.result) -ℤ c.args.scale.now.micro_to) = fits (record { le = tt }) (difference_near (sum_near (low_near {bound = pos 1_900_000_000_000_000_000} c.requires.course.odd) c.share_from.ensures.within) (micro_near (scale_is c.scale.view_is c.scale.invariant).micro_to)) in
    let share : c.share_from.result ≡ share_from c.args.scale.now c.args.ahead c.args.course.now.length.low = simp to_z-of_z at c.share_from.ensures.value in
    simp (to_z-of_z, micro_to_are c.scale.view_is) (rw share refl)

pub returns-clause-high : goal.returns-clause-high
returns-clause-high c =
    let ahead : FitsSigned w128 c.args.ahead = search rules in
    let length : FitsSigned w128 c.args.course.now.length.high = fits (record { le = tt }) (high_near {bound = pos 930_000_000_000_000_000} c.requires.course.length) in
    let d : FitsSigned w128 c.args.course.now.odd.high = fits (record { le = tt }) (high_near {bound = pos 1_900_000_000_000_000_000} c.requires.course.odd) in
    let e : FitsSigned w128 c.share_to.result = fits (record { le = tt }) c.share_to.ensures.within in
    let f : FitsSigned w128 (c.args.course.now.odd.high +ℤ c.share_to.result) = fits (record { le = tt }) (sum_near (high_near {bound = pos 1_900_000_000_000_000_000} c.requires.course.odd) c.share_to.ensures.within) in
    let g : FitsSigned w128 c.args.scale.now.micro_to = fits (record { le = tt }) (micro_near (scale_is c.scale.view_is c.scale.invariant).micro_to) in
    let h : FitsSigned w128 ((c.args.course.now.odd.high +ℤ c.share_to.result) +ℤ c.args.scale.now.micro_to) = fits (record { le = tt }) (sum_near (sum_near (high_near {bound = pos 1_900_000_000_000_000_000} c.requires.course.odd) c.share_to.ensures.within) (micro_near (scale_is c.scale.view_is c.scale.invariant).micro_to)) in
    let share : c.share_to.result ≡ share_to c.args.scale.now c.args.ahead c.args.course.now.length.high = simp to_z-of_z at c.share_to.ensures.value in
    simp (to_z-of_z, micro_to_are c.scale.view_is) (rw share refl)

pub returns-clause-near : goal.returns-clause-near
returns-clause-near c =
    let d : FitsSigned w128 c.args.course.now.odd.low = fits (record { le = tt }) (low_near {bound = pos 1_900_000_000_000_000_000} c.requires.course.odd) in
    let e : FitsSigned w128 c.share_from.result = fits (record { le = tt }) c.share_from.ensures.within in
    let f : FitsSigned w128 (c.args.course.now.odd.low +ℤ c.share_from.result) = fits (record { le = tt }) (sum_near (low_near {bound = pos 1_900_000_000_000_000_000} c.requires.course.odd) c.share_from.ensures.within) in
    let g : FitsSigned w128 c.args.scale.now.micro_to = fits (record { le = tt }) (micro_near (scale_is c.scale.view_is c.scale.invariant).micro_to) in
    let h : FitsSigned w128 ((c.args.course.now.odd.low +ℤ c.share_from.result) -ℤ c.args.scale.now.micro_to) = fits (record { le = tt }) (difference_near (sum_near (low_near {bound = pos 1_900_000_000_000_000_000} c.requires.course.odd) c.share_from.ensures.within) (micro_near (scale_is c.scale.view_is c.scale.invariant).micro_to)) in
    let i : FitsSigned w128 c.args.course.now.odd.high = fits (record { le = tt }) (high_near {bound = pos 1_900_000_000_000_000_000} c.requires.course.odd) in
    let j : FitsSigned w128 c.share_to.result = fits (record { le = tt }) c.share_to.ensures.within in
    let k : FitsSigned w128 (c.args.course.now.odd.high +ℤ c.share_to.result) = fits (record { le = tt }) (sum_near (high_near {bound = pos 1_900_000_000_000_000_000} c.requires.course.odd) c.share_to.ensures.within) in
    let l : FitsSigned w128 ((c.args.course.now.odd.high +ℤ c.share_to.result) +ℤ c.args.scale.now.micro_to) = fits (record { le = tt }) (sum_near (sum_near (high_near {bound = pos 1_900_000_000_000_000_000} c.requires.course.odd) c.share_to.ensures.within) (micro_near (scale_is c.scale.view_is c.scale.invariant).micro_to)) in
    let low = (wider_near {bound = pos 2_830_001_001_000_000_000} {other = pos 3_000_000_000_000_000_000} (record { le = tt }) (difference_near (sum_near (low_near {bound = pos 1_900_000_000_000_000_000} c.requires.course.odd) c.share_from.ensures.within) (micro_near (scale_is c.scale.view_is c.scale.invariant).micro_to))) in
    let high = (wider_near {bound = pos 2_830_001_001_000_000_000} {other = pos 3_000_000_000_000_000_000} (record { le = tt }) (sum_near (sum_near (high_near {bound = pos 1_900_000_000_000_000_000} c.requires.course.odd) c.share_to.ensures.within) (micro_near (scale_is c.scale.view_is c.scale.invariant).micro_to))) in
    simp (to_z-of_z, micro_to_are c.scale.view_is) (record { low_from = low.low; low_to = low.high; high_from = high.low; high_to = high.high })
