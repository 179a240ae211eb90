use Rattle.std.proofs.Common.{◌≡◌, FitsSigned, pos, subst, sym, refl, rules}
use Rattle.std.specs.Prelude.{◌+ℤ◌, ◌-ℤ◌}
use Rattle.std.specs.Int.{int_max, int_min}
use mir.Syntax.{w128}
use Rattle.std.proofs.lemmas.Int.{to_z-of_z}
use Rattle.fr_course.specs.Near.{EndWithin}
use Rattle.fr_course.specs.Readings.{Interval}
use Rattle.fr_course.proofs.Fits.{difference_near, fits, high_near, low_near, sum_near}
use Rattle.fr_course.proofs.Limits.{length_within}
use Rattle.fr_course.proofs.Numbers.{change_are, length_from_are, length_to_are, scale_is}
use Rattle.fr_course.proofs.courses.length_seen.Goals as goal

pub returns-clause-value : goal.returns-clause-value
returns-clause-value c =
    let m : FitsSigned w128 c.max.result = search rules in
    let n : FitsSigned w128 c.min.result = search rules in
    let a : FitsSigned w128 c.args.apart.now.low = fits (record { le = tt }) (low_near {bound = pos 920_000_000_000_000_000} c.requires.apart) in
    let b : FitsSigned w128 c.args.scale.now.change = fits (record { le = tt }) (scale_is c.scale.view_is c.scale.invariant).change in
    let d : FitsSigned w128 (c.args.apart.now.low -ℤ c.args.scale.now.change) = fits (record { le = tt }) (difference_near (low_near {bound = pos 920_000_000_000_000_000} c.requires.apart) (scale_is c.scale.view_is c.scale.invariant).change) in
    let e : FitsSigned w128 c.args.apart.now.high = fits (record { le = tt }) (high_near {bound = pos 920_000_000_000_000_000} c.requires.apart) in
    let f : FitsSigned w128 (c.args.apart.now.high +ℤ c.args.scale.now.change) = fits (record { le = tt }) (sum_near (high_near {bound = pos 920_000_000_000_000_000} c.requires.apart) (scale_is c.scale.view_is c.scale.invariant).change) in
    let g : FitsSigned w128 c.args.scale.now.length_from = fits (record { le = tt }) (scale_is c.scale.view_is c.scale.invariant).length_from in
    let h : FitsSigned w128 c.args.scale.now.length_to = fits (record { le = tt }) (scale_is c.scale.view_is c.scale.invariant).length_to in
    let least : c.max.result ≡ int_max (c.args.apart.now.low -ℤ c.args.scale.now.change) c.args.scale.now.length_from = simp (to_z-of_z, length_from_are c.scale.view_is, change_are c.scale.view_is) at c.max.ensures.value in
    let most : c.min.result ≡ int_min (c.args.apart.now.high +ℤ c.args.scale.now.change) c.args.scale.now.length_to = simp (to_z-of_z, length_to_are c.scale.view_is, change_are c.scale.view_is) at c.min.ensures.value in
    simp to_z-of_z (rw (least, most) refl)

pub returns-clause-near : goal.returns-clause-near
returns-clause-near c =
    let near : Interval → Type 0 = EndWithin (pos 930_000_000_000_000_000) in
    subst near (sym (returns-clause-value c)) (length_within c.args.scale.now c.args.apart.now (scale_is c.scale.view_is c.scale.invariant) c.requires.apart)
