use Rattle.std.proofs.Common.{◌≡◌, FitsSigned, pos, subst, sym}
use Rattle.std.specs.Prelude.{◌-ℤ◌}
use Rattle.std.specs.Int.{int_max}
use mir.Syntax.{w128}
use Rattle.std.proofs.lemmas.Int.{to_z-of_z}
use Rattle.fr_base.specs.Within.{IsWithin}
use Rattle.fr_course.proofs.Fits.{difference_near, fits, high_near, low_near}
use Rattle.fr_course.proofs.Limits.{max_within}
use Rattle.fr_course.proofs.skews.least_distance.Goals as goal

value_lem : (c : goal.After-max) → c.max.result ≡ int_max (c.args.one.now.low -ℤ c.args.other.now.high) (c.args.other.now.low -ℤ c.args.one.now.high)
value_lem c =
    let a : FitsSigned w128 c.args.one.now.low = fits (record { le = tt }) (low_near {bound = pos 3_000_000_000_000_000_000} c.requires.one) in
    let b : FitsSigned w128 c.args.other.now.high = fits (record { le = tt }) (high_near {bound = pos 3_000_000_000_000_000_000} c.requires.other) in
    let d : FitsSigned w128 (c.args.one.now.low -ℤ c.args.other.now.high) = fits (record { le = tt }) (difference_near (low_near {bound = pos 3_000_000_000_000_000_000} c.requires.one) (high_near {bound = pos 3_000_000_000_000_000_000} c.requires.other)) in
    let e : FitsSigned w128 c.args.other.now.low = fits (record { le = tt }) (low_near {bound = pos 3_000_000_000_000_000_000} c.requires.other) in
    let f : FitsSigned w128 c.args.one.now.high = fits (record { le = tt }) (high_near {bound = pos 3_000_000_000_000_000_000} c.requires.one) in
    let g : FitsSigned w128 (c.args.other.now.low -ℤ c.args.one.now.high) = fits (record { le = tt }) (difference_near (low_near {bound = pos 3_000_000_000_000_000_000} c.requires.other) (high_near {bound = pos 3_000_000_000_000_000_000} c.requires.one)) in
    simp to_z-of_z at c.max.ensures.value

near_lem : (c : goal.After-max) → IsWithin (pos 6_000_000_000_000_000_000) c.max.result
near_lem c = subst (IsWithin (pos 6_000_000_000_000_000_000)) (sym (value_lem c)) (max_within (pos 6_000_000_000_000_000_000) (c.args.one.now.low -ℤ c.args.other.now.high) (c.args.other.now.low -ℤ c.args.one.now.high) (difference_near (low_near {bound = pos 3_000_000_000_000_000_000} c.requires.one) (high_near {bound = pos 3_000_000_000_000_000_000} c.requires.other)) (difference_near (low_near {bound = pos 3_000_000_000_000_000_000} c.requires.other) (high_near {bound = pos 3_000_000_000_000_000_000} c.requires.one)))

pub returns-clause-value : goal.returns-clause-value
returns-clause-value c = let m : FitsSigned w128 c.max.result = fits (record { le = tt }) (near_lem c) in simp to_z-of_z (value_lem c)

pub returns-clause-within : goal.returns-clause-within
returns-clause-within c = let m : FitsSigned w128 c.max.result = fits (record { le = tt }) (near_lem c) in simp to_z-of_z (near_lem c)
