use Rattle.std.proofs.Common.{◌≡◌, FitsSigned, pos, subst, sym}
use Rattle.std.specs.Prelude.{◌-ℤ◌}
use Rattle.std.specs.Int.{int_max}
use mir.Syntax.{w128}
use Rattle.std.proofs.lemmas.Int.{to_z-of_z}
use Rattle.fr_base.specs.Within.{IsWithin}
use Rattle.fr_course.proofs.Fits.{difference_near, fits, high_near, low_near}
use Rattle.fr_course.proofs.Limits.{max_within}
use Rattle.fr_judging.proofs.standings.outside.Goals as goal

under : (c : goal.After-max) → IsWithin (pos 6_200_001_000_000_000_000) (c.args.proper.now.low -ℤ c.args.long.now.low)
under c = difference_near (low_near {bound = pos 1_000_000_000_000} c.requires.proper) (low_near {bound = pos 6_200_000_000_000_000_000} c.requires.long)

over : (c : goal.After-max) → IsWithin (pos 6_200_001_000_000_000_000) (c.args.long.now.high -ℤ c.args.proper.now.high)
over c = difference_near (high_near {bound = pos 6_200_000_000_000_000_000} c.requires.long) (high_near {bound = pos 1_000_000_000_000} c.requires.proper)

value_lem : (c : goal.After-max) → c.max.result ≡ int_max (c.args.proper.now.low -ℤ c.args.long.now.low) (c.args.long.now.high -ℤ c.args.proper.now.high)
value_lem c =
    let a : FitsSigned w128 c.args.proper.now.low = fits (record { le = tt }) (low_near {bound = pos 1_000_000_000_000} c.requires.proper) in
    let b : FitsSigned w128 c.args.proper.now.high = fits (record { le = tt }) (high_near {bound = pos 1_000_000_000_000} c.requires.proper) in
    let d : FitsSigned w128 c.args.long.now.low = fits (record { le = tt }) (low_near {bound = pos 6_200_000_000_000_000_000} c.requires.long) in
    let e : FitsSigned w128 c.args.long.now.high = fits (record { le = tt }) (high_near {bound = pos 6_200_000_000_000_000_000} c.requires.long) in
    let f : FitsSigned w128 (c.args.proper.now.low -ℤ c.args.long.now.low) = fits (record { le = tt }) (under c) in
    let g : FitsSigned w128 (c.args.long.now.high -ℤ c.args.proper.now.high) = fits (record { le = tt }) (over c) in
    simp to_z-of_z at c.max.ensures.value

near_lem : (c : goal.After-max) → IsWithin (pos 6_200_001_000_000_000_000) c.max.result
near_lem c =
    subst (IsWithin (pos 6_200_001_000_000_000_000)) (sym (value_lem c))
    (max_within (pos 6_200_001_000_000_000_000) (c.args.proper.now.low -ℤ c.args.long.now.low) (c.args.long.now.high -ℤ c.args.proper.now.high) (under c) (over c))

pub returns-clause-value : goal.returns-clause-value
returns-clause-value c = let m : FitsSigned w128 c.max.result = fits (record { le = tt }) (near_lem c) in simp to_z-of_z (value_lem c)

pub returns-clause-near : goal.returns-clause-near
returns-clause-near c = let m : FitsSigned w128 c.max.result = fits (record { le = tt }) (near_lem c) in simp to_z-of_z (near_lem c)
