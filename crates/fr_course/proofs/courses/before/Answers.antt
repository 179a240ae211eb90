use Rattle.std.proofs.Common.{◌≡◌, FitsSigned, pos, rules}
use Rattle.std.specs.Prelude.{◌-ℤ◌}
use Rattle.std.specs.Int.{int_max, int_min}
use mir.Syntax.{w128}
use Rattle.std.proofs.lemmas.Int.{to_z-of_z}
use Rattle.fr_course.proofs.Fits.{box_near, difference_near, fits, high_near, low_near}
use Rattle.fr_course.proofs.Limits.{before_within}
use Rattle.fr_course.proofs.courses.before.Goals as goal

pub returns-clause-low : goal.returns-clause-low
returns-clause-low c =
    let m : FitsSigned w128 c.max.result = search rules in
    let a : FitsSigned w128 c.args.even.now.low = fits (record { le = tt }) (low_near {bound = pos 910_000_000_000_000_000} (box_near c.requires.even)) in
    let b : FitsSigned w128 c.args.odd.now.low = fits (record { le = tt }) (low_near {bound = pos 910_000_000_000_000_000} (box_near c.requires.odd)) in
    let d : FitsSigned w128 c.args.apart.now.high = fits (record { le = tt }) (high_near {bound = pos 920_000_000_000_000_000} c.requires.apart) in
    let e : FitsSigned w128 (c.args.odd.now.low -ℤ c.args.apart.now.high) = fits (record { le = tt }) (difference_near (low_near {bound = pos 910_000_000_000_000_000} (box_near c.requires.odd)) (high_near {bound = pos 920_000_000_000_000_000} c.requires.apart)) in
    let value : c.max.result ≡ int_max c.args.even.now.low (c.args.odd.now.low -ℤ c.args.apart.now.high) = simp to_z-of_z at c.max.ensures.value in
    simp to_z-of_z value

pub returns-clause-high : goal.returns-clause-high
returns-clause-high c =
    let m : FitsSigned w128 c.min.result = search rules in
    let a : FitsSigned w128 c.args.even.now.high = fits (record { le = tt }) (high_near {bound = pos 910_000_000_000_000_000} (box_near c.requires.even)) in
    let b : FitsSigned w128 c.args.odd.now.high = fits (record { le = tt }) (high_near {bound = pos 910_000_000_000_000_000} (box_near c.requires.odd)) in
    let d : FitsSigned w128 c.args.apart.now.low = fits (record { le = tt }) (low_near {bound = pos 920_000_000_000_000_000} c.requires.apart) in
    let e : FitsSigned w128 (c.args.odd.now.high -ℤ c.args.apart.now.low) = fits (record { le = tt }) (difference_near (high_near {bound = pos 910_000_000_000_000_000} (box_near c.requires.odd)) (low_near {bound = pos 920_000_000_000_000_000} c.requires.apart)) in
    let value : c.min.result ≡ int_min c.args.even.now.high (c.args.odd.now.high -ℤ c.args.apart.now.low) = simp to_z-of_z at c.min.ensures.value in
    simp to_z-of_z value

pub returns-clause-near : goal.returns-clause-near
returns-clause-near c =
    rw (returns-clause-low c, returns-clause-high c) (before_within c.args.even.now c.args.odd.now c.args.apart.now c.requires.even c.requires.odd c.requires.apart)
