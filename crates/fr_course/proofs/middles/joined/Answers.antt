use Rattle.std.proofs.Common.{◌≡◌, FitsSigned, pos, refl}
use Rattle.std.specs.Int.{int_max, int_min}
use mir.Syntax.{w128}
use Rattle.std.proofs.lemmas.Int.{to_z-of_z}
use Rattle.fr_course.proofs.Fits.{ends_near, fits, high_near, low_near}
use Rattle.fr_course.proofs.Limits.{max_within, min_within}
use Rattle.fr_course.proofs.middles.joined.Goals as goal

pub returns-clause-value : goal.returns-clause-value
returns-clause-value c =
    let a : FitsSigned w128 c.args.one.now.low = fits (record { le = tt }) (low_near {bound = pos 21_000_000_000_000} c.requires.one) in
    let b : FitsSigned w128 c.args.one.now.high = fits (record { le = tt }) (high_near {bound = pos 21_000_000_000_000} c.requires.one) in
    let d : FitsSigned w128 c.args.other.now.low = fits (record { le = tt }) (low_near {bound = pos 21_000_000_000_000} c.requires.other) in
    let e : FitsSigned w128 c.args.other.now.high = fits (record { le = tt }) (high_near {bound = pos 21_000_000_000_000} c.requires.other) in
    let low : c.min.result ≡ int_min c.args.one.now.low c.args.other.now.low = simp to_z-of_z at c.min.ensures.value in
    let high : c.max.result ≡ int_max c.args.one.now.high c.args.other.now.high = simp to_z-of_z at c.max.ensures.value in
    let low_fits : FitsSigned w128 c.min.result = rw low (fits (record { le = tt }) (min_within (pos 21_000_000_000_000) c.args.one.now.low c.args.other.now.low (low_near {bound = pos 21_000_000_000_000} c.requires.one) (low_near {bound = pos 21_000_000_000_000} c.requires.other))) in
    let high_fits : FitsSigned w128 c.max.result = rw high (fits (record { le = tt }) (max_within (pos 21_000_000_000_000) c.args.one.now.high c.args.other.now.high (high_near {bound = pos 21_000_000_000_000} c.requires.one) (high_near {bound = pos 21_000_000_000_000} c.requires.other))) in
    simp to_z-of_z (rw (low, high) refl)

pub returns-clause-near : goal.returns-clause-near
returns-clause-near c =
    rw (returns-clause-value c)
    (ends_near {bound = pos 21_000_000_000_000} (min_within (pos 21_000_000_000_000) c.args.one.now.low c.args.other.now.low (low_near {bound = pos 21_000_000_000_000} c.requires.one) (low_near {bound = pos 21_000_000_000_000} c.requires.other)) (max_within (pos 21_000_000_000_000) c.args.one.now.high c.args.other.now.high (high_near {bound = pos 21_000_000_000_000} c.requires.one) (high_near {bound = pos 21_000_000_000_000} c.requires.other)))
