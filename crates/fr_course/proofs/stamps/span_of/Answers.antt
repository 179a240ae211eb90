use Rattle.std.proofs.Common.{FitsSigned, pos, refl}
use Rattle.std.specs.Prelude.{◌+ℤ◌, ◌-ℤ◌}
use mir.Syntax.{w128}
use Rattle.std.proofs.lemmas.Int.{to_z-of_z}
use Rattle.fr_course.proofs.Fits.{difference_near, fits, sum_near, wider_near}
use Rattle.fr_course.proofs.stamps.span_of.Goals as goal

pub returns-clause-value : goal.returns-clause-value
returns-clause-value c =
    let a : FitsSigned w128 c.units_apart-units.result = fits (record { le = tt }) c.units_apart-units.ensures.within in
    let b : FitsSigned w128 c.off_by-off.result = fits (record { le = tt }) c.off_by-off.ensures.within in
    let d : FitsSigned w128 (c.units_apart-units.result -ℤ c.off_by-off.result) = fits (record { le = tt }) (difference_near c.units_apart-units.ensures.within c.off_by-off.ensures.within) in
    let e : FitsSigned w128 (c.units_apart-units.result +ℤ c.off_by-off.result) = fits (record { le = tt }) (sum_near c.units_apart-units.ensures.within c.off_by-off.ensures.within) in
    simp to_z-of_z (rw (c.units_apart-units.ensures.value, c.off_by-off.ensures.value) refl)

pub returns-clause-near : goal.returns-clause-near
returns-clause-near c =
    let a : FitsSigned w128 c.units_apart-units.result = fits (record { le = tt }) c.units_apart-units.ensures.within in
    let b : FitsSigned w128 c.off_by-off.result = fits (record { le = tt }) c.off_by-off.ensures.within in
    let d : FitsSigned w128 (c.units_apart-units.result -ℤ c.off_by-off.result) = fits (record { le = tt }) (difference_near c.units_apart-units.ensures.within c.off_by-off.ensures.within) in
    let e : FitsSigned w128 (c.units_apart-units.result +ℤ c.off_by-off.result) = fits (record { le = tt }) (sum_near c.units_apart-units.ensures.within c.off_by-off.ensures.within) in
    let low = (wider_near {bound = pos 900_002_000_000_000_000} {other = pos 910_000_000_000_000_000} (record { le = tt }) (difference_near c.units_apart-units.ensures.within c.off_by-off.ensures.within)) in
    let high = (wider_near {bound = pos 900_002_000_000_000_000} {other = pos 910_000_000_000_000_000} (record { le = tt }) (sum_near c.units_apart-units.ensures.within c.off_by-off.ensures.within)) in
    simp to_z-of_z (record { low_from = low.low; low_to = low.high; high_from = high.low; high_to = high.high })
