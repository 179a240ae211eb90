use Rattle.std.proofs.Common.{◌≡◌, FitsSigned, pos, refl, subst, sym}
use Rattle.std.specs.Prelude.{int_lt, if◌then◌else◌}
use mir.Syntax.{w128}
use Rattle.std.proofs.lemmas.Int.{to_z-of_z}
use Rattle.fr_base.specs.Within.{IsWithin}
use Rattle.fr_time.specs.Position.{floor_of}
use Rattle.fr_course.proofs.Counts.{values_fit, values_near}
use Rattle.fr_course.proofs.Fits.{between_near, fits}
use Rattle.fr_course.proofs.measuring.values_from.Goals as goal

value_lem : (c : goal.After-floor) → c.floor.result ≡ floor_of c.args.ticks c.outer_measure.result
value_lem c =
    let ticks : FitsSigned w128 c.args.ticks = values_fit c.requires.ticks in
    let micro : FitsSigned w128 c.outer_measure.result = fits (record { le = tt }) (between_near {least = pos 998_500} (record { le = tt }) (record { le = tt }) c.outer_measure.ensures.within) in
    simp to_z-of_z at c.floor.ensures

near_lem : (c : goal.After-floor) → IsWithin (pos 21_000_000_000_000) c.floor.result
near_lem c =
    subst (IsWithin (pos 21_000_000_000_000)) (sym (value_lem c)) (values_near c.args.ticks c.outer_measure.result c.outer_measure.ensures.within c.requires.ticks)

pub returns-clause-value : goal.returns-clause-value
returns-clause-value c =
    let r : FitsSigned w128 c.floor.result = fits (record { le = tt }) (near_lem c) in
    let ticks : FitsSigned w128 c.args.ticks = values_fit c.requires.ticks in
    let micro : c.outer_measure.result ≡ if int_lt c.args.ticks (pos 0) then c.args.measuring.now.shortest else c.args.measuring.now.longest = simp to_z-of_z at c.outer_measure.ensures.value in
    simp to_z-of_z (rw (value_lem c, micro) refl)

pub returns-clause-within : goal.returns-clause-within
returns-clause-within c =
    let r : FitsSigned w128 c.floor.result = fits (record { le = tt }) (near_lem c) in
    simp to_z-of_z (near_lem c)
