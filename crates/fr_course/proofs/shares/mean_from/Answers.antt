use Rattle.std.proofs.Common.{◌≡◌, FitsSigned, pos, refl, subst, sym, rules}
use Rattle.std.specs.Prelude.{◌+ℤ◌, ◌-ℤ◌, ◌*ℤ◌}
use mir.Syntax.{w128}
use Rattle.std.proofs.lemmas.Int.{to_z-of_z}
use Rattle.fr_base.specs.Within.{IsWithin}
use Rattle.fr_time.specs.Position.{floor_of}
use Rattle.fr_course.proofs.Counted.{counted_near, macros_between}
use Rattle.fr_course.proofs.Fits.{between_near, fits}
use Rattle.fr_course.proofs.Limits.{floor_within}
use Rattle.fr_course.proofs.Numbers.{macros_are, scale_is}
use Rattle.fr_course.proofs.shares.mean_from.Goals as goal

value_lem : (c : goal.After-floor) → c.floor.result ≡ floor_of c.weighed.result c.args.scale.now.macros
value_lem c =
    let w : FitsSigned w128 c.weighed.result = search rules in
    let macros : FitsSigned w128 c.args.scale.now.macros = fits (record { le = tt }) (between_near {least = pos 1} (record { le = tt }) (record { le = tt }) (macros_between (scale_is c.scale.view_is c.scale.invariant))) in
    simp (to_z-of_z, macros_are c.scale.view_is) at c.floor.ensures

near_lem : (c : goal.After-floor) → IsWithin (pos 1_900_000_000_000_000_000) c.floor.result
near_lem c = subst (IsWithin (pos 1_900_000_000_000_000_000)) (sym (value_lem c)) (floor_within c.weighed.result c.args.scale.now.macros (pos 1_900_000_000_000_000_000) (scale_is c.scale.view_is c.scale.invariant).macros_from c.weighed.ensures.within)

pub returns-clause-value : goal.returns-clause-value
returns-clause-value c =
    let r : FitsSigned w128 c.floor.result = fits (record { le = tt }) (near_lem c) in
    let before : FitsSigned w128 c.args.before = fits (record { le = tt }) (counted_near c.requires.before (scale_is c.scale.view_is c.scale.invariant).macros_to) in
    let first : FitsSigned w128 c.args.first = fits (record { le = tt }) c.requires.first in
    let second : FitsSigned w128 c.args.second = fits (record { le = tt }) c.requires.second in
    let point : c.weighed.result ≡ (c.args.before *ℤ c.args.first) +ℤ ((c.args.scale.now.macros -ℤ c.args.before) *ℤ c.args.second) = simp to_z-of_z at c.weighed.ensures.value in
    simp to_z-of_z (rw (value_lem c, point) refl)

pub returns-clause-within : goal.returns-clause-within
returns-clause-within c =
    let r : FitsSigned w128 c.floor.result = fits (record { le = tt }) (near_lem c) in
    simp to_z-of_z (near_lem c)
