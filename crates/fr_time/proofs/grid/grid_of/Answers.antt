use Rattle.std.proofs.Common.{◌≡◌, FitsSigned, w64, arith}
use mir.Val.{to_z, of_z}
use Rattle.std.proofs.lemmas.Int.{ints, to_z-of_z}
use Rattle.fr_cluster.specs.View.{values_of_params}
use Rattle.fr_cluster.specs.declared.names.ParamName.TheVariants as name
use Rattle.fr_time.proofs.Placing.{is_grid_lem, can_place}
use Rattle.fr_time.proofs.grid.grid_of.Goals as goal

pub returns-clause-placeable : goal.returns-clause-placeable
returns-clause-placeable c =
    let grid = is_grid_lem (values_of_params c.params.inside) c.params.invariant in
    let micros = c.params.invariant.ranges name.pMicroPerCycle in
    let macros_fits : FitsSigned w64 c.params.inside.macros = omega (arith, ints, grid.correction_from, grid.correction_to, grid.macros_to) in
    let micros_fits : FitsSigned w64 c.params.inside.micros = omega (arith, ints, micros.0, micros.1) in
    let correction_fits : FitsSigned w64 c.params.inside.correction = omega (arith, ints, grid.correction_from, grid.correction_to, grid.macros_to) in
    let macros_is : to_z w64 (of_z w64 c.params.inside.macros) ≡ c.params.inside.macros = to_z-of_z w64 c.params.inside.macros macros_fits in
    let micros_is : to_z w64 (of_z w64 c.params.inside.micros) ≡ c.params.inside.micros = to_z-of_z w64 c.params.inside.micros micros_fits in
    let correction_is : to_z w64 (of_z w64 c.params.inside.correction) ≡ c.params.inside.correction = to_z-of_z w64 c.params.inside.correction correction_fits in
    rw (← c.params.view_is, macros_is, micros_is, correction_is) (can_place (values_of_params c.params.inside) c.params.invariant)
