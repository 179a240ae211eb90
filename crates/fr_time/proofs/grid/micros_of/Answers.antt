use Rattle.std.proofs.Common.{◌≡◌, ap, arith}
use Rattle.std.proofs.lemmas.Int.{ints}
use Rattle.fr_time.specs.declared.grid.Grid.{Grid}
use Rattle.fr_time.proofs.grid.micros_of.Goals as goal

pub overflow_cast-result-2 : goal.overflow_cast-result-2
overflow_cast-result-2 c =
    let can = c.grid_of.ensures.placeable.early c.args.row.now.rate c.requires in
    omega (arith, ints, can.is_grid.correction_from, can.is_grid.correction_to, can.is_grid.micros_to, can.micros_from, can.rate_from, can.rate_to)

pub returns-clause-value : goal.returns-clause-value
returns-clause-value c =
    let can = c.grid_of.ensures.placeable.early c.args.row.now.rate c.requires in
    let micros : c.grid_of.result.micros ≡ c.args.params.now.micros = ap (λ (g : Grid). g.micros) c.grid_of.ensures.value in
    omega (arith, ints, micros, can.is_grid.correction_from, can.is_grid.correction_to, can.is_grid.micros_to, can.micros_from, can.rate_from, can.rate_to)

pub returns-clause-most : goal.returns-clause-most
returns-clause-most c =
    let can = c.grid_of.ensures.placeable.early c.args.row.now.rate c.requires in
    omega (arith, ints, can.is_grid.correction_from, can.is_grid.correction_to, can.is_grid.micros_to, can.micros_from, can.rate_from, can.rate_to)
