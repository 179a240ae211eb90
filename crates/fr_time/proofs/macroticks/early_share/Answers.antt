use Rattle.std.proofs.Common.{arith}
use Rattle.std.proofs.lemmas.Int.{ints}
use Rattle.fr_time.proofs.macroticks.early_share.Goals as goal

pub returns-clause-length : goal.returns-clause-length
returns-clause-length c =
    let can = c.requires in
    omega (arith, ints, c.none.ensures.length, can.is_grid.correction_from, can.is_grid.correction_to, can.is_grid.macros_to, can.is_grid.micros_to, can.micros_from, can.rate_from, can.rate_to)
