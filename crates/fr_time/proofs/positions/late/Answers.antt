use Rattle.std.proofs.Common.{◌≡◌, FitsSigned, w64, arith}
use Rattle.std.specs.Prelude.{◌-ℤ◌, ◌*ℤ◌}
use Rattle.std.proofs.lemmas.Int.{ints, to_z-of_z}
use Rattle.fr_time.specs.Position.{floor_of}
use Rattle.fr_time.proofs.positions.late.Goals as goal

pub share-requires-clause-count : goal.share-requires-clause-count
share-requires-clause-count c =
    let grid = c.requires.grid in
    record {
      low = omega (arith, ints, grid.correction_from, grid.correction_to, grid.macros_to);
      high = omega (arith, ints, grid.correction_from, grid.correction_to, grid.macros_to);
    }

pub share-requires-clause-parts : goal.share-requires-clause-parts
share-requires-clause-parts c =
    let grid = c.requires.grid in
    record {
      low = omega (arith, ints, grid.correction_from, grid.correction_to, grid.macros_to);
      high = omega (arith, ints, grid.correction_from, grid.correction_to, grid.macros_to);
    }

pub returns-clause-value : goal.returns-clause-value
returns-clause-value c =
    let grid = c.requires.grid in
    let macrotick : FitsSigned w64 c.args.macrotick = c.ranges.macrotick in
    let length : FitsSigned w64 c.args.length = c.ranges.length in
    let macros : FitsSigned w64 c.args.grid.now.macros = omega (arith, ints, grid.correction_from, grid.correction_to, grid.macros_to) in
    let correction : FitsSigned w64 c.args.grid.now.correction = omega (arith, ints, grid.correction_from, grid.correction_to, grid.macros_to) in
    let count : FitsSigned w64 (c.args.macrotick -ℤ c.args.grid.now.correction) = omega (arith, ints, grid.correction_from, grid.correction_to, grid.macros_to) in
    let parts : FitsSigned w64 (c.args.grid.now.macros -ℤ c.args.grid.now.correction) = omega (arith, ints, grid.correction_from, grid.correction_to, grid.macros_to) in
    let share : c.share.result ≡ floor_of ((c.args.macrotick -ℤ c.args.grid.now.correction) *ℤ c.args.length) (c.args.grid.now.macros -ℤ c.args.grid.now.correction) =
    simp to_z-of_z at c.share.ensures.value in
    omega (arith, ints, share, c.share.ensures.low, c.share.ensures.high)
