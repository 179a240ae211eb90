use Rattle.std.proofs.Common.{◌≡◌, ◌∙◌, FitsSigned, pos, w32, w64, arith}
use Rattle.std.proofs.lemmas.Int.{ints, to_z-of_z}
use Rattle.fr_time.specs.Position.{corrected_micros}
use Rattle.fr_time.proofs.macroticks.late_length.Goals as goal

pub returns-clause-value : goal.returns-clause-value
returns-clause-value c =
    let rate : FitsSigned w32 c.args.rate = c.ranges.rate in
    let offset : FitsSigned w32 c.args.offset = c.ranges.offset in
    let start : FitsSigned w64 c.args.start = c.ranges.start in
    let left : c.left.result ≡ corrected_micros c.args.grid.now c.args.rate c.args.offset = simp to_z-of_z at c.left.ensures.value in
    omega (arith, ints, left, c.left.ensures.within.low, c.left.ensures.within.high)
