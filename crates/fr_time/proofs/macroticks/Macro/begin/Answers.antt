use Rattle.std.proofs.Common.{◌≡◌, FitsSigned, pos, ap, w32, w64, arith}
use Rattle.std.proofs.lemmas.Int.{ints, to_z-of_z}
use Rattle.fr_time.specs.Counted.{IsCounted}
use Rattle.fr_time.specs.Position.{corrected_micros, even_position}
use Rattle.fr_time.specs.Walk.{first_walk, IsWalk, Walk}
use Rattle.fr_time.proofs.macroticks.Macro.begin.Goals as goal

pub invariant_of-result : goal.invariant_of-result
invariant_of-result c =
    let grid = c.args.grid.now in
    let can = c.requires in
    let rate : FitsSigned w32 c.args.rate = c.ranges.rate in
    let offset : FitsSigned w32 c.args.offset = c.ranges.offset in
    let correction : FitsSigned w64 grid.correction = omega (arith, ints, can.is_grid.correction_from, can.is_grid.correction_to, can.is_grid.macros_to) in
    let start_fits : FitsSigned w64 c.even-start.result = omega (arith, ints, c.even-start.ensures.within.low, c.even-start.ensures.within.high) in
    let start : c.even-start.result ≡ even_position grid c.args.rate grid.correction = simp to_z-of_z at c.even-start.ensures.value in
    let left : pos c.late_share.result.length ≡ corrected_micros grid c.args.rate c.args.offset = simp to_z-of_z at c.late_share.ensures.length in
    let walk : Walk = first_walk grid c.args.rate c.args.offset c.args.odd in
    let begun : IsWalk walk = record {
      is_placeable = can;
      next_within = record { low = omega (arith, ints); high = omega (arith, ints, can.is_grid.correction_from, can.is_grid.correction_to) };
    } in
    let counted : IsCounted walk c.even-start.result c.early_share.result c.late_share.result = record {
      start_is = start;
      start_within = record { low = omega (arith, ints, c.even-start.ensures.within.low); high = omega (arith, ints, c.even-start.ensures.within.high) };
      early_length = omega (arith, ints, c.early_share.ensures.length, can.rate_from, can.rate_to);
      early_parts = c.early_share.ensures.parts;
      late_length = left;
      late_parts = c.late_share.ensures.parts;
      early_count = λ which. ap pos c.early_share.ensures.count;
      late_none = λ below. c.late_share.ensures.count;
      late_count = λ odd from. absurd (omega (arith, ints, from, can.is_grid.correction_from));
    } in
    rw (to_z-of_z w32 c.args.rate rate, to_z-of_z w32 c.args.offset offset, to_z-of_z w64 c.even-start.result start_fits) (begun, counted)
