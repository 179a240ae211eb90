use Rattle.std.proofs.Common.{◌≡◌, FitsSigned, w32, w64, arith, rules}
use Rattle.std.specs.Prelude.{◌+ℤ◌, ◌-ℤ◌, ◌*ℤ◌}
use Rattle.std.proofs.lemmas.Int.{ints, to_z-of_z}
use Rattle.fr_time.specs.Position.{corrected_micros, corrected_position, even_position, floor_of}
use Rattle.fr_time.proofs.Ends.{corrected_position_le}
use Rattle.fr_time.proofs.positions.corrected.Goals as goal

-- what the calls answer, without the conversions of their arguments
value_lem : (c : goal.After-late) → c.even-start.result +ℤ c.late.result ≡ corrected_position c.args.grid.now c.args.rate c.args.offset c.args.macrotick
value_lem c =
    let grid = c.requires.placeable.is_grid in
    let rate : FitsSigned w32 c.args.rate = c.ranges.rate in
    let offset : FitsSigned w32 c.args.offset = c.ranges.offset in
    let macrotick : FitsSigned w64 c.args.macrotick = c.ranges.macrotick in
    let start_fits : FitsSigned w64 c.even-start.result = search rules in
    let correction : FitsSigned w64 c.args.grid.now.correction = omega (arith, ints, grid.correction_from, grid.correction_to, grid.macros_to) in
    let left_fits : FitsSigned w64 c.left-length.result = search rules in
    let start : c.even-start.result ≡ even_position c.args.grid.now c.args.rate c.args.grid.now.correction = simp to_z-of_z at c.even-start.ensures.value in
    let left : c.left-length.result ≡ corrected_micros c.args.grid.now c.args.rate c.args.offset = simp to_z-of_z at c.left-length.ensures.value in
    let late : c.late.result ≡ floor_of ((c.args.macrotick -ℤ c.args.grid.now.correction) *ℤ c.left-length.result) (c.args.grid.now.macros -ℤ c.args.grid.now.correction) =
    simp to_z-of_z at c.late.ensures.value in
    let whole : c.late.result ≡ floor_of ((c.args.macrotick -ℤ c.args.grid.now.correction) *ℤ corrected_micros c.args.grid.now c.args.rate c.args.offset) (c.args.grid.now.macros -ℤ c.args.grid.now.correction) =
    rw left at late in
    cc

pub returns-clause-value : goal.returns-clause-value
returns-clause-value c = let value = value_lem c in omega (arith, ints, value)

pub returns-clause-within : goal.returns-clause-within
returns-clause-within c =
    let can = c.requires.placeable in
    let within = corrected_position_le c.args.grid.now c.args.rate c.args.offset c.args.macrotick can c.requires.macrotick.low c.requires.macrotick.high in
    record {
      low = omega (arith, ints);
      high = omega (arith, ints, value_lem c, within, can.is_grid.micros_to, can.rate_to, can.offset_to);
    }
