use Rattle.std.proofs.Common.{FitsSigned, ℤ, pos, w32, w64, subst, sym, arith}
use Rattle.std.specs.Prelude.{◌≤ℤ◌, ◌+ℤ◌, ◌-ℤ◌}
use Rattle.std.proofs.lemmas.Int.{ints, to_z-of_z}
use Rattle.fr_time.specs.Position.{corrected_micros}
use Rattle.fr_time.proofs.positions.left.Goals as goal

pub returns-clause-value : goal.returns-clause-value
returns-clause-value c =
    let can = c.requires.placeable in
    let rate : FitsSigned w32 c.args.rate = c.ranges.rate in
    let offset : FitsSigned w32 c.args.offset = c.ranges.offset in
    let rate64 : FitsSigned w64 c.args.rate = omega (arith, ints, can.rate_from, can.rate_to) in
    let offset64 : FitsSigned w64 c.args.offset = omega (arith, ints, can.offset_from, can.offset_to) in
    let micros64 : FitsSigned w64 c.args.grid.now.micros = omega (arith, ints, can.is_grid.correction_from, can.is_grid.correction_to, can.is_grid.micros_to, can.micros_from, can.rate_to) in
    let start64 : FitsSigned w64 c.args.start = c.ranges.start in
    let early64 : FitsSigned w64 (c.args.grid.now.micros +ℤ c.args.rate) = omega (arith, ints, can.is_grid.correction_from, can.is_grid.correction_to, can.is_grid.micros_to, can.micros_from, can.rate_to) in
    let both64 : FitsSigned w64 (c.args.grid.now.micros +ℤ c.args.rate +ℤ c.args.offset) = omega (arith, ints, can.is_grid.correction_from, can.is_grid.correction_to, can.is_grid.micros_to, can.micros_from, can.rate_to, can.offset_from, can.offset_to) in
    let rest64 : FitsSigned w64 ((c.args.grid.now.micros +ℤ c.args.rate +ℤ c.args.offset) -ℤ c.args.start) = omega (arith, ints, can.is_grid.correction_from, can.is_grid.correction_to, can.is_grid.micros_to, can.micros_from, can.rate_to, can.offset_from, can.offset_to, can.reaches_correction, c.requires.start) in
    simp to_z-of_z (omega (arith, ints, c.requires.start))

pub returns-clause-within : goal.returns-clause-within
returns-clause-within c =
    let can = c.requires.placeable in
    let rest : ℤ = corrected_micros c.args.grid.now c.args.rate c.args.offset in
    let value = returns-clause-value c in
    let low : pos 0 ≤ℤ rest = omega (arith, ints, can.reaches_correction) in
    let high : rest ≤ℤ pos 660_000 = omega (arith, ints, can.is_grid.micros_to, can.rate_to, can.offset_to, c.requires.start, c.requires.start_from) in
    record {
      low = subst (λ (z : ℤ). pos 0 ≤ℤ z) (sym value) low;
      high = subst (λ (z : ℤ). z ≤ℤ pos 660_000) (sym value) high;
    }
