-- No cycle is shorter than no microtick.
use Rattle.std.proofs.Common.{ℤ, pos, negsuc, arith}
use Rattle.std.specs.Prelude.{◌≤ℤ◌, ◌<ℤ◌, ◌+ℤ◌, ◌*ℤ◌}
use Rattle.std.proofs.lemmas.Int.{ints}
use Rattle.fr_base.proofs.Products.{product_from}
use Rattle.fr_cluster.specs.Values.{Values}
use Rattle.fr_time.specs.Position.{even_position, floor_of, grid_for, IsPlaceable}

pub floor_from : (a b : ℤ) → pos 0 ≤ℤ a → pos 1 ≤ℤ b → pos 0 ≤ℤ floor_of a b
floor_from (pos a) (pos b) from some = omega (arith, ints)
floor_from (negsuc a) b from some = absurd (omega (arith, ints))
floor_from (pos a) (negsuc b) from some = absurd (omega (arith, ints))

-- a cycle has microticks left where its offset correction starts, and so has no fewer than none
pub cycle_from : (p : Values) (rate offset : ℤ) → IsPlaceable (grid_for p) rate offset → pos 0 ≤ℤ (p.micros +ℤ rate +ℤ offset)
cycle_from p rate offset can =
    let correction : pos 1 ≤ℤ p.correction = can.is_grid.correction_from in
    let macros : p.correction <ℤ p.macros = can.is_grid.correction_to in
    let length : pos 0 ≤ℤ (p.micros +ℤ rate) = omega (arith, ints, can.micros_from, correction, macros) in
    let count : pos 0 ≤ℤ (p.correction *ℤ (p.micros +ℤ rate)) = product_from p.correction (p.micros +ℤ rate) (omega (arith, ints, correction)) length in
    let before : pos 0 ≤ℤ even_position (grid_for p) rate p.correction = floor_from (p.correction *ℤ (p.micros +ℤ rate)) p.macros count (omega (arith, ints, correction, macros)) in
    let reaches : even_position (grid_for p) rate p.correction ≤ℤ (p.micros +ℤ rate +ℤ offset) = can.reaches_correction in
    last (even_position (grid_for p) rate p.correction) (p.micros +ℤ rate +ℤ offset) before reaches
  where
    last : (a b : ℤ) → pos 0 ≤ℤ a → a ≤ℤ b → pos 0 ≤ℤ b
    last a b from to = omega (arith, ints)
