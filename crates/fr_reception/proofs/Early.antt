-- The static slots lie before the offset correction.
use Rattle.std.proofs.Common.{◌≡◌, ℕ, ℤ, pos, ◌<◌, ◌≤◌, Bool, false, ◌&&◌, ap, arith}
use Rattle.std.specs.Prelude.{◌≤ℤ◌, ◌+ℤ◌, ◌*ℤ◌, int_lt, nat_abs}
use Rattle.std.proofs.lemmas.Bool.{cond-false, and_right}
use Rattle.std.proofs.lemmas.Int.{ints}
use Rattle.fr_base.specs.declared.node_row.NodeRow.{NodeRow}
use Rattle.fr_cluster.specs.Values.{Values, amount}
use Rattle.fr_cluster.specs.Sane.{IsSane}
use Rattle.fr_cluster.specs.declared.names.ParamName.TheVariants as name
use Rattle.fr_time.specs.Instant.{early_instant, instant_of}
use Rattle.fr_time.specs.Position.{grid_for, even_position, corrected_position, position_of}
use Rattle.fr_time.specs.Slots.{slot_end_of}
use Rattle.fr_time.proofs.Placing.{slot_end_lt}

not_after : (correction : ℤ) (macrotick : ℕ) → pos 0 ≤ℤ correction → macrotick < nat_abs correction → int_lt correction (pos macrotick) ≡ false
not_after correction macrotick from before = grind (arith, ints)

pub early : (p : Values) (row : NodeRow) (odd : Bool) (slot macrotick : ℕ) → IsSane p → slot ≤ amount p name.gNumberOfStaticSlots → macrotick ≤ slot_end_of p slot →
    instant_of (grid_for p) row odd (pos macrotick) ≡ early_instant p row macrotick
early p row odd slot macrotick sane static within =
    let before : slot_end_of p slot < nat_abs p.correction = slot_end_lt p slot sane static in
    let from : pos 0 ≤ℤ p.correction = omega (arith, ints, (sane.ranges name.gOffsetCorrectionStart).0) in
    let test : int_lt p.correction (pos macrotick) ≡ false = not_after p.correction macrotick from (omega (arith, before, within)) in
    let place : position_of (grid_for p) row.rate row.offset odd (pos macrotick) ≡ even_position (grid_for p) row.rate (pos macrotick) =
    cond-false (odd && int_lt p.correction (pos macrotick)) (corrected_position (grid_for p) row.rate row.offset (pos macrotick)) (even_position (grid_for p) row.rate (pos macrotick)) (and_right odd (int_lt p.correction (pos macrotick)) test) in
    ap (λ (x : ℤ). row.start +ℤ (x *ℤ row.length)) place
