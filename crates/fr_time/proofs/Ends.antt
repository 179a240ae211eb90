-- Where a cycle ends, and how long it is.
use Rattle.std.proofs.Common.{◌≡◌, ℤ, pos, Bool, true, false, ◌⊎◌, inl, inr, refl, ap, ◌∙◌, arith}
use Rattle.std.specs.Prelude.{◌≤ℤ◌, ◌<ℤ◌, ◌+ℤ◌, ◌-ℤ◌, ◌*ℤ◌, int_lt}
use Rattle.std.proofs.lemmas.Int.{ints}
use Rattle.fr_base.specs.declared.node_row.NodeRow.{NodeRow}
use Rattle.fr_time.specs.declared.grid.Grid.{Grid}
use Rattle.fr_time.specs.Instant.{instant_of, next_start_of}
use Rattle.fr_time.specs.Position.{corrected_micros, corrected_position, even_position, floor_of, position_of, IsPlaceable}
use Rattle.fr_time.proofs.Floors.{share_le, share_of_all, share_of_none}

-- something is left where the offset correction starts
pub corrected_micros_from : (grid : Grid) (rate offset : ℤ) → IsPlaceable grid rate offset → pos 0 ≤ℤ corrected_micros grid rate offset
corrected_micros_from grid rate offset can =
    let Before : ℤ = even_position grid rate grid.correction in
    let reaches : Before ≤ℤ (grid.micros +ℤ rate +ℤ offset) = can.reaches_correction in
    omega (arith, ints, reaches)

-- from the start of the offset correction on, no macrotick lies after the end of the cycle
pub corrected_position_le :
    (grid : Grid) (rate offset macrotick : ℤ) → IsPlaceable grid rate offset → grid.correction ≤ℤ macrotick → macrotick ≤ℤ grid.macros
    → corrected_position grid rate offset macrotick ≤ℤ (grid.micros +ℤ rate +ℤ offset)
corrected_position_le grid rate offset macrotick can from to =
    let left = corrected_micros grid rate offset in
    let share : floor_of ((macrotick -ℤ grid.correction) *ℤ left) (grid.macros -ℤ grid.correction) ≤ℤ left =
    share_le (macrotick -ℤ grid.correction) left (grid.macros -ℤ grid.correction) (omega (arith, ints, from)) (omega (arith, ints, to)) (corrected_micros_from grid rate offset can) in
    omega (arith, ints, share)

pub even_end : (grid : Grid) (rate offset : ℤ) → IsPlaceable grid rate offset → position_of grid rate offset false grid.macros ≡ grid.micros +ℤ rate
even_end grid rate offset can =
    share_of_all (grid.micros +ℤ rate) grid.macros (omega (arith, ints, can.is_grid.correction_from, can.is_grid.correction_to)) (omega (arith, ints, can.is_grid.correction_from, can.is_grid.correction_to, can.micros_from))

pub int_lt_true : (a b : ℤ) → a <ℤ b → int_lt a b ≡ true
int_lt_true a b below = grind (arith, ints)

pub int_lt_false : (a b : ℤ) → b ≤ℤ a → int_lt a b ≡ false
int_lt_false a b above = grind (arith, ints)

-- where the cycle begins
even_start : (grid : Grid) (rate offset : ℤ) → IsPlaceable grid rate offset → even_position grid rate (pos 0) ≡ pos 0
even_start grid rate offset can =
    share_of_none (pos 0) (grid.micros +ℤ rate) grid.macros refl (omega (arith, ints, can.is_grid.correction_from, can.is_grid.correction_to)) (omega (arith, ints, can.is_grid.correction_from, can.is_grid.correction_to, can.micros_from))

pub start : (grid : Grid) (rate offset : ℤ) (odd : Bool) → IsPlaceable grid rate offset → position_of grid rate offset odd (pos 0) ≡ pos 0
start grid rate offset false can = even_start grid rate offset can
start grid rate offset true can = rw (int_lt_false grid.correction (pos 0) (omega (arith, ints, can.is_grid.correction_from))) (even_start grid rate offset can)

pub odd_end : (grid : Grid) (rate offset : ℤ) → IsPlaceable grid rate offset → position_of grid rate offset true grid.macros ≡ grid.micros +ℤ rate +ℤ offset
odd_end grid rate offset can =
    let left = corrected_micros grid rate offset in
    let whole : floor_of ((grid.macros -ℤ grid.correction) *ℤ left) (grid.macros -ℤ grid.correction) ≡ left =
    share_of_all left (grid.macros -ℤ grid.correction) (omega (arith, ints, can.is_grid.correction_to)) (corrected_micros_from grid rate offset can) in
    let last : corrected_position grid rate offset grid.macros ≡ grid.micros +ℤ rate +ℤ offset = omega (arith, ints, whole) in
    rw (int_lt_true grid.correction grid.macros can.is_grid.correction_to) last

-- where the offset correction starts
pub corrected_start :
    (grid : Grid) (rate offset : ℤ) → IsPlaceable grid rate offset → corrected_position grid rate offset grid.correction ≡ even_position grid rate grid.correction
corrected_start grid rate offset can =
    let left = corrected_micros grid rate offset in
    let none : floor_of ((grid.correction -ℤ grid.correction) *ℤ left) (grid.macros -ℤ grid.correction) ≡ pos 0 =
    share_of_none (grid.correction -ℤ grid.correction) left (grid.macros -ℤ grid.correction) (omega (arith, ints)) (omega (arith, ints, can.is_grid.correction_to)) (corrected_micros_from grid rate offset can) in
    omega (arith, ints, none)

pub next_start : (grid : Grid) (row : NodeRow) (odd : Bool) → IsPlaceable grid row.rate row.offset → (odd ≡ true) ⊎ (row.offset ≡ pos 0)
    → instant_of grid row odd grid.macros ≡ next_start_of grid row
next_start grid row true can which = ap (λ at. row.start +ℤ (at *ℤ row.length)) (odd_end grid row.rate row.offset can)
next_start grid row false can (inl odd) = absurd (cc)
next_start grid row false can (inr none) =
    let same : grid.micros +ℤ row.rate ≡ grid.micros +ℤ row.rate +ℤ row.offset = omega (arith, ints, none) in
    ap (λ at. row.start +ℤ (at *ℤ row.length)) (even_end grid row.rate row.offset can ∙ same)
