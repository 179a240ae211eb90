-- The macroticks of a cluster can be placed.
use Rattle.std.proofs.Common.{◌≡◌, ℕ, zero, suc, ℤ, pos, ◌+◌, ◌-◌, ◌*◌, ◌<◌, ◌≤◌, inl, inr, subst, sym, arith}
use Rattle.std.specs.Prelude.{◌≤ℤ◌, ◌<ℤ◌, ◌+ℤ◌, ◌*ℤ◌, neg_ℤ, nat_abs}
use Rattle.std.proofs.lemmas.Bool.{cases_lt}
use Rattle.std.proofs.lemmas.Int.{ints}
use Rattle.std.proofs.Math.Nat.{mul-add, mul-le-mul_left, mul-le-mul_right, suc-mul}
use Rattle.fr_cluster.specs.Values.{Values, amount}
use Rattle.fr_cluster.specs.Sane.{IsSane}
use Rattle.fr_cluster.specs.Constraints.{correction_macros, least_micros, static_macros}
use Rattle.fr_cluster.specs.declared.names.ParamName.TheVariants as name
use Rattle.fr_time.specs.Position.{floor_of, grid_for, CanPlace, IsGrid, IsPlaceable}
use Rattle.fr_time.specs.Slots.{action_point_of, slot_end_of, slot_start_of}
use Rattle.fr_time.proofs.Floors.{share_leaves}

within : (z : ℤ) (least greatest : ℕ) → pos least ≤ℤ z → z ≤ℤ pos greatest → (z ≡ pos (nat_abs z)) × (least ≤ nat_abs z) × (nat_abs z ≤ greatest)
within z least greatest from to = (omega (arith, ints), omega (arith, ints), omega (arith, ints))

pub is_grid_lem : (p : Values) → IsSane p → IsGrid (grid_for p)
is_grid_lem p sane =
    let macros = sane.ranges name.gMacroPerCycle in
    let micros = sane.ranges name.pMicroPerCycle in
    let correction = sane.ranges name.gOffsetCorrectionStart in
    let cycle = within p.macros 10 16000 macros.0 macros.1 in
    let start = within p.correction 1 15999 correction.0 correction.1 in
    record {
      correction_from = correction.0;
      correction_to = omega (arith, ints, cycle.0, start.0, sane.constraints.corrects_after.1);
      macros_to = macros.1;
      micros_to = micros.1;
    }

-- where so many macroticks of the correction and more fit into its microticks, a cycle has more microticks than macroticks
more_micros : (macros micros rest more : ℕ) → 1 ≤ more → 1 ≤ macros → macros * (rest + more) ≤ micros * rest → macros < micros
more_micros macros micros rest more some whole fits = elim (cases_lt macros micros) [
  | inl less ↦ less
  | inr other ↦
      let apart : macros * (rest + more) ≡ macros * rest + macros * more = mul-add macros rest more in
      let front : micros * rest ≤ macros * rest = mul-le-mul_right rest other in
      let back : macros * 1 ≤ macros * more = mul-le-mul_left macros some in
      absurd (omega (arith, apart, front, back))
]

-- the offset limit fits into a cycle of at least so many microticks as well
offset_fits : (macros least micros rest limit : ℕ) → least ≤ micros → macros * (rest + limit + 1) ≤ least * rest → macros * limit ≤ micros * rest
offset_fits macros least micros rest limit longer fits =
    let more : macros * limit ≤ macros * (rest + limit + 1) = mul-le-mul_left macros (omega arith) in
    let wider : least * rest ≤ micros * rest = mul-le-mul_right rest longer in
    omega (arith, more, wider, fits)

pub placeable_lem : (p : Values) (rate offset : ℤ) → IsSane p → neg_ℤ p.rate_limit ≤ℤ rate → rate ≤ℤ p.rate_limit → neg_ℤ p.offset_limit ≤ℤ offset → offset ≤ℤ p.offset_limit → IsPlaceable (grid_for p) rate offset
placeable_lem p rate offset sane rate_from rate_to offset_from offset_to =
    let f = amount p in
    let grid = is_grid_lem p sane in
    let macros_range = sane.ranges name.gMacroPerCycle in
    let micros_range = sane.ranges name.pMicroPerCycle in
    let correction_range = sane.ranges name.gOffsetCorrectionStart in
    let rate_range = sane.ranges name.pRateCorrectionOut in
    let offset_range = sane.ranges name.pOffsetCorrectionOut in
    let macros = within p.macros 10 16000 macros_range.0 macros_range.1 in
    let micros = within p.micros 10 640000 micros_range.0 micros_range.1 in
    let correction = within p.correction 1 15999 correction_range.0 correction_range.1 in
    let rate_limit = within p.rate_limit 1 2000 rate_range.0 rate_range.1 in
    let offset_limit = within p.offset_limit 1 16000 offset_range.0 offset_range.1 in
    let leaves = sane.constraints.leaves_microticks in
    let rest = correction_macros f in
    let regrouped : rest + f name.pOffsetCorrectionOut + 1 ≡ rest + (f name.pOffsetCorrectionOut + 1) = omega arith in
    let Fits : ℕ → Type 0 = λ macroticks. f name.gMacroPerCycle * macroticks ≤ least_micros f * rest in
    let more : f name.gMacroPerCycle < least_micros f =
    more_micros (f name.gMacroPerCycle) (least_micros f) rest (f name.pOffsetCorrectionOut + 1) (omega arith) (omega (arith, macros.1)) (subst Fits regrouped leaves) in
    let length = p.micros +ℤ rate in
    let shortest : pos (least_micros f) ≤ℤ length = omega (arith, ints, micros.0, rate_limit.0, rate_from, more) in
    let some : (length ≡ pos (nat_abs length)) × (least_micros f ≤ nat_abs length) = (omega (arith, ints, shortest), omega (arith, ints, shortest)) in
    let fits : f name.gMacroPerCycle * f name.pOffsetCorrectionOut ≤ nat_abs length * rest =
    offset_fits (f name.gMacroPerCycle) (least_micros f) (nat_abs length) rest (f name.pOffsetCorrectionOut) some.1 leaves in
    let reached : (floor_of (p.correction *ℤ length) p.macros +ℤ p.offset_limit) ≤ℤ length =
    share_leaves p.correction length p.macros p.offset_limit (omega (arith, ints, correction_range.0)) grid.correction_to (omega (arith, ints, shortest)) (omega (arith, ints, offset_range.0)) fits in
    record {
      is_grid = grid;
      micros_from = omega (arith, ints, macros.0, shortest, more);
      rate_from = omega (arith, ints, rate_from, rate_range.1);
      rate_to = omega (arith, ints, rate_to, rate_range.1);
      offset_from = omega (arith, ints, offset_from, offset_range.1);
      offset_to = omega (arith, ints, offset_to, offset_range.1);
      reaches_correction = omega (arith, ints, reached, offset_from);
    }

-- all terms within their limits can be placed, and no offset as well
pub can_place : (p : Values) → IsSane p → CanPlace p (grid_for p)
can_place p sane =
    let limit = sane.ranges name.pOffsetCorrectionOut in
    record {
      is_grid = is_grid_lem p sane;
      early = λ rate within_rate. placeable_lem p rate (pos 0) sane within_rate.low within_rate.high (omega (arith, ints, limit.0)) (omega (arith, ints, limit.0));
      terms = λ rate offset within_rate within_offset. placeable_lem p rate offset sane within_rate.low within_rate.high within_offset.low within_offset.high;
    }

-- the static slots end before the offset correction starts
pub slot_end_lt : (p : Values) (slot : ℕ) → IsSane p → slot ≤ amount p name.gNumberOfStaticSlots → slot_end_of p slot < amount p name.gOffsetCorrectionStart
slot_end_lt p slot sane static =
    let after = sane.constraints.corrects_after in
    let within : slot * amount p name.gdStaticSlot ≤ static_macros (amount p) = mul-le-mul_right (amount p name.gdStaticSlot) static in
    omega (arith, after, within)

-- the same with the sign of the parameter
pub before_correction : (p : Values) (slot : ℕ) → IsSane p → slot ≤ amount p name.gNumberOfStaticSlots → pos (slot_end_of p slot) <ℤ p.correction
before_correction p slot sane static =
    let range = sane.ranges name.gOffsetCorrectionStart in
    omega (arith, ints, slot_end_lt p slot sane static, range.0)

-- a slot has its length
pub slot_length : (slot length : ℕ) → 1 ≤ slot → (slot - 1) * length + length ≡ slot * length
slot_length zero length some = absurd (omega arith)
slot_length (suc slot) length some = let before : suc slot - 1 ≡ slot = omega arith in rw before (sym (suc-mul slot length))

pub slot_start_lt : (p : Values) (slot : ℕ) → IsSane p → 1 ≤ slot → slot_start_of p slot < action_point_of p slot
slot_start_lt p slot sane some = let range = sane.ranges name.gdActionPointOffset in omega (arith, ints, range.0)

-- a node sends before its slot ends
pub action_point_lt : (p : Values) (slot : ℕ) → IsSane p → 1 ≤ slot → action_point_of p slot < slot_end_of p slot
action_point_lt p slot sane some = omega (arith, slot_length slot (amount p name.gdStaticSlot) some, sane.constraints.acts_in_slot)
