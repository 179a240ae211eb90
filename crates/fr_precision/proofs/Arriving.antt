-- Two frames of a sender that arrive within their slots are counted as a steady pair.
use Rattle.std.proofs.Common.{ℕ, ◌<◌, false, ℤ, pos, refl, arith}
use Rattle.std.specs.Prelude.{◌+ℤ◌, ◌-ℤ◌, ◌*ℤ◌, ◌≤ℤ◌, ◌<ℤ◌}
use Rattle.std.proofs.lemmas.Int.{ints}
use Rattle.fr_base.specs.declared.node_row.NodeRow.{NodeRow}
use Rattle.fr_cluster.specs.Values.{Values}
use Rattle.fr_midpoint.proofs.Products.{lez_of_mulz-lez}
use Rattle.fr_time.specs.Position.{even_position, floor_of, grid_for}
use Rattle.fr_time.specs.Instant.{instant_of}
use Rattle.fr_time.specs.Slots.{action_point_of, slot_end_of}
use Rattle.fr_time.proofs.Floors.{share_le}
use Rattle.fr_time.proofs.Lines.{rest_of}
use Rattle.fr_time.proofs.Placing.{action_point_lt, is_grid_lem}
use Rattle.fr_precision.proofs.DeviationLaws.{counted_is_deviation}
use Rattle.fr_precision.proofs.OffsetLaws.{deviation_within, micro_lasts}
use Rattle.fr_precision.proofs.ReceptionLaws.{arrives_in_slot, ends_before}
use Rattle.fr_precision.specs.Deviations.{counted_of}
use Rattle.fr_precision.specs.Steady.{FramesAreSteady}
use Rattle.fr_precision.proofs.Signed.{signed_of}
use Rattle.fr_precision.proofs.SteadyLemmas.{counted_are_steady, regularly}

-- an arrival before a macrotick of the even cycle comes after no more whole microticks than the cycle has
counted_in_cycle : (p : Values) (row : NodeRow) (macrotick arrival whole : ℤ) → pos 0 <ℤ row.length
    → even_position (grid_for p) row.rate macrotick ≤ℤ whole → arrival <ℤ (row.start +ℤ (even_position (grid_for p) row.rate macrotick *ℤ row.length))
    → floor_of (arrival -ℤ row.start) row.length ≤ℤ whole
counted_in_cycle p row macrotick arrival whole lasts within before =
    let rest = rest_of (arrival -ℤ row.start) row.length lasts in
    let place = even_position (grid_for p) row.rate macrotick in
    let f = floor_of (arrival -ℤ row.start) row.length in
    along f place whole (lez_of_mulz-lez f place row.length lasts (step arrival row.start (f *ℤ row.length) (place *ℤ row.length) rest.from before)) within
  where
    step : (a s f e : ℤ) → pos 0 ≤ℤ ((a -ℤ s) -ℤ f) → a <ℤ (s +ℤ e) → f ≤ℤ e
    step a s f e h k = omega (arith, ints)

    along : (a b c : ℤ) → a ≤ℤ b → b ≤ℤ c → a ≤ℤ c
    along a b c h k = omega (arith, ints)

pub frames_are_steady : FramesAreSteady
frames_are_steady p flutter slot ch even odd other_even other_odd delay other_delay reach sane room suffices regular some static near is_delay flutters =
    let grid = is_grid_lem p sane in
    let s = signed_of p sane in
    let action = pos (action_point_of p slot) in
    let end = pos (slot_end_of p slot) in
    let acts : action ≤ℤ p.correction = sooner (action_point_of p slot) (slot_end_of p slot) p.correction (action_point_lt p slot sane some) (ends_before p slot sane static) in
    let r = regularly p even odd action sane regular (no_less (action_point_of p slot)) acts in
    let whole = p.micros +ℤ even.rate in
    let arrival = instant_of (grid_for p) other_even false action +ℤ delay in
    let in_slot = arrives_in_slot p reach delay slot ch false even other_even sane room some static regular.rate_within regular.even_micro.least near is_delay in
    let ends : even_position (grid_for p) even.rate end ≤ℤ whole =
    share_le end whole p.macros (no_less (slot_end_of p slot)) (in_cycle end p.correction p.macros (ends_before p slot sane static) grid.correction_to) r.whole_from in
    let counted = counted_in_cycle p even end arrival whole (micro_lasts p even sane regular.even_micro).some ends in_slot.1 in
    counted_are_steady p flutter slot ch (record { even = other_even; odd = other_odd; action = action }) even odd delay other_delay sane regular refl acts flutters
    (more (floor_of (arrival -ℤ even.start) even.length) whole p.offset_limit s.oo_from counted)
    (
    deviation_within p reach false action even other_even (counted_of p even slot ch arrival) sane suffices regular.even_micro near
    (counted_is_deviation p delay slot ch false even other_even sane static some regular.even_micro is_delay)
    )
  where
    no_less : (n : ℕ) → pos 0 ≤ℤ pos n
    no_less n = omega (arith, ints)

    sooner : (a hi : ℕ) (o : ℤ) → a < hi → pos hi ≤ℤ o → pos a ≤ℤ o
    sooner a hi o less le = omega (arith, ints)

    in_cycle : (m o g : ℤ) → m ≤ℤ o → o <ℤ g → m ≤ℤ g
    in_cycle m o g a b = omega (arith, ints)

    more : (f whole oo : ℤ) → pos 0 ≤ℤ oo → f ≤ℤ whole → f ≤ℤ (whole +ℤ oo)
    more f whole oo from le = omega (arith, ints)
