-- The first start of a node that begins to follow.
use Rattle.std.proofs.Common.{◌≡◌, ℕ, ◌+◌, ◌*◌, ◌≤◌, true, false, ℤ, pos, refl, ap, ◌∙◌, arith}
use Rattle.std.specs.Prelude.{neg_ℤ, ◌+ℤ◌, ◌-ℤ◌, ◌*ℤ◌, ◌≤ℤ◌, ◌<ℤ◌, ◌-◌}
use Rattle.std.proofs.Math.Nat.{mul-le-mul_right}
use Rattle.std.proofs.lemmas.Int.{ints}
use Rattle.fr_base.specs.Within.{IsWithin}
use Rattle.fr_base.specs.declared.node_row.NodeRow.{NodeRow}
use Rattle.fr_base.specs.declared.state.State.TheVariants.{Active}
use Rattle.fr_cluster.specs.Values.{Values, amount}
use Rattle.fr_cluster.specs.Sane.{IsSane}
use Rattle.fr_cluster.specs.Constraints.{correction_macros, least_micros}
use Rattle.fr_cluster.specs.Questions.{compensation_of}
use Rattle.fr_cluster.specs.declared.names.ParamName.TheVariants as name
use Rattle.fr_midpoint.proofs.Products.{mulz-subz, mulz_within, subz-mulz}
use Rattle.fr_time.specs.Position.{grid_for}
use Rattle.fr_time.specs.Instant.{instant_of}
use Rattle.fr_time.specs.Slots.{action_point_of}
use Rattle.fr_time.proofs.Placing.{is_grid_lem}
use Rattle.fr_reception.specs.Listening.{Caught, caught_micros, caught_position, first_rate_of, first_start_of}
use Rattle.fr_bound.specs.Bounds.{arrival_error, follower_error, longest_micro, nominal, reach_of, shortest_micro, widest}
use Rattle.fr_bound.specs.Checks.{left_of, right_of}
use Rattle.fr_bound.specs.Sync.{cycle_length_of}
use Rattle.fr_bound.proofs.Uncut.{uncut_lem}
use Rattle.fr_precision.specs.Rows.{shortest_cycle, HasProperMicro}
use Rattle.fr_precision.proofs.DeviationLaws.{compensation_within, micro_within}
use Rattle.fr_precision.proofs.InstantLaws.{early_on_line, even_on_line, odd_start_is}
use Rattle.fr_time.proofs.Lines.{lines_end}
use Rattle.fr_precision.proofs.OffsetLaws.{micro_lasts}
use Rattle.fr_precision.proofs.PlacementLaws.{limit_below}
use Rattle.fr_runs.specs.Listening.{FirstStartIsNatural, FirstStartIsNear}
use Rattle.fr_runs.proofs.Listened.{acts_early, first_length_is, first_lengths_are_near, no_less, same_length}

-- a row of the listener that starts at 0, with its first rate
listening_row : Values → Caught → NodeRow
listening_row p c = record { node = 0; start = pos 0; length = c.odd_length; rate = first_rate_of p c; offset = pos 0; state = Active; cut = 0 }

-- behind an arrival, what is left of a cycle, less the compensation
behind : (late x s long at part whole ut un z : ℤ) (e u q more : ℕ) → z ≡ (whole -ℤ part) -ℤ ut → at ≡ pos 0 +ℤ part
    → IsWithin (pos e) ((late -ℤ x) -ℤ un) → IsWithin (pos u) (un -ℤ ut)
    → IsWithin (pos more +ℤ pos q) (((pos 0 +ℤ whole) -ℤ at) -ℤ ((s +ℤ long) -ℤ x))
    → IsWithin (pos ((e + u) + q + more)) ((late +ℤ z) -ℤ (s +ℤ long))
behind late x s long at part whole ut un z e u q more a b near wide left = record {
  low = omega (arith, ints, near.low, wide.low, left.low);
  high = omega (arith, ints, near.high, wide.high, left.high);
}

pub first_start_is_near : FirstStartIsNear
unfolding listening_row
first_start_is_near p c even odd sane suffices is =
    let action = pos (action_point_of p c.slot) in
    let row = listening_row p c in
    let own : HasProperMicro p row = record { least = is.odd_least; most = is.odd_most } in
    let acts = acts_early p c even odd sane is in
    let grid = is_grid_lem p sane in
    let some : pos 0 <ℤ p.macros = omega (arith, ints, grid.correction_from, grid.correction_to) in
    let u = compensation_of p c.channel in
    let t = c.odd_length in
    let whole = cycle_length_of p row in
    let part = caught_position p c *ℤ t in
    let at = instant_of (grid_for p) row false action in
    let x = instant_of (grid_for p) odd true action in
    let lengths : IsWithin (pos (follower_error p)) (whole -ℤ cycle_length_of p odd) =
    same_length (pos (follower_error p)) whole (caught_micros c *ℤ t) (cycle_length_of p odd) (first_length_is p c row refl)
    (first_lengths_are_near p c even odd t sane suffices is (once (amount p name.xChangeBound) (t -ℤ c.even_length) is.steady)) in
    let left =
    lines_end (pos 0) odd.start whole (cycle_length_of p odd) t odd.length action p.macros (pos (longest_micro p)) at x (pos (follower_error p))
    (even_on_line p row action sane (micro_lasts p row sane own)) (early_on_line p odd action sane (micro_lasts p odd sane is.regular.odd_micro) acts)
    some (no_less (longest_micro p)) (no_less (action_point_of p c.slot)) (within_cycle action p.correction p.macros acts grid.correction_to) lengths in
    let range = compensation_within p c.channel sane in
    let product : IsWithin (pos (widest p * amount p name.xRateBound)) (u *ℤ (pos nominal -ℤ t)) =
    mulz_within u (pos nominal -ℤ t) (pos (widest p)) (pos (amount p name.xRateBound)) range.0 range.1 (micro_within p row sane own) in
    let wide = apart (pos (widest p * amount p name.xRateBound)) (u *ℤ (pos nominal -ℤ t)) (u *ℤ pos nominal) (u *ℤ t) (mulz-subz (pos nominal) t u) product in
    behind c.late x odd.start (cycle_length_of p odd) at part whole (u *ℤ t) (u *ℤ pos nominal) (((p.micros +ℤ first_rate_of p c) -ℤ caught_position p c -ℤ u) *ℤ t)
    (amount p name.xDelayError) (widest p * amount p name.xRateBound) (longest_micro p) (follower_error p)
    (
    subz-mulz ((p.micros +ℤ first_rate_of p c) -ℤ caught_position p c) u t
    ∙ ap (λ y. y -ℤ (u *ℤ t)) (subz-mulz (p.micros +ℤ first_rate_of p c) (caught_position p c) t)
    )
    refl is.late_delay wide left
  where
    once : (w : ℕ) (x : ℤ) → IsWithin (pos w) x → IsWithin (pos (3 * w)) x
    once w x within = record { low = omega (arith, ints, within.low, within.high); high = omega (arith, ints, within.low, within.high) }

    within_cycle : (m o g : ℤ) → m ≤ℤ o → o <ℤ g → m ≤ℤ g
    within_cycle m o g a b = omega (arith, ints)

    apart : (bound x y z : ℤ) → x ≡ y -ℤ z → IsWithin bound x → IsWithin bound (y -ℤ z)
    apart bound x y z is within = record { low = omega (arith, ints, within.low); high = omega (arith, ints, within.high) }

-- the offset limit and the rate limit are at most the microticks of a cycle
limits_below : (p : Values) → IsSane p → (left_of 3 p ≤ shortest_cycle p) × (left_of 2 p ≤ shortest_cycle p)
limits_below p sane =
    let f = amount p in
    let macros = sane.ranges name.gMacroPerCycle in
    let uncut = uncut_lem p sane in
    let below : f name.pOffsetCorrectionOut ≤ least_micros f =
    limit_below (f name.gMacroPerCycle) (correction_macros f) (f name.pOffsetCorrectionOut) (least_micros f) (omega (arith, ints, macros.0)) (omega arith) sane.constraints.leaves_microticks in (
      mul-le-mul_right (shortest_micro p) (less (f name.pOffsetCorrectionOut) (f name.pMicroPerCycle) (f name.pRateCorrectionOut) below),
      mul-le-mul_right (shortest_micro p) uncut.cycle,
    )
  where
    less : (o n r : ℕ) → o ≤ n - r → o ≤ n
    less o n r le = omega (arith, le)

pub first_start_is_natural : FirstStartIsNatural
first_start_is_natural p c even odd sane suffices reaches is proper from =
    let near = first_start_is_near p c even odd sane suffices is in
    let below = limits_below p sane in
    step (first_start_of p c) even.start odd.start (cycle_length_of p even) (cycle_length_of p odd) (shortest_cycle p) (left_of 3 p) (left_of 2 p) (right_of 2 p) (reach_of p)
    (arrival_error p) (longest_micro p) (follower_error p)
    (odd_start_is p even odd is.regular.double) from proper.0 is.proper.0 near.low reaches suffices below.0 below.1
  where
    step : (s x y l m : ℤ) (short offset rate drift reach e q more : ℕ) → y ≡ x +ℤ l → pos 0 ≤ℤ x → pos short ≤ℤ l → pos short ≤ℤ m
        → neg_ℤ (pos (e + q + more)) ≤ℤ (s -ℤ (y +ℤ m)) → (pos reach +ℤ pos e +ℤ pos q) ≤ℤ pos offset → drift + more ≤ rate → offset ≤ short → rate ≤ short → pos 0 ≤ℤ s
    step s x y l m short offset rate drift reach e q more a b c d f g h i j = omega (arith, ints)
