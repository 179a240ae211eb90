-- What a node counts from one frame of its reference to the next, where delays flutter little.
use Rattle.std.proofs.Common.{◌≡◌, ℕ, ◌+◌, ◌-◌, ◌*◌, ◌<◌, ◌≤◌, true, false, ℤ, pos, refl, ap, ◌∙◌, arith}
use Rattle.std.specs.Prelude.{neg_ℤ, ◌+ℤ◌, ◌-ℤ◌, ◌*ℤ◌, ◌≤ℤ◌, ◌<ℤ◌, int_le, nat_abs}
use Rattle.std.proofs.lemmas.Int.{ints}
use Rattle.std.proofs.Math.Nat.{mul-add, mul-le-mul_left, mul-le-mul_right, mul_comm}
use Rattle.fr_base.specs.Within.{IsBetween, IsWithin}
use Rattle.fr_base.specs.declared.node_row.NodeRow.{NodeRow}
use Rattle.fr_base.specs.declared.state.State.TheVariants.{Active}
use Rattle.fr_cluster.specs.Values.{Values, amount, figure}
use Rattle.fr_cluster.specs.Sane.{IsSane}
use Rattle.fr_cluster.specs.Questions.{compensation_of}
use Rattle.fr_cluster.specs.declared.names.ParamName.TheVariants as name
use Rattle.fr_midpoint.proofs.Products.{mulz-addz, mulz-subz, mulz_within, subz-mulz}
use Rattle.fr_time.specs.Position.{even_position, grid_for}
use Rattle.fr_time.specs.Instant.{instant_of}
use Rattle.fr_time.specs.Slots.{action_point_of, slot_end_of}
use Rattle.fr_time.proofs.Lines.{lines_end, rest_of}
use Rattle.fr_time.proofs.Placing.{action_point_lt, can_place, is_grid_lem}
use Rattle.fr_reception.specs.Listening.{Caught, caught_micros, caught_position, first_rate_of, first_start_of}
use Rattle.fr_bound.specs.Bounds.{arrival_error, cycle_change, longest_micro, nominal, shortest_micro, widest}
use Rattle.fr_bound.specs.Checks.{left_of, right_of}
use Rattle.fr_bound.specs.Sync.{cycle_length_of}
use Rattle.fr_precision.specs.Rows.{longest_cycle, shortest_cycle, HasProperMicro}
use Rattle.fr_precision.proofs.DeviationLaws.{compensation_within, micro_within}
use Rattle.fr_precision.proofs.Figures.{natural}
use Rattle.fr_precision.proofs.InstantLaws.{early_on_line, even_on_line, odd_start_is}
use Rattle.fr_precision.proofs.OffsetLaws.{micro_lasts}
use Rattle.fr_precision.proofs.ReceptionLaws.{ends_before}
use Rattle.fr_runs.proofs.Listened.{first_length_is, no_less}
use Rattle.fr_promise.specs.SharpJoining.{counted_error}
use Rattle.fr_promise.specs.SharpListening.{CountedLengthIsNear, IsCaughtSharply, SharpCatchesSuffice, SharpFirstLengthIsNear, SharpFirstRateIsWithin, SharpFirstStartIsNear}
use Rattle.fr_precision.proofs.RateRange.{rate_in_limit}
use Rattle.fr_precision.proofs.Signed.{signed_of}
use Rattle.fr_precision.proofs.SteadyLemmas.{regularly}

-- ---- the reference

-- it sends before the offset correction starts
acts_early : (p : Values) (slot : ℕ) → IsSane p → 1 ≤ slot → slot ≤ amount p name.gNumberOfStaticSlots → pos (action_point_of p slot) ≤ℤ p.correction
acts_early p slot sane from to = sooner (action_point_of p slot) (slot_end_of p slot) p.correction (action_point_lt p slot sane from) (ends_before p slot sane to)
  where
    sooner : (a hi : ℕ) (o : ℤ) → a < hi → pos hi ≤ℤ o → pos a ≤ℤ o
    sooner a hi o less le = omega (arith, ints)

-- what lies between its two action points differs from the length of its even cycle by no more than a change, and so from that of
-- its odd one; and so do these from each other
record Reference (p : Values) (even odd : NodeRow) (between : ℤ) : Type 0 where
  pub to_even : IsWithin (pos (cycle_change p)) (between -ℤ cycle_length_of p even)
  pub to_odd : IsWithin (pos (cycle_change p)) (between -ℤ cycle_length_of p odd)
  pub changes : IsWithin (pos (cycle_change p)) (cycle_length_of p odd -ℤ cycle_length_of p even)

abbrev between_of : Values → Caught → NodeRow → NodeRow → ℤ
between_of p c even odd =
    instant_of (grid_for p) odd true (pos (action_point_of p c.slot)) -ℤ instant_of (grid_for p) even false (pos (action_point_of p c.slot))

reference_of : (p : Values) (flutter : ℕ) (beyond : ℤ) (c : Caught) (even odd : NodeRow) → IsSane p → IsCaughtSharply p flutter beyond c even odd → Reference p even odd (between_of p c even odd)
reference_of p flutter beyond c even odd sane is =
    let s = signed_of p sane in
    let action = pos (action_point_of p c.slot) in
    let r = regularly p even odd action sane is.regular (no_less (action_point_of p c.slot)) (acts_early p c.slot sane is.slot_from is.slot_to) in
    let whole = p.micros +ℤ even.rate in
    let share = even_position (grid_for p) even.rate action in
    let d = odd.length -ℤ even.length in
    let most = p.micros +ℤ p.rate_limit in
    let w = p.change_bound in
    let first = mulz_within share d most w r.from_zero (through share whole most r.to_whole r.whole_to) r.change in
    let rest = mulz_within (whole -ℤ share) d most w (left whole share r.to_whole) (less whole share most r.from_zero r.whole_to) r.change in
    let all = mulz_within whole d most w r.whole_from r.whole_to r.change in
    let m = between_of p c even odd in
    let long = cycle_length_of p even in
    let j = cycle_change p in
    record {
      to_even = even_step m long (share *ℤ d) (most *ℤ w) j s.j_is r.acts first;
      to_odd = odd_step m long (cycle_length_of p odd) (share *ℤ d) (whole *ℤ d) ((whole -ℤ share) *ℤ d) (most *ℤ w) j s.j_is r.acts r.lengths (subz-mulz whole share d) rest;
      changes = even_step (cycle_length_of p odd) long (whole *ℤ d) (most *ℤ w) j s.j_is r.lengths all;
    }
  where
    through : (a b c : ℤ) → a ≤ℤ b → b ≤ℤ c → a ≤ℤ c
    through a b c h k = omega (arith, ints)

    left : (a b : ℤ) → b ≤ℤ a → pos 0 ≤ℤ (a -ℤ b)
    left a b le = omega (arith, ints)

    less : (a b c : ℤ) → pos 0 ≤ℤ b → a ≤ℤ c → (a -ℤ b) ≤ℤ c
    less a b c from to = omega (arith, ints)

    even_step : (m l gd jw : ℤ) (j : ℕ) → pos j ≡ jw → m ≡ l +ℤ gd → IsWithin jw gd → IsWithin (pos j) (m -ℤ l)
    even_step m l gd jw j a b near = record { low = omega (arith, ints, near.low); high = omega (arith, ints, near.high) }

    odd_step : (m l0 l1 gd wd rd jw : ℤ) (j : ℕ) → pos j ≡ jw → m ≡ l0 +ℤ gd → l1 ≡ l0 +ℤ wd → rd ≡ wd -ℤ gd → IsWithin jw rd → IsWithin (pos j) (m -ℤ l1)
    odd_step m l0 l1 gd wd rd jw j a b d e near = record { low = omega (arith, ints, near.high); high = omega (arith, ints, near.low) }

-- ---- what the listener counts

lasts : (q t : ℤ) → pos 1 ≤ℤ q → q ≤ℤ t → pos 0 <ℤ t
lasts q t a b = omega (arith, ints)

-- against what lies between the action points
counted : (p : Values) (flutter : ℕ) (beyond : ℤ) (c : Caught) (even odd : NodeRow) → IsSane p → IsCaughtSharply p flutter beyond c even odd
    → IsBetween (neg_ℤ (pos flutter +ℤ (c.even_length -ℤ pos 1))) (pos flutter) ((caught_micros c *ℤ c.even_length) -ℤ between_of p c even odd)
counted p flutter beyond c even odd sane is =
    let s = signed_of p sane in
    let rest = rest_of (c.late -ℤ c.early) c.even_length (lasts (pos (shortest_micro p)) c.even_length s.qm_from is.even_least) in
    let a = pos (action_point_of p c.slot) in
    step c.early c.late (instant_of (grid_for p) even false a) (instant_of (grid_for p) odd true a) (caught_micros c *ℤ c.even_length) c.even_length flutter is.flutters rest.from rest.to
  where
    step : (early late x y qt t : ℤ) (f : ℕ) → IsWithin (pos f) ((late -ℤ y) -ℤ (early -ℤ x)) → pos 0 ≤ℤ ((late -ℤ early) -ℤ qt) → (((late -ℤ early) -ℤ qt) +ℤ pos 1) ≤ℤ t
        → IsBetween (neg_ℤ (pos f +ℤ (t -ℤ pos 1))) (pos f) (qt -ℤ (y -ℤ x))
    step early late x y qt t f near from to = record { low = omega (arith, ints, near.low); high = omega (arith, ints, near.high) }

pub counted_length_is_near : CountedLengthIsNear
counted_length_is_near p flutter beyond c even odd sane is =
    let between = counted p flutter beyond c even odd sane is in
    step (caught_micros c *ℤ c.even_length) (between_of p c even odd) (cycle_length_of p even) c.even_length flutter (cycle_change p) (longest_micro p) between
    (reference_of p flutter beyond c even odd sane is).to_even is.even_most
  where
    step : (qt m l t : ℤ) (f j q : ℕ) → IsBetween (neg_ℤ (pos f +ℤ (t -ℤ pos 1))) (pos f) (qt -ℤ m) → IsWithin (pos j) (m -ℤ l) → t ≤ℤ pos q
        → IsBetween (neg_ℤ (pos (f + j + q) -ℤ pos 1)) (pos (f + j)) (qt -ℤ l)
    step qt m l t f j q between near most = record { low = omega (arith, ints, between.low, near.low, most); high = omega (arith, ints, between.high, near.high) }

-- the row that stands for a listener, with its first rate and a microtick
abbrev listening_row : Values → Caught → ℤ → NodeRow
listening_row p c micro = record { node = 0; start = pos 0; length = micro; rate = first_rate_of p c; offset = pos 0; state = Active; cut = 0 }

pub sharp_first_rate_is_within : SharpFirstRateIsWithin
sharp_first_rate_is_within p flutter beyond c even odd sane suffices is =
    let row = listening_row p c c.even_length in
    let near = counted_length_is_near p flutter beyond c even odd sane is in
    let own : HasProperMicro p row = record { least = is.even_least; most = is.even_most } in
    rate_in_limit p (beyond +ℤ pos (counted_error p flutter)) row sane suffices own
    (
    about (cycle_length_of p row) (caught_micros c *ℤ c.even_length) (cycle_length_of p even) (shortest_cycle p) (longest_cycle p) beyond flutter (cycle_change p) (longest_micro p)
    (first_length_is p c row refl) near is.about
    )
  where
    about : (x qt l : ℤ) (low high : ℕ) (beyond : ℤ) (f j q : ℕ) → x ≡ qt → IsBetween (neg_ℤ (pos (f + j + q) -ℤ pos 1)) (pos (f + j)) (qt -ℤ l) → IsBetween (pos low -ℤ beyond) (pos high +ℤ beyond) l
        → IsBetween (pos low -ℤ (beyond +ℤ pos (f + j + q))) (pos high +ℤ (beyond +ℤ pos (f + j + q))) x
    about x qt l low high beyond f j q same near lies = record { low = omega (arith, ints, near.low, lies.low); high = omega (arith, ints, near.high, lies.high) }

-- ---- so many microticks of another length

counted_from : (n ro q : ℤ) → ro ≤ℤ n → neg_ℤ ro ≤ℤ (q -ℤ n) → pos 0 ≤ℤ q
counted_from n ro q a b = omega (arith, ints)

counted_to : (n ro q : ℤ) → (q -ℤ n) ≤ℤ ro → q ≤ℤ (n +ℤ ro)
counted_to n ro q a = omega (arith, ints)

-- microticks lie a multiple of the change bound apart, and so many of them the same multiple of a change
scaled : (p : Values) (c : Caught) (bound d : ℤ) → IsSane p → IsWithin p.rate_limit (first_rate_of p c) → IsWithin bound d → IsWithin ((p.micros +ℤ p.rate_limit) *ℤ bound) (caught_micros c *ℤ d)
scaled p c bound d sane rate near =
    let s = signed_of p sane in
    mulz_within (caught_micros c) d (p.micros +ℤ p.rate_limit) bound (counted_from p.micros p.rate_limit (caught_micros c) s.ro_to rate.low) (counted_to p.micros p.rate_limit (caught_micros c) rate.high) near

-- the change bound as a signed number
bound_is : (p : Values) → IsSane p → p.change_bound ≡ pos (amount p name.xChangeBound)
bound_is p sane = natural p.change_bound (signed_of p sane).w_from

moved_once : (w : ℤ) (k : ℕ) (x : ℤ) → w ≡ pos k → IsWithin (pos k) x → IsWithin w x
moved_once w k x is near = record { low = omega (arith, ints, near.low); high = omega (arith, ints, near.high) }

moved_twice : (w : ℤ) (k : ℕ) (a b x : ℤ) → w ≡ pos k → IsWithin (pos k) (b -ℤ a) → IsWithin (pos k) (x -ℤ b) → IsWithin (w +ℤ w) (x -ℤ a)
moved_twice w k a b x is one other = record { low = omega (arith, ints, one.low, other.low); high = omega (arith, ints, one.high, other.high) }

some_micro : (p : Values) → 1 ≤ longest_micro p
some_micro p = step (amount p name.xRateBound)
  where
    step : (d : ℕ) → 1 ≤ 1_000_000 + d
    step d = omega arith

pub sharp_first_length_is_near : SharpFirstLengthIsNear
sharp_first_length_is_near p flutter beyond c even odd first_even first_odd sane suffices is begins =
    let s = signed_of p sane in
    let rate = sharp_first_rate_is_within p flutter beyond c even odd sane suffices is in
    let near = counted_length_is_near p flutter beyond c even odd sane is in
    let w = p.change_bound in
    let most = p.micros +ℤ p.rate_limit in
    let q = caught_micros c in
    let d = first_even.length -ℤ c.even_length in
    let wide = scaled p c (w +ℤ w) d sane rate (moved_twice w (amount p name.xChangeBound) c.even_length c.odd_length first_even.length (bound_is p sane) is.steady begins.even_steady) in
    step (cycle_length_of p first_even) (q *ℤ first_even.length) (q *ℤ c.even_length) (q *ℤ d) (cycle_length_of p even) (most *ℤ w) (most *ℤ (w +ℤ w)) flutter (cycle_change p) (longest_micro p)
    (first_length_is p c first_even begins.even_rate) (mulz-subz first_even.length c.even_length q) s.j_is (mulz-addz w w most) (some_micro p) wide near
  where
    step : (x y qt qd l jw two : ℤ) (f j q : ℕ) → x ≡ y → qd ≡ y -ℤ qt → pos j ≡ jw → two ≡ jw +ℤ jw → 1 ≤ q → IsWithin two qd
        → IsBetween (neg_ℤ (pos (f + j + q) -ℤ pos 1)) (pos (f + j)) (qt -ℤ l) → IsWithin (pos (f + (q - 1) + 3 * j)) (x -ℤ l)
    step x y qt qd l jw two f j q a b e g some near between = record { low = omega (arith, ints, near.low, between.low, some); high = omega (arith, ints, near.high, between.high, some) }

-- ---- the first start

-- a cycle at the first rate and the listener's odd microtick, against the reference's odd one
odd_length_is_near : (p : Values) (flutter : ℕ) (beyond : ℤ) (c : Caught) (even odd : NodeRow) → IsSane p → IsWithin p.rate_limit (first_rate_of p c) → IsCaughtSharply p flutter beyond c even odd
    → IsWithin (pos (flutter + (longest_micro p - 1) + 2 * cycle_change p)) ((caught_micros c *ℤ c.odd_length) -ℤ cycle_length_of p odd)
odd_length_is_near p flutter beyond c even odd sane rate is =
    let s = signed_of p sane in
    let w = p.change_bound in
    let q = caught_micros c in
    let d = c.odd_length -ℤ c.even_length in
    let near = scaled p c w d sane rate (moved_once w (amount p name.xChangeBound) d (bound_is p sane) is.steady) in
    step (q *ℤ c.odd_length) (q *ℤ c.even_length) (q *ℤ d) (between_of p c even odd) (cycle_length_of p odd) c.even_length ((p.micros +ℤ p.rate_limit) *ℤ w) flutter (cycle_change p) (longest_micro p)
    (mulz-subz c.odd_length c.even_length q) s.j_is (some_micro p) near (counted p flutter beyond c even odd sane is) (reference_of p flutter beyond c even odd sane is).to_odd is.even_most
  where
    step : (y qt qd m l t jw : ℤ) (f j q : ℕ) → qd ≡ y -ℤ qt → pos j ≡ jw → 1 ≤ q → IsWithin jw qd → IsBetween (neg_ℤ (pos f +ℤ (t -ℤ pos 1))) (pos f) (qt -ℤ m) → IsWithin (pos j) (m -ℤ l) → t ≤ℤ pos q
        → IsWithin (pos (f + (q - 1) + 2 * j)) (y -ℤ l)
    step y qt qd m l t jw f j q a b some near between also most = record {
      low = omega (arith, ints, near.low, between.low, also.low, most, some);
      high = omega (arith, ints, near.high, between.high, also.high, most, some);
    }

-- behind an arrival, what is left of a cycle, less the compensation
behind : (late x s long at part whole ut un z : ℤ) (e u q f j : ℕ) → z ≡ (whole -ℤ part) -ℤ ut → at ≡ pos 0 +ℤ part → 1 ≤ q
    → IsWithin (pos e) ((late -ℤ x) -ℤ un) → IsWithin (pos u) (un -ℤ ut)
    → IsWithin (pos (f + (q - 1) + 2 * j) +ℤ pos q) (((pos 0 +ℤ whole) -ℤ at) -ℤ ((s +ℤ long) -ℤ x))
    → IsWithin (pos ((e + u) + f + 2 * q + 2 * j)) ((late +ℤ z) -ℤ (s +ℤ long))
behind late x s long at part whole ut un z e u q f j a b some near wide left = record {
  low = omega (arith, ints, near.low, wide.low, left.low, some);
  high = omega (arith, ints, near.high, wide.high, left.high, some);
}

apart : (bound x y z : ℤ) → x ≡ y -ℤ z → IsWithin bound x → IsWithin bound (y -ℤ z)
apart bound x y z is within = record { low = omega (arith, ints, within.low); high = omega (arith, ints, within.high) }

same_length : (bound x y long : ℤ) → x ≡ y → IsWithin bound (y -ℤ long) → IsWithin bound (x -ℤ long)
same_length bound x y long is within = record { low = omega (arith, ints, within.low); high = omega (arith, ints, within.high) }

within_cycle : (m o g : ℤ) → m ≤ℤ o → o <ℤ g → m ≤ℤ g
within_cycle m o g a b = omega (arith, ints)

pub sharp_first_start_is_near : SharpFirstStartIsNear
sharp_first_start_is_near p flutter beyond c even odd sane suffices is =
    let action = pos (action_point_of p c.slot) in
    let t = c.odd_length in
    let row = listening_row p c t in
    let own : HasProperMicro p row = record { least = is.odd_least; most = is.odd_most } in
    let acts = acts_early p c.slot sane is.slot_from is.slot_to in
    let grid = is_grid_lem p sane in
    let some : pos 0 <ℤ p.macros = omega (arith, ints, grid.correction_from, grid.correction_to) in
    let u = compensation_of p c.channel in
    let whole = cycle_length_of p row in
    let part = caught_position p c *ℤ t in
    let at = instant_of (grid_for p) row false action in
    let x = instant_of (grid_for p) odd true action in
    let off = flutter + (longest_micro p - 1) + 2 * cycle_change p in
    let rate = sharp_first_rate_is_within p flutter beyond c even odd sane suffices is in
    let lengths = same_length (pos off) whole (caught_micros c *ℤ t) (cycle_length_of p odd) (first_length_is p c row refl) (odd_length_is_near p flutter beyond c even odd sane rate is) in
    let left =
    lines_end (pos 0) odd.start whole (cycle_length_of p odd) t odd.length action p.macros (pos (longest_micro p)) at x (pos off)
    (even_on_line p row action sane (micro_lasts p row sane own)) (early_on_line p odd action sane (micro_lasts p odd sane is.regular.odd_micro) acts)
    some (no_less (longest_micro p)) (no_less (action_point_of p c.slot)) (within_cycle action p.correction p.macros acts grid.correction_to) lengths in
    let range = compensation_within p c.channel sane in
    let product : IsWithin (pos (widest p * amount p name.xRateBound)) (u *ℤ (pos nominal -ℤ t)) =
    mulz_within u (pos nominal -ℤ t) (pos (widest p)) (pos (amount p name.xRateBound)) range.0 range.1 (micro_within p row sane own) in
    let wide = apart (pos (widest p * amount p name.xRateBound)) (u *ℤ (pos nominal -ℤ t)) (u *ℤ pos nominal) (u *ℤ t) (mulz-subz (pos nominal) t u) product in
    behind c.late x odd.start (cycle_length_of p odd) at part whole (u *ℤ t) (u *ℤ pos nominal) (((p.micros +ℤ first_rate_of p c) -ℤ caught_position p c -ℤ u) *ℤ t)
    (amount p name.xDelayError) (widest p * amount p name.xRateBound) (longest_micro p) flutter (cycle_change p)
    (
    subz-mulz ((p.micros +ℤ first_rate_of p c) -ℤ caught_position p c) u t
    ∙ ap (λ y. y -ℤ (u *ℤ t)) (subz-mulz (p.micros +ℤ first_rate_of p c) (caught_position p c) t)
    )
    refl (some_micro p) is.delay wide left

-- ---- it suffices to begin with

-- the shortest cycle has at least ten microticks
ten_micros : (p : Values) → IsSane p → amount p name.pRateCorrectionOut + 10 ≤ amount p name.pMicroPerCycle
ten_micros p sane =
    let macros = sane.ranges name.gMacroPerCycle in
    let micros = sane.ranges name.pMicroPerCycle in
    let rate = sane.ranges name.pRateCorrectionOut in
    step p.macros p.micros p.rate_limit macros.0 micros.0 rate.0 ((can_place p sane).early (neg_ℤ p.rate_limit) (least p.rate_limit rate.0)).micros_from
  where
    least : (r : ℤ) → pos 1 ≤ℤ r → IsWithin r (neg_ℤ r)
    least r from = record { low = omega (arith, ints); high = omega (arith, ints) }

    step : (g n r : ℤ) → pos 10 ≤ℤ g → pos 10 ≤ℤ n → pos 1 ≤ℤ r → g ≤ℤ (n +ℤ neg_ℤ r) → nat_abs r + 10 ≤ nat_abs n
    step g n r a b c d = omega (arith, ints, a, b, c, d)

-- so twice its length takes in twice the rate limit, a change and the error of an arrival
shortest_takes_in : (p : Values) → IsSane p → 2 * left_of 2 p + cycle_change p + arrival_error p ≤ 2 * shortest_cycle p
shortest_takes_in p sane =
    let rate = sane.ranges name.pRateCorrectionOut in
    let bound = sane.ranges name.xRateBound in
    let change = sane.ranges name.xChangeBound in
    let delay = sane.ranges name.xDelayError in
    let wide = sane.ranges name.pDelayCompensation in
    step (amount p name.pMicroPerCycle) (amount p name.pRateCorrectionOut) (amount p name.xRateBound) (amount p name.xChangeBound) (amount p name.xDelayError) (widest p) (ten_micros p sane)
    (most p.rate_limit 2000 (above p.rate_limit rate.0) rate.1) (most p.rate_bound 1500 bound.0 bound.1) (most p.change_bound 1500 change.0 change.1) (most p.delay_error 10_000_000 delay.0 delay.1)
    (most (figure p name.pDelayCompensation) 200 wide.0 wide.1)
  where
    above : (z : ℤ) → pos 1 ≤ℤ z → pos 0 ≤ℤ z
    above z from = omega (arith, ints, from)

    most : (z : ℤ) (n : ℕ) → pos 0 ≤ℤ z → z ≤ℤ pos n → nat_abs z ≤ n
    most z n from to = omega (arith, ints, from, to)

    step : (n r rate change delay wide : ℕ) → r + 10 ≤ n → r ≤ 2000 → rate ≤ 1500 → change ≤ 1500 → delay ≤ 10_000_000 → wide ≤ 200
        → 2 * (r * (1_000_000 - rate)) + (n + r) * change + (delay + wide * rate) ≤ 2 * (n * (1_000_000 - rate))
    step n r rate change delay wide ten few low slow early narrow =
        let micro = 1_000_000 - rate in
        let whole : r + (n - r) ≡ n = omega (arith, ten) in
        let parts : micro * (r + (n - r)) ≡ micro * r + micro * (n - r) = mul-add micro r (n - r) in
        let all : micro * (r + (n - r)) ≡ micro * n = ap (λ (k : ℕ). micro * k) whole in
        let longer : 998_500 * (n - r) ≤ micro * (n - r) = mul-le-mul_right (n - r) (omega (arith, low)) in
        let changes : (n + r) * change ≤ (n + r) * 1500 = mul-le-mul_left (n + r) slow in
        let errs : wide * rate ≤ wide * 1500 = mul-le-mul_left wide low in
        omega (arith, ten, few, early, narrow, parts, all, longer, changes, errs, mul_comm micro n, mul_comm micro r)

le_tested : (a b : ℤ) → a ≤ℤ b → int_le a b ≡ true
le_tested a b le = grind (arith, ints)

pub sharp_catches_suffice : SharpCatchesSuffice
sharp_catches_suffice p flutter beyond c even odd sane suffices is from =
    let rate = sharp_first_rate_is_within p flutter beyond c even odd sane suffices is in
    let near = sharp_first_start_is_near p flutter beyond c even odd sane suffices is in
    let natural = step (first_start_of p c) even.start odd.start (cycle_length_of p even) (cycle_length_of p odd) beyond (shortest_cycle p) (longest_cycle p) (left_of 2 p) (right_of 2 p)
    (arrival_error p) (longest_micro p) flutter (cycle_change p)
    (odd_start_is p even odd is.regular.double) from is.about (reference_of p flutter beyond c even odd sane is).changes near.low suffices (shortest_takes_in p sane) in
    rw (le_tested (neg_ℤ p.rate_limit) (first_rate_of p c) rate.low, le_tested (first_rate_of p c) p.rate_limit rate.high, le_tested (pos 0) (first_start_of p c) natural) refl
  where
    step : (s x y l m beyond : ℤ) (short long rate drift e q f j : ℕ) → y ≡ x +ℤ l → pos 0 ≤ℤ x → IsBetween (pos short -ℤ beyond) (pos long +ℤ beyond) l → IsWithin (pos j) (m -ℤ l)
        → neg_ℤ (pos (e + f + 2 * q + 2 * j)) ≤ℤ (s -ℤ (y +ℤ m)) → (pos drift +ℤ (beyond +ℤ pos (f + j + q))) ≤ℤ pos rate → 2 * rate + j + e ≤ 2 * short → pos 0 ≤ℤ s
    step s x y l m beyond short long rate drift e q f j a b lies near d h k = omega (arith, ints, a, b, lies.low, near.low, d, h, k)
