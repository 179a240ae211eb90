-- The laws of rates, over rows.
use Rattle.std.proofs.Common.{◌≡◌, ◌⊎◌, ℕ, ◌+◌, ◌*◌, ◌≤◌, true, ℤ, pos, List, [], ◌∷◌, length, map, All, inl, inr, ap, sym, ◌∙◌, subst, arith}
use Rattle.std.specs.Prelude.{◌+ℤ◌, ◌-ℤ◌, ◌*ℤ◌, ◌≤ℤ◌, ◌<ℤ◌}
use Rattle.std.proofs.lemmas.Int.{ints}
use Rattle.std.proofs.lemmas.List.Elements.{All-cons, All-nil}
use Rattle.fr_base.specs.declared.node_row.NodeRow.{NodeRow}
use Rattle.fr_base.specs.declared.Outcome.TheVariants.{Within}
use Rattle.fr_cluster.specs.Values.{Values, amount}
use Rattle.fr_cluster.specs.Sane.{IsSane}
use Rattle.fr_cluster.specs.declared.names.ParamName.TheVariants as name
use Rattle.fr_base.specs.Within.{IsWithin}
use Rattle.fr_midpoint.specs.Midpoint.{IsMidpoint}
use Rattle.fr_midpoint.specs.Receivers.{place_at, measured_place, Hears, IsPlaced, Receiver, Receives}
use Rattle.fr_midpoint.proofs.Agreement.{one_receiver_lem, two_receivers_lem}
use Rattle.fr_midpoint.proofs.Products.{addz-mulz}
use Rattle.fr_correct.specs.declared.term.Term.{Term}
use Rattle.fr_correct.specs.Terms.{damped, limited, missing_term, term_of}
use Rattle.fr_bound.specs.Bounds.{cycle_change, lambda_of, longest_micro, shortest_micro, y1_of}
use Rattle.fr_bound.specs.Checks.{holds_of}
use Rattle.fr_bound.specs.Sync.{cycle_length_of, IsCycleLength}
use Rattle.fr_precision.specs.Rows.{longest_cycle, shortest_cycle, HasProperMicro, IsSteady, KeepOne, Sender}
use Rattle.fr_precision.specs.Rates.{near_length, IsRateRound, LengthsDrawTogether, LengthsStayInRange, LengthsStayNear, LengthsStayTogether, LengthsWithin, NearLengthIsBelowLambda, PlacesLength, RateTermsAreUncut}
use Rattle.fr_precision.proofs.Figures.{figures_of, longest_is, natural, shortest_is, times_natural}
use Rattle.fr_precision.proofs.Moves.{damped_near, moved, Moved}
use Rattle.fr_precision.proofs.Ranges.{ranged, Ranged}
use Rattle.fr_precision.proofs.Senders.{heard_all, hears_mapped, length_mapped, lie_within, All-along, All-mapped}

-- the receiver of rate values that an odd row is
abbrev rates_at : Values → NodeRow → List ℤ → Receiver
rates_at p row values = record { base = cycle_length_of p row; unit = row.length; values = values }

-- the lengths of the senders' odd cycles
abbrev odd_lengths : Values → List Sender → List ℤ
odd_lengths p senders = map (λ (sender : Sender). cycle_length_of p sender.odd) senders

is_placed : (base unit bound position value : ℤ) → IsWithin bound ((base +ℤ (value *ℤ unit)) -ℤ position) → IsPlaced base unit bound bound position value
is_placed base unit bound position value within =
    let out = moved_out base (value *ℤ unit) bound position within in
    record { low = out.0; high = out.1 }
  where
    moved_out : (base scaled bound position : ℤ) → IsWithin bound ((base +ℤ scaled) -ℤ position) → ((position -ℤ bound) ≤ℤ (base +ℤ scaled)) × ((base +ℤ scaled) ≤ℤ (position +ℤ bound))
    moved_out base scaled bound position within = (omega (arith, ints, within.low), omega (arith, ints, within.high))

pub limited_within : (limit x : ℤ) → IsWithin limit x → limited limit x ≡ x
limited_within limit x within =
    let low = within.low in
    let high = within.high in
    grind (arith, ints)

pub outcome_within : (limit x : ℤ) → IsWithin limit x → (term_of limit x).outcome ≡ Within
outcome_within limit x within =
    let low = within.low in
    let high = within.high in
    grind (arith, ints)

-- what a receiver makes of its rate values
record Round (p : Values) (row : NodeRow) (values : List ℤ) (term : Term) : Type 0 where
  mid : ℤ
  middle : IsMidpoint values mid
  is : term.value ≡ damped p.damping (row.rate +ℤ mid)
  uncut : term.outcome ≡ Within
  range : Ranged p.micros p.rate_limit (pos (shortest_micro p)) (pos (longest_micro p)) (pos (cycle_change p)) row.length (damped p.damping (row.rate +ℤ mid))

-- the length at the rate before damping is where the midpoint lies
pub undamped : (n rate mid unit : ℤ) → (n +ℤ (rate +ℤ mid)) *ℤ unit ≡ measured_place ((n +ℤ rate) *ℤ unit) unit mid
undamped n rate mid unit = ap (λ x. x *ℤ unit) (grouped n rate mid) ∙ addz-mulz (n +ℤ rate) mid unit
  where
    grouped : (n rate mid : ℤ) → n +ℤ (rate +ℤ mid) ≡ (n +ℤ rate) +ℤ mid
    grouped n rate mid = omega (arith, ints)

receives_lengths : (p : Values) (senders : List Sender) (row : NodeRow) (values : List ℤ) → IsSane p → HasProperMicro p row → Hears Sender (PlacesLength p row) senders values
    → pos 0 <ℤ row.length → Receives (pos (y1_of p)) (pos (y1_of p)) (odd_lengths p senders) (rates_at p row values)
receives_lengths p senders row values sane micro hears lasts = record {
  lasts = lasts;
  hears =
      hears_mapped
      (λ (sender : Sender). Unit {0})
      (PlacesLength p row)
      (IsPlaced (cycle_length_of p row) row.length (pos (y1_of p)) (pos (y1_of p)))
      (λ (sender : Sender). cycle_length_of p sender.odd)
      senders
      values
      (λ sender value all says. is_placed (cycle_length_of p row) row.length (pos (y1_of p)) (cycle_length_of p sender.odd) value says)
      (everywhere senders)
      hears;
}
  where
    everywhere : (xs : List Sender) → All (λ (sender : Sender). Unit {0}) xs
    everywhere [] = All-nil (λ (sender : Sender). Unit {0})
    everywhere (x ∷ xs) = All-cons (λ (sender : Sender). Unit {0}) x xs tt (everywhere xs)

lasting : (p : Values) (row : NodeRow) → IsSane p → holds_of 1 p ≡ true → holds_of 2 p ≡ true → HasProperMicro p row → pos 0 <ℤ row.length
lasting p row sane first second micro =
    let f = figures_of p sane first second in
    step (pos (shortest_micro p)) row.length f.qm_from micro.least
  where
    step : (q t : ℤ) → pos 1 ≤ℤ q → q ≤ℤ t → pos 0 <ℤ t
    step q t a b = omega (arith, ints)

round_at : (p : Values) (senders : List Sender) (row : NodeRow) (values : List ℤ) (term : Term) (mid : ℤ)
    → IsSane p → holds_of 1 p ≡ true → holds_of 2 p ≡ true
    → All (λ (sender : Sender). IsCycleLength p (cycle_length_of p sender.odd)) senders → HasProperMicro p row → Hears Sender (PlacesLength p row) senders values
    → IsMidpoint values mid → term ≡ term_of p.rate_limit (damped p.damping (row.rate +ℤ mid)) → Round p row values term
round_at p senders row values term mid sane first second proper micro hears middle is =
    let f = figures_of p sane first second in
    let lasts = lasting p row sane first second micro in
    let receives = receives_lengths p senders row values sane micro hears lasts in
    let lengths = odd_lengths p senders in
    let among =
    one_receiver_lem lengths (pos (shortest_cycle p)) (pos (longest_cycle p)) (pos (y1_of p)) (pos (y1_of p)) (rates_at p row values) mid
    (All-mapped (λ (sender : Sender). IsCycleLength p (cycle_length_of p sender.odd)) (λ x. pos (shortest_cycle p) ≤ℤ x) (λ (sender : Sender). cycle_length_of p sender.odd) senders (λ sender is. is.0) proper)
    (All-mapped (λ (sender : Sender). IsCycleLength p (cycle_length_of p sender.odd)) (λ x. x ≤ℤ pos (longest_cycle p)) (λ (sender : Sender). cycle_length_of p sender.odd) senders (λ sender is. is.1) proper)
    receives
    middle in
    let same = undamped p.micros row.rate mid row.length in
    let from = moved_low (pos (shortest_cycle p)) (p.micros *ℤ pos (shortest_micro p)) (pos (y1_of p)) (measured_place (cycle_length_of p row) row.length mid) ((p.micros +ℤ (row.rate +ℤ mid)) *ℤ row.length) (shortest_is p sane) same among.0 in
    let to = moved_high (pos (longest_cycle p)) (p.micros *ℤ pos (longest_micro p)) (pos (y1_of p)) (measured_place (cycle_length_of p row) row.length mid) ((p.micros +ℤ (row.rate +ℤ mid)) *ℤ row.length) (longest_is p sane) same among.1 in
    let range =
    ranged p.micros p.damping p.rate_limit p.change_bound (pos (shortest_micro p)) (pos (longest_micro p)) (pos (y1_of p)) (pos (cycle_change p)) row.length (row.rate +ℤ mid)
    f micro.least micro.most from to in
    record {
      mid = mid;
      middle = middle;
      is = ap (λ (t : Term). t.value) is ∙ limited_within p.rate_limit (damped p.damping (row.rate +ℤ mid)) range.limit;
      uncut = ap (λ (t : Term). t.outcome) is ∙ outcome_within p.rate_limit (damped p.damping (row.rate +ℤ mid)) range.limit;
      range = range;
    }
  where
    moved_low : (a b y x z : ℤ) → a ≡ b → z ≡ x → (a -ℤ y) ≤ℤ x → (b -ℤ y) ≤ℤ z
    moved_low a b y x z e g h = omega (arith, ints)

    moved_high : (a b y x z : ℤ) → a ≡ b → z ≡ x → x ≤ℤ (a +ℤ y) → z ≤ℤ (b +ℤ y)
    moved_high a b y x z e g h = omega (arith, ints)

round_of : (p : Values) (senders : List Sender) (row : NodeRow) (values : List ℤ) (term : Term)
    → IsSane p → holds_of 1 p ≡ true → holds_of 2 p ≡ true → 1 ≤ length senders
    → All (λ (sender : Sender). IsCycleLength p (cycle_length_of p sender.odd)) senders → IsRateRound p senders row values term → Round p row values term
round_of p senders row values term sane first second some proper round = by_term round.is_term
  where
    by_term : ((values ≡ []) × (term ≡ missing_term row.rate)) ⊎ ((mid : ℤ) × IsMidpoint values mid × (term ≡ term_of p.rate_limit (damped p.damping (row.rate +ℤ mid)))) → Round p row values term
    by_term (inl (none, is)) =
        let heard = heard_all (PlacesLength p row) senders values round.hears in
        absurd (omega (arith, heard, some, ap length none))
    by_term (inr (mid, middle, is)) = round_at p senders row values term mid sane first second proper round.micro round.hears middle is

ranged_at : (p : Values) (row : NodeRow) (values : List ℤ) (term : Term) (round : Round p row values term)
    → Ranged p.micros p.rate_limit (pos (shortest_micro p)) (pos (longest_micro p)) (pos (cycle_change p)) row.length term.value
ranged_at p row values term round =
    let At : ℤ → Type 0 = Ranged p.micros p.rate_limit (pos (shortest_micro p)) (pos (longest_micro p)) (pos (cycle_change p)) row.length in
    subst At (sym round.is) round.range

pub rate_terms_are_uncut : RateTermsAreUncut
rate_terms_are_uncut p senders row values term sane first second some proper is =
    let round = round_of p senders row values term sane first second some proper is in
    let r = ranged_at p row values term round in
    let shortest = shortest_is p sane in
    let longest = longest_is p sane in
    let n = p.micros in
    let low = n *ℤ pos (shortest_micro p) in
    let high = n *ℤ pos (longest_micro p) in
    let length = (n +ℤ term.value) *ℤ row.length in
    record {
      uncut = round.uncut;
      limit = r.limit;
      proper = (turned_low (pos (shortest_cycle p)) low length shortest r.least, turned_high (pos (longest_cycle p)) high length longest r.most);
      room_above = λ up. more_high (longest_cycle p) (cycle_change p) high length longest (r.room_above up);
      room_below = λ down. more_low (shortest_cycle p) (cycle_change p) low length shortest (r.room_below down);
    }
  where
    turned_low : (a b x : ℤ) → a ≡ b → b ≤ℤ x → a ≤ℤ x
    turned_low a b x e le = omega (arith, ints)

    turned_high : (a b x : ℤ) → a ≡ b → x ≤ℤ b → x ≤ℤ a
    turned_high a b x e le = omega (arith, ints)

    more_high : (a j : ℕ) (b x : ℤ) → pos a ≡ b → (x +ℤ (pos 2 *ℤ pos j)) ≤ℤ b → (x +ℤ pos (2 * j)) ≤ℤ pos a
    more_high a j b x e le = omega (arith, ints)

    more_low : (a j : ℕ) (b x : ℤ) → pos a ≡ b → (b +ℤ (pos 2 *ℤ pos j)) ≤ℤ x → pos (a + 2 * j) ≤ℤ x
    more_low a j b x e le = omega (arith, ints)

-- the length of a cycle at the damped rate, whose microtick is off by at most twice the change bound
next_length : (p : Values) (row : NodeRow) (values : List ℤ) (term : Term) (next : NodeRow)
    → IsSane p → holds_of 1 p ≡ true → holds_of 2 p ≡ true → (round : Round p row values term)
    → next.rate ≡ term.value → HasProperMicro p next → IsWithin (p.change_bound +ℤ p.change_bound) (next.length -ℤ row.length)
    → (cycle_length_of p next ≡ (p.micros +ℤ damped p.damping (row.rate +ℤ round.mid)) *ℤ next.length)
    × Moved p.micros (pos (shortest_micro p)) (pos (longest_micro p)) (pos (cycle_change p)) row.length next.length (damped p.damping (row.rate +ℤ round.mid))
next_length p row values term next sane first second round same micro steady =
    let b = damped p.damping (row.rate +ℤ round.mid) in (
      ap (λ rate. (p.micros +ℤ rate) *ℤ next.length) (same ∙ round.is),
      moved p.micros p.damping p.rate_limit p.change_bound (pos (shortest_micro p)) (pos (longest_micro p)) (pos (y1_of p)) (pos (cycle_change p)) row.length next.length b
          (figures_of p sane first second) round.range micro.least micro.most steady,
    )

proper_next : (p : Values) (row : NodeRow) (values : List ℤ) (term : Term) (next : NodeRow)
    → IsSane p → holds_of 1 p ≡ true → holds_of 2 p ≡ true → (round : Round p row values term)
    → next.rate ≡ term.value → HasProperMicro p next → IsWithin (p.change_bound +ℤ p.change_bound) (next.length -ℤ row.length)
    → IsCycleLength p (cycle_length_of p next)
proper_next p row values term next sane first second round same micro steady =
    let is = next_length p row values term next sane first second round same micro steady in
    let b = damped p.damping (row.rate +ℤ round.mid) in (
      low (pos (shortest_cycle p)) (p.micros *ℤ pos (shortest_micro p)) ((p.micros +ℤ b) *ℤ next.length) (cycle_length_of p next) (shortest_is p sane) is.0 is.1.least,
      high (pos (longest_cycle p)) (p.micros *ℤ pos (longest_micro p)) ((p.micros +ℤ b) *ℤ next.length) (cycle_length_of p next) (longest_is p sane) is.0 is.1.most,
    )
  where
    low : (a b x y : ℤ) → a ≡ b → y ≡ x → b ≤ℤ x → a ≤ℤ y
    low a b x y e g le = omega (arith, ints)

    high : (a b x y : ℤ) → a ≡ b → y ≡ x → x ≤ℤ b → y ≤ℤ a
    high a b x y e g le = omega (arith, ints)

-- the microtick of both next cycles is off by at most twice the change bound
record Steady (p : Values) (row even odd : NodeRow) : Type 0 where
  once : IsWithin (p.change_bound +ℤ p.change_bound) (even.length -ℤ row.length)
  twice : IsWithin (p.change_bound +ℤ p.change_bound) (odd.length -ℤ row.length)

steady : (p : Values) (row even odd : NodeRow) → IsSane p → IsSteady p row even → IsSteady p even odd → Steady p row even odd
steady p row even odd sane one other =
    let change = sane.ranges name.xChangeBound in
    let is = natural p.change_bound (omega (arith, ints, change.0)) in
    let both = step p.change_bound (amount p name.xChangeBound) row.length even.length odd.length is one other in
    record { once = both.0; twice = both.1 }
  where
    step : (w : ℤ) (n : ℕ) (a b c : ℤ) → w ≡ pos n → IsWithin (pos n) (b -ℤ a) → IsWithin (pos n) (c -ℤ b) → IsWithin (w +ℤ w) (b -ℤ a) × IsWithin (w +ℤ w) (c -ℤ a)
    step w n a b c is one other =
        let lo = one.low in
        let hi = one.high in
        let lo_other = other.low in
        let hi_other = other.high in
        (record { low = omega (arith, ints); high = omega (arith, ints) }, record { low = omega (arith, ints); high = omega (arith, ints) })

pub lengths_stay_in_range_lem : LengthsStayInRange
lengths_stay_in_range_lem p senders row values term even odd sane first second some proper is next =
    let round = round_of p senders row values term sane first second some proper is in
    let near = steady p row even odd sane next.even_steady next.odd_steady in (
      proper_next p row values term even sane first second round next.even_rate next.even_micro near.once,
      proper_next p row values term odd sane first second round next.odd_rate next.odd_micro near.twice,
    )

-- the length before damping, and how far a next one may lie from it
record Near (p : Values) (row : NodeRow) (values : List ℤ) (term : Term) (round : Round p row values term) (next : NodeRow) : Type 0 where
  damped_length : ℤ
  damping : IsWithin (p.damping *ℤ pos (longest_micro p)) (place_at (rates_at p row values) round.mid -ℤ damped_length)
  change : IsWithin (pos 2 *ℤ pos (cycle_change p)) (cycle_length_of p next -ℤ damped_length)

near_next : (p : Values) (row : NodeRow) (values : List ℤ) (term : Term) (next : NodeRow)
    → IsSane p → holds_of 1 p ≡ true → holds_of 2 p ≡ true → (round : Round p row values term) → HasProperMicro p row
    → next.rate ≡ term.value → HasProperMicro p next → IsWithin (p.change_bound +ℤ p.change_bound) (next.length -ℤ row.length)
    → Near p row values term round next
near_next p row values term next sane first second round at same micro steady =
    let is = next_length p row values term next sane first second round same micro steady in
    let z = row.rate +ℤ round.mid in
    let b = damped p.damping z in
    let f = figures_of p sane first second in
    let taken = damped_near p.micros p.damping (pos (shortest_micro p)) (pos (longest_micro p)) row.length z f.c_from f.qm_from at.least at.most in
    record {
      damped_length = (p.micros +ℤ b) *ℤ row.length;
      damping =
          moved_left (p.damping *ℤ pos (longest_micro p)) ((p.micros +ℤ z) *ℤ row.length) (place_at (rates_at p row values) round.mid) ((p.micros +ℤ b) *ℤ row.length)
          (undamped p.micros row.rate round.mid row.length) taken;
      change = turned (pos 2 *ℤ pos (cycle_change p)) ((p.micros +ℤ b) *ℤ next.length) (cycle_length_of p next) ((p.micros +ℤ b) *ℤ row.length) is.0 is.1.near;
    }
  where
    moved_left : (bound x y z : ℤ) → x ≡ y → IsWithin bound (x -ℤ z) → IsWithin bound (y -ℤ z)
    moved_left bound x y z e within = record { low = omega (arith, ints, within.low); high = omega (arith, ints, within.high) }

    turned : (bound x y z : ℤ) → y ≡ x → IsWithin bound (x -ℤ z) → IsWithin bound (y -ℤ z)
    turned bound x y z e within = record { low = omega (arith, ints, within.low); high = omega (arith, ints, within.high) }

-- half the spread, and half of lambda
halved : (spread c : ℤ) (y1 qp j cqp : ℕ) (u v w x y z : ℤ) → pos cqp ≡ c
    → IsWithin (spread +ℤ (pos 2 *ℤ (pos y1 +ℤ pos y1)) +ℤ (pos 2 *ℤ pos qp)) (pos 2 *ℤ (u -ℤ x))
    → IsWithin c (u -ℤ v) → IsWithin (pos 2 *ℤ pos j) (w -ℤ v) → IsWithin c (x -ℤ y) → IsWithin (pos 2 *ℤ pos j) (z -ℤ y)
    → IsWithin (spread +ℤ pos (4 * y1 + 2 * qp + 4 * cqp + 8 * j)) (pos 2 *ℤ (w -ℤ z))
halved spread c y1 qp j cqp u v w x y z is apart a b d e = record {
  low = omega (arith, ints, apart.low, a.high, b.low, d.low, e.high);
  high = omega (arith, ints, apart.high, a.low, b.high, d.high, e.low);
}

draw_together : (p : Values) (senders : List Sender) (spread : ℤ) (row other_row : NodeRow) (values other_values : List ℤ) (term other_term : Term) (next other_next : NodeRow)
    → IsSane p → holds_of 1 p ≡ true → holds_of 2 p ≡ true → LengthsWithin p spread senders
    → IsRateRound p senders row values term → IsRateRound p senders other_row other_values other_term → KeepOne values other_values senders
    → (round : Round p row values term) → (other_round : Round p other_row other_values other_term)
    → Near p row values term round next → Near p other_row other_values other_term other_round other_next
    → IsWithin (spread +ℤ pos (lambda_of p)) (pos 2 *ℤ (cycle_length_of p next -ℤ cycle_length_of p other_next))
draw_together p senders spread row other_row values other_values term other_term next other_next sane first second within is also keep round other_round near other_near =
    let one = rates_at p row values in
    let other = rates_at p other_row other_values in
    let receives = receives_lengths p senders row values sane is.micro is.hears (lasting p row sane first second is.micro) in
    let other_receives = receives_lengths p senders other_row other_values sane also.micro also.hears (lasting p other_row sane first second also.micro) in
    let apart =
    two_receivers_lem (odd_lengths p senders) spread (pos (y1_of p)) (pos (y1_of p)) (pos (longest_micro p)) one other round.mid other_round.mid
    (lie_within (λ (sender : Sender). cycle_length_of p sender.odd) spread senders within)
    receives other_receives is.micro.most also.micro.most
    (omega (arith, keep, length_mapped (λ (sender : Sender). cycle_length_of p sender.odd) senders))
    round.middle other_round.middle in
    let damping = sane.ranges name.pClusterDriftDamping in
    let from : pos 0 ≤ℤ p.damping = omega (arith, ints, damping.0) in
    halved spread (p.damping *ℤ pos (longest_micro p)) (y1_of p) (longest_micro p) (cycle_change p) (amount p name.pClusterDriftDamping * longest_micro p)
    (place_at one round.mid) near.damped_length (cycle_length_of p next) (place_at other other_round.mid) other_near.damped_length (cycle_length_of p other_next)
    (times_natural p.damping (longest_micro p) from) apart near.damping near.change other_near.damping other_near.change

pub lengths_draw_together_lem : LengthsDrawTogether
lengths_draw_together_lem p senders spread row other_row values other_values term other_term even odd other_even other_odd sane first second proper within is also keep next other_next =
    let some : 1 ≤ length senders = omega (arith, keep) in
    let round = round_of p senders row values term sane first second some proper is in
    let other_round = round_of p senders other_row other_values other_term sane first second some proper also in
    let s = steady p row even odd sane next.even_steady next.odd_steady in
    let other_s = steady p other_row other_even other_odd sane other_next.even_steady other_next.odd_steady in (
      draw_together p senders spread row other_row values other_values term other_term even other_even sane first second within is also keep round other_round
          (near_next p row values term even sane first second round is.micro next.even_rate next.even_micro s.once)
          (near_next p other_row other_values other_term other_even sane first second other_round also.micro other_next.even_rate other_next.even_micro other_s.once),
      draw_together p senders spread row other_row values other_values term other_term odd other_odd sane first second within is also keep round other_round
          (near_next p row values term odd sane first second round is.micro next.odd_rate next.odd_micro s.twice)
          (near_next p other_row other_values other_term other_odd sane first second other_round also.micro other_next.odd_rate other_next.odd_micro other_s.twice),
    )

pub half_within : (bound x : ℤ) → IsWithin (bound +ℤ bound) (pos 2 *ℤ x) → IsWithin bound x
half_within bound x within = record { low = omega (arith, ints, within.low); high = omega (arith, ints, within.high) }

pub lengths_stay_together : LengthsStayTogether
lengths_stay_together p senders row other_row values other_values term other_term even odd other_even other_odd sane first second proper within is also keep next other_next =
    let both = lengths_draw_together_lem p senders (pos (lambda_of p)) row other_row values other_values term other_term even odd other_even other_odd sane first second proper within is also keep next other_next in (
      half_within (pos (lambda_of p)) (cycle_length_of p even -ℤ cycle_length_of p other_even) both.0,
      half_within (pos (lambda_of p)) (cycle_length_of p odd -ℤ cycle_length_of p other_odd) both.1,
    )

-- from one sender's odd length
near_sender : (p : Values) (senders : List Sender) (spread : ℤ) (row : NodeRow) (values : List ℤ) (term : Term) (next : NodeRow) (length : ℤ)
    → IsSane p → holds_of 1 p ≡ true → holds_of 2 p ≡ true → All (λ (other : Sender). IsWithin spread (length -ℤ cycle_length_of p other.odd)) senders
    → IsRateRound p senders row values term → (round : Round p row values term) → Near p row values term round next
    → IsWithin (spread +ℤ pos (near_length p)) (cycle_length_of p next -ℤ length)
near_sender p senders spread row values term next length sane first second near is round close =
    let receives = receives_lengths p senders row values sane is.micro is.hears (lasting p row sane first second is.micro) in
    let f = λ (sender : Sender). cycle_length_of p sender.odd in
    let among =
    one_receiver_lem (odd_lengths p senders) (length -ℤ spread) (length +ℤ spread) (pos (y1_of p)) (pos (y1_of p)) (rates_at p row values) round.mid
    (All-mapped (λ (other : Sender). IsWithin spread (length -ℤ cycle_length_of p other.odd)) (λ x. (length -ℤ spread) ≤ℤ x) f senders (λ other h. from_low length (cycle_length_of p other.odd) spread h) near)
    (All-mapped (λ (other : Sender). IsWithin spread (length -ℤ cycle_length_of p other.odd)) (λ x. x ≤ℤ (length +ℤ spread)) f senders (λ other h. from_high length (cycle_length_of p other.odd) spread h) near)
    receives round.middle in
    let damping = sane.ranges name.pClusterDriftDamping in
    let from : pos 0 ≤ℤ p.damping = omega (arith, ints, damping.0) in
    sum spread (p.damping *ℤ pos (longest_micro p)) (y1_of p) (amount p name.pClusterDriftDamping * longest_micro p) (cycle_change p)
    (place_at (rates_at p row values) round.mid) close.damped_length (cycle_length_of p next) length (times_natural p.damping (longest_micro p) from) among.0 among.1 close.damping close.change
  where
    from_low : (a b s : ℤ) → IsWithin s (a -ℤ b) → (a -ℤ s) ≤ℤ b
    from_low a b s h = omega (arith, ints, h.high)

    from_high : (a b s : ℤ) → IsWithin s (a -ℤ b) → b ≤ℤ (a +ℤ s)
    from_high a b s h = omega (arith, ints, h.low)

    sum : (spread c : ℤ) (y1 cqp j : ℕ) (u v w x : ℤ) → pos cqp ≡ c → ((x -ℤ spread) -ℤ pos y1) ≤ℤ u → u ≤ℤ ((x +ℤ spread) +ℤ pos y1)
        → IsWithin c (u -ℤ v) → IsWithin (pos 2 *ℤ pos j) (w -ℤ v) → IsWithin (spread +ℤ pos (y1 + cqp + 2 * j)) (w -ℤ x)
    sum spread c y1 cqp j u v w x is a b d e = record {
      low = omega (arith, ints, d.high, e.low);
      high = omega (arith, ints, d.low, e.high);
    }

pub lengths_stay_near : LengthsStayNear
lengths_stay_near p senders spread row values term even odd sane first second some proper within is next =
    let round = round_of p senders row values term sane first second some proper is in
    let s = steady p row even odd sane next.even_steady next.odd_steady in
    let even_near = near_next p row values term even sane first second round is.micro next.even_rate next.even_micro s.once in
    let odd_near = near_next p row values term odd sane first second round is.micro next.odd_rate next.odd_micro s.twice in
    All-along
    (λ (one : Sender). All (λ (other : Sender). IsWithin spread (cycle_length_of p one.odd -ℤ cycle_length_of p other.odd)) senders)
    (λ (one : Sender). IsWithin (spread +ℤ pos (near_length p)) (cycle_length_of p even -ℤ cycle_length_of p one.odd) × IsWithin (spread +ℤ pos (near_length p)) (cycle_length_of p odd -ℤ cycle_length_of p one.odd))
    senders
    (λ one near. (
      near_sender p senders spread row values term even (cycle_length_of p one.odd) sane first second near is round even_near,
      near_sender p senders spread row values term odd (cycle_length_of p one.odd) sane first second near is round odd_near,
    ))
    within

pub near_length_is_below_lambda : NearLengthIsBelowLambda
near_length_is_below_lambda p = step (y1_of p) (longest_micro p) (cycle_change p) (amount p name.pClusterDriftDamping * longest_micro p)
  where
    step : (y1 qp j cqp : ℕ) → y1 + cqp + 2 * j ≤ 4 * y1 + 2 * qp + 4 * cqp + 8 * j
    step y1 qp j cqp = omega arith
