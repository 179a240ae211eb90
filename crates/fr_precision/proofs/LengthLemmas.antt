-- The sharper laws of rates, over rows.
use Rattle.std.proofs.Common.{◌≡◌, ◌⊎◌, ℕ, ◌+◌, ◌-◌, ◌*◌, ◌≤◌, true, false, ℤ, pos, List, [], length, All, inl, inr, ap, sym, ◌∙◌, subst, arith}
use Rattle.std.specs.Prelude.{◌+ℤ◌, ◌-ℤ◌, ◌*ℤ◌, ◌≤ℤ◌}
use Rattle.std.proofs.lemmas.Int.{ints}
use Rattle.std.proofs.lemmas.Slice.Zip.{AllZip-long}
use Rattle.fr_base.specs.declared.node_row.NodeRow.{NodeRow}
use Rattle.fr_base.specs.declared.Outcome.TheVariants.{Within}
use Rattle.fr_base.specs.Within.{IsBetween, IsWithin}
use Rattle.fr_cluster.specs.Values.{Values, amount}
use Rattle.fr_cluster.specs.Sane.{IsSane}
use Rattle.fr_cluster.specs.declared.names.ParamName.TheVariants as name
use Rattle.fr_midpoint.specs.Midpoint.{IsMidpoint}
use Rattle.fr_midpoint.specs.Receivers.{place_at, Hears, Receiver}
use Rattle.fr_midpoint.specs.Said.{lies_after, AllLieNear, KeepsSaid, SameLieNear}
use Rattle.fr_midpoint.proofs.SaidLemmas.{one_between_lem, two_alone_lem, two_apart_lem}
use Rattle.fr_midpoint.proofs.Zips.{zip_all, zip_both, zip_said}
use Rattle.fr_correct.specs.declared.term.Term.{Term}
use Rattle.fr_correct.specs.Terms.{damped, missing_term, term_of}
use Rattle.fr_bound.specs.Bounds.{cycle_change, longest_micro, shortest_micro}
use Rattle.fr_bound.specs.Sync.{cycle_length_of}
use Rattle.fr_precision.specs.Rows.{longest_cycle, shortest_cycle, HasProperMicro, Sender}
use Rattle.fr_precision.proofs.Figures.{longest_is, shortest_is, times_natural}
use Rattle.fr_precision.proofs.OffsetLaws.{micro_lasts}
use Rattle.fr_precision.proofs.PlacementLaws.{steady_within}
use Rattle.fr_precision.proofs.RateLaws.{limited_within, outcome_within, undamped}
use Rattle.fr_precision.proofs.Senders.{heard_all, All-along}
use Rattle.fr_bound.specs.SharpBounds.{steady_error, wide_change}
use Rattle.fr_precision.specs.Steady.{between_actions, placed_length, PlacesEven}
use Rattle.fr_precision.specs.Lengths.{next_length_error, NextLengthIsNear, CanWalk, EvensAreAbout, EvensWithin, IsAboutCycle, IsNextEven, IsSteadyRound, LengthsComeNear, RangeWalks}
use Rattle.fr_precision.specs.Among.{LengthsComeAmong}
use Rattle.fr_precision.proofs.AmongReceivers.{two_among}
use Rattle.fr_precision.proofs.Signed.{room_of, signed_of}
use Rattle.fr_precision.proofs.Moves.{damped_near}
use Rattle.fr_precision.proofs.Walks.{changed, moved_on, walked, HasRoom, Walked}

-- the receiver of rate values that an odd row is
abbrev pub rates_at : Values → NodeRow → List ℤ → Receiver
rates_at p row values = record { base = cycle_length_of p row; unit = row.length; values = values }

-- how far a rate value may place a sender's even length from the true one, at this receiver
abbrev pub far_of : Values → ℕ → NodeRow → ℤ
far_of p flutter row = pos (flutter + wide_change p) +ℤ (row.length -ℤ pos 1)

-- what its list has of the senders
keeps_said : (p : Values) (flutter : ℕ) (senders : List Sender) (row : NodeRow) (values : List ℤ) → IsSane p → HasProperMicro p row
    → (hears : Hears Sender (λ sender value. PlacesEven p flutter sender row value) senders values) → KeepsSaid hears.said (rates_at p row values)
keeps_said p flutter senders row values sane micro hears = record {
  lasts = (micro_lasts p row sane micro).some;
  further = hears.further;
  parts = hears.parts;
  few = hears.few;
}

-- ---- one receiver

-- what a receiver makes of its rate values
pub record Round (p : Values) (row : NodeRow) (values : List ℤ) (term : Term) (next : ℤ) : Type 0 where
  pub mid : ℤ
  pub middle : IsMidpoint values mid
  pub is : term.value ≡ damped p.damping (row.rate +ℤ mid)
  pub uncut : term.outcome ≡ Within
  pub walks : Walked p.micros p.rate_limit (pos (shortest_micro p)) (pos (longest_micro p)) (pos (cycle_change p)) next row.length (damped p.damping (row.rate +ℤ mid))

takes_lem : (f j wide : ℕ) (t ct walk beyond : ℤ) → ((pos (f + j + wide) +ℤ (t -ℤ pos 1)) -ℤ ct) ≤ℤ walk
    → (((beyond +ℤ (pos (f + wide) +ℤ (t -ℤ pos 1))) +ℤ pos j) -ℤ ct) ≤ℤ (beyond +ℤ walk)
takes_lem f j wide t ct walk beyond le = omega (arith, ints)

has_room : (p : Values) (flutter : ℕ) (beyond walk next : ℤ) (row : NodeRow) → IsSane p → CanWalk p flutter beyond walk → (beyond +ℤ walk) ≤ℤ next → HasProperMicro p row
    → HasRoom p.micros p.damping p.rate_limit (pos (shortest_micro p)) (pos (longest_micro p)) (pos (cycle_change p)) (beyond +ℤ far_of p flutter row) (beyond +ℤ walk) next row.length
has_room p flutter beyond walk next row sane can to_next micro = record {
  takes = takes_lem flutter (cycle_change p) (wide_change p) row.length (p.damping *ℤ row.length) walk beyond (can.bounds row.length micro.least micro.most);
  room = room_of p (beyond +ℤ walk) sane can.suffices;
  to_next = to_next;
}

-- a length beside the range, placed by a rate value
placed_beside : (least most beyond far x y : ℤ) → IsBetween (least -ℤ beyond) (most +ℤ beyond) y → IsWithin far (x -ℤ y) → IsBetween (least -ℤ (beyond +ℤ far)) (most +ℤ (beyond +ℤ far)) x
placed_beside least most beyond far x y about near = record { low = omega (arith, ints, about.low, near.low); high = omega (arith, ints, about.high, near.high) }

round_at : (p : Values) (flutter : ℕ) (senders : List Sender) (beyond walk next : ℤ) (row : NodeRow) (values : List ℤ) (term : Term) (mid : ℤ)
    → IsSane p → CanWalk p flutter beyond walk → (beyond +ℤ walk) ≤ℤ next → EvensAreAbout p beyond senders → HasProperMicro p row
    → Hears Sender (λ sender value. PlacesEven p flutter sender row value) senders values
    → IsMidpoint values mid → term ≡ term_of p.rate_limit (damped p.damping (row.rate +ℤ mid)) → Round p row values term next
round_at p flutter senders beyond walk next row values term mid sane can to_next about micro hears middle is =
    let far = beyond +ℤ far_of p flutter row in
    let among =
    one_between_lem hears.said (pos (shortest_cycle p) -ℤ far) (pos (longest_cycle p) +ℤ far) (rates_at p row values) mid
    (keeps_said p flutter senders row values sane micro hears)
    (
    zip_said (λ (sender : Sender). IsAboutCycle p beyond (cycle_length_of p sender.even)) (λ (sender : Sender) value. PlacesEven p flutter sender row value)
    (λ v. IsBetween (pos (shortest_cycle p) -ℤ far) (pos (longest_cycle p) +ℤ far) (placed_length p row v)) senders hears.said
    (λ sender v near places. placed_beside (pos (shortest_cycle p)) (pos (longest_cycle p)) beyond (far_of p flutter row) (placed_length p row v) (cycle_length_of p sender.even) near places.length) about hears.each
    )
    middle in
    let placed =
    moved (pos (shortest_cycle p)) (p.micros *ℤ pos (shortest_micro p)) (pos (longest_cycle p)) (p.micros *ℤ pos (longest_micro p)) far (placed_length p row mid) ((p.micros +ℤ (row.rate +ℤ mid)) *ℤ row.length)
    (shortest_is p sane) (longest_is p sane) (undamped p.micros row.rate mid row.length) among in
    let walks =
    walked p.micros p.damping p.rate_limit p.offset_limit p.change_bound (pos (shortest_micro p)) (pos (longest_micro p)) (pos (cycle_change p)) (pos (wide_change p)) far (beyond +ℤ walk) next row.length (row.rate +ℤ mid)
    (signed_of p sane) (has_room p flutter beyond walk next row sane can to_next micro) micro.least micro.most placed in
    record {
      mid = mid;
      middle = middle;
      is = ap (λ (t : Term). t.value) is ∙ limited_within p.rate_limit (damped p.damping (row.rate +ℤ mid)) walks.limit;
      uncut = ap (λ (t : Term). t.outcome) is ∙ outcome_within p.rate_limit (damped p.damping (row.rate +ℤ mid)) walks.limit;
      walks = walks;
    }
  where
    moved : (a a' b b' far x y : ℤ) → a ≡ a' → b ≡ b' → y ≡ x → IsBetween (a -ℤ far) (b +ℤ far) x → IsBetween (a' -ℤ far) (b' +ℤ far) y
    moved a a' b b' far x y e g h between = record { low = omega (arith, ints, between.low); high = omega (arith, ints, between.high) }

pub round_of : (p : Values) (flutter : ℕ) (senders : List Sender) (beyond walk next : ℤ) (row : NodeRow) (values : List ℤ) (term : Term)
    → IsSane p → CanWalk p flutter beyond walk → (beyond +ℤ walk) ≤ℤ next → 1 ≤ length senders → EvensAreAbout p beyond senders
    → IsSteadyRound p flutter senders row values term → Round p row values term next
round_of p flutter senders beyond walk next row values term sane can to_next some about round = by_term round.is_term
  where
    by_term : ((values ≡ []) × (term ≡ missing_term row.rate)) ⊎ ((mid : ℤ) × IsMidpoint values mid × (term ≡ term_of p.rate_limit (damped p.damping (row.rate +ℤ mid)))) → Round p row values term next
    by_term (inl (none, is)) =
        let heard = heard_all (λ (sender : Sender) value. PlacesEven p flutter sender row value) senders values round.hears in
        absurd (omega (arith, heard, some, ap length none))
    by_term (inr (mid, middle, is)) = round_at p flutter senders beyond walk next row values term mid sane can to_next about round.micro round.hears middle is

-- the next even length is that at the damped rate
even_length_is : (p : Values) (row : NodeRow) (values : List ℤ) (term : Term) (next : ℤ) (even : NodeRow) (round : Round p row values term next) → IsNextEven p row term even
    → cycle_length_of p even ≡ (p.micros +ℤ damped p.damping (row.rate +ℤ round.mid)) *ℤ even.length
even_length_is p row values term next even round is = ap (λ rate. (p.micros +ℤ rate) *ℤ even.length) (is.rate ∙ round.is)

range_on : (p : Values) (row : NodeRow) (values : List ℤ) (term : Term) (next : ℤ) (even : NodeRow) → IsSane p → (round : Round p row values term next) → pos 0 ≤ℤ next → IsNextEven p row term even
    → IsAboutCycle p next (cycle_length_of p even)
range_on p row values term next even sane round next_from is =
    let b = damped p.damping (row.rate +ℤ round.mid) in
    back (pos (shortest_cycle p)) (p.micros *ℤ pos (shortest_micro p)) (pos (longest_cycle p)) (p.micros *ℤ pos (longest_micro p)) next ((p.micros +ℤ b) *ℤ even.length) (cycle_length_of p even)
    (shortest_is p sane) (longest_is p sane) (even_length_is p row values term next even round is)
    (
    moved_on p.micros p.damping p.rate_limit p.offset_limit p.change_bound (pos (shortest_micro p)) (pos (longest_micro p)) (pos (cycle_change p)) (pos (wide_change p)) next row.length even.length b
    (signed_of p sane) round.walks next_from is.micro.least is.micro.most (steady_within p row even sane is.steady)
    )
  where
    back : (a a' b b' next x y : ℤ) → a ≡ a' → b ≡ b' → y ≡ x → IsBetween (a' -ℤ next) (b' +ℤ next) x → IsBetween (a -ℤ next) (b +ℤ next) y
    back a a' b b' next x y e g h between = record { low = omega (arith, ints, between.low); high = omega (arith, ints, between.high) }

pub range_walks : RangeWalks
range_walks p flutter senders beyond walk next row values term sane can some about is next_from to_next =
    let round = round_of p flutter senders beyond walk next row values term sane can to_next some about is in
    record {
      uncut = round.uncut;
      limit = subst (IsWithin p.rate_limit) (sym round.is) round.walks.limit;
      range = λ even after. range_on p row values term next even sane round next_from after;
    }

-- ---- two receivers

-- the next even length lies near where the midpoint of the rate values lies
pub next_near : (p : Values) (row : NodeRow) (values : List ℤ) (term : Term) (next : ℤ) (even : NodeRow) → IsSane p → HasProperMicro p row → (round : Round p row values term next) → IsNextEven p row term even
    → IsWithin ((p.damping *ℤ pos (longest_micro p)) +ℤ pos (cycle_change p)) (place_at (rates_at p row values) round.mid -ℤ cycle_length_of p even)
next_near p row values term next even sane micro round is =
    let s = signed_of p sane in
    let z = row.rate +ℤ round.mid in
    let b = damped p.damping z in
    sum (p.damping *ℤ pos (longest_micro p)) (pos (cycle_change p)) ((p.micros +ℤ z) *ℤ row.length) (place_at (rates_at p row values) round.mid) ((p.micros +ℤ b) *ℤ row.length) ((p.micros +ℤ b) *ℤ even.length) (cycle_length_of p even)
    (undamped p.micros row.rate round.mid row.length) (even_length_is p row values term next even round is)
    (damped_near p.micros p.damping (pos (shortest_micro p)) (pos (longest_micro p)) row.length z s.c_from s.qm_from micro.least micro.most)
    (
    changed p.micros p.damping p.rate_limit p.offset_limit p.change_bound (pos (shortest_micro p)) (pos (longest_micro p)) (pos (cycle_change p)) (pos (wide_change p)) next row.length even.length b s round.walks
    (steady_within p row even sane is.steady)
    )
  where
    sum : (c j u place v w long : ℤ) → u ≡ place → long ≡ w → IsWithin c (u -ℤ v) → IsWithin j (w -ℤ v) → IsWithin (c +ℤ j) (place -ℤ long)
    sum c j u place v w long e g taken change = record { low = omega (arith, ints, taken.low, change.high); high = omega (arith, ints, taken.high, change.low) }

pub far_to : (f wide d : ℕ) (t : ℤ) → t ≤ℤ pos (1_000_000 + d) → (pos (f + wide) +ℤ (t -ℤ pos 1)) ≤ℤ pos (f + (1_000_000 + d - 1) + wide)
far_to f wide d t most = omega (arith, ints)

pub same_sum : (e : ℕ) (x y m : ℤ) → IsWithin (pos e) (x -ℤ m) → IsWithin (pos e) (y -ℤ m) → IsWithin (pos (2 * e)) (x -ℤ y)
same_sum e x y m a b = record { low = omega (arith, ints, a.low, b.high); high = omega (arith, ints, a.high, b.low) }

pub cross_sum : (spread far other_far : ℤ) (e : ℕ) (x y l k : ℤ) → far ≤ℤ pos e → other_far ≤ℤ pos e → IsWithin spread (l -ℤ k) → IsWithin far (x -ℤ l) → IsWithin other_far (y -ℤ k) → IsWithin (spread +ℤ pos (2 * e)) (x -ℤ y)
cross_sum spread far other_far e x y l k le other_le near a b = record {
  low = omega (arith, ints, near.low, a.low, b.high);
  high = omega (arith, ints, near.high, a.high, b.low);
}

pub alone_sum : (e qp cqp j : ℕ) (c u v w x : ℤ) → pos cqp ≡ c → IsWithin (pos (2 * e) +ℤ pos qp) (u -ℤ w) → IsWithin (c +ℤ pos j) (u -ℤ v) → IsWithin (c +ℤ pos j) (w -ℤ x)
    → IsWithin (pos (2 * e + qp + 2 * cqp + 2 * j)) (v -ℤ x)
alone_sum e qp cqp j c u v w x is apart a b = record {
  low = omega (arith, ints, apart.low, a.high, b.low);
  high = omega (arith, ints, apart.high, a.low, b.high);
}

pub beside_sum : (spread : ℤ) (e qp cqp j : ℕ) (c u v w x : ℤ) → pos cqp ≡ c → IsWithin (pos (2 * e) +ℤ (spread +ℤ pos (2 * e)) +ℤ (pos 2 *ℤ pos qp)) (pos 2 *ℤ (u -ℤ w))
    → IsWithin (c +ℤ pos j) (u -ℤ v) → IsWithin (c +ℤ pos j) (w -ℤ x)
    → IsWithin (spread +ℤ pos (4 * e + 2 * qp + 4 * cqp + 4 * j)) (pos 2 *ℤ (v -ℤ x))
beside_sum spread e qp cqp j c u v w x is apart a b = record {
  low = omega (arith, ints, apart.low, a.high, b.low);
  high = omega (arith, ints, apart.high, a.low, b.high);
}

-- the two values of one sender, and any two
same_near : (p : Values) (flutter : ℕ) (senders : List Sender) (row other_row : NodeRow) (values other_values : List ℤ)
    → (hears : Hears Sender (λ sender value. PlacesEven p flutter sender row value) senders values)
    → (also : Hears Sender (λ sender value. PlacesEven p flutter sender other_row value) senders other_values)
    → All (λ (sender : Sender). Unit {0}) senders
    → SameLieNear (rates_at p row values) (rates_at p other_row other_values) (pos (2 * steady_error p flutter)) hears.said also.said
same_near p flutter senders row other_row values other_values hears also every =
    zip_both (λ (sender : Sender). Unit {0}) (λ (sender : Sender) value. PlacesEven p flutter sender row value) (λ (sender : Sender) value. PlacesEven p flutter sender other_row value)
    (λ v u. IsWithin (pos (2 * steady_error p flutter)) (lies_after (rates_at p row values) (rates_at p other_row other_values) v u)) senders hears.said also.said
    (λ sender v u any places also_places.
    same_sum (steady_error p flutter) (placed_length p row v) (placed_length p other_row u) (between_actions p sender) places.actions also_places.actions)
    every hears.each also.each

cross_near : (p : Values) (flutter : ℕ) (senders : List Sender) (spread : ℤ) (row other_row : NodeRow) (values other_values : List ℤ)
    → HasProperMicro p row → HasProperMicro p other_row
    → (hears : Hears Sender (λ sender value. PlacesEven p flutter sender row value) senders values)
    → (also : Hears Sender (λ sender value. PlacesEven p flutter sender other_row value) senders other_values)
    → EvensWithin p spread senders
    → AllLieNear (rates_at p row values) (rates_at p other_row other_values) (spread +ℤ pos (2 * steady_error p flutter)) hears.said also.said
cross_near p flutter senders spread row other_row values other_values micro other_micro hears also near =
    zip_all (λ (one other : Sender). IsWithin spread (cycle_length_of p one.even -ℤ cycle_length_of p other.even))
    (λ (sender : Sender) value. PlacesEven p flutter sender row value) (λ (sender : Sender) value. PlacesEven p flutter sender other_row value)
    (λ v u. IsWithin (spread +ℤ pos (2 * steady_error p flutter)) (lies_after (rates_at p row values) (rates_at p other_row other_values) v u)) senders hears.said also.said
    (λ one other v u apart places also_places.
    cross_sum spread (far_of p flutter row) (far_of p flutter other_row) (steady_error p flutter) (placed_length p row v) (placed_length p other_row u) (cycle_length_of p one.even) (cycle_length_of p other.even)
    (far_to flutter (wide_change p) (amount p name.xRateBound) row.length micro.most) (far_to flutter (wide_change p) (amount p name.xRateBound) other_row.length other_micro.most) apart places.length also_places.length)
    near hears.each also.each

everywhere : (xs : List Sender) → All (λ (sender : Sender). Unit {0}) xs
everywhere xs i d short = tt

pub damping_is : (p : Values) → IsSane p → pos (amount p name.pClusterDriftDamping * longest_micro p) ≡ p.damping *ℤ pos (longest_micro p)
damping_is p sane = times_natural p.damping (longest_micro p) (signed_of p sane).c_from

pub lengths_come_near_lem : LengthsComeNear
lengths_come_near_lem false p flutter senders spread beyond walk row other_row values other_values term other_term even other_even sane can about within is also keep next other_next =
    let round = round_of p flutter senders beyond walk (beyond +ℤ walk) row values term sane can (itself (beyond +ℤ walk)) keep.0 about is in
    let other_round = round_of p flutter senders beyond walk (beyond +ℤ walk) other_row other_values other_term sane can (itself (beyond +ℤ walk)) keep.0 about also in
    let said = AllZip-long (λ (sender : Sender) value. PlacesEven p flutter sender row value) senders is.hears.said is.hears.each in
    let apart =
    two_alone_lem is.hears.said also.hears.said (pos (2 * steady_error p flutter)) (pos (longest_micro p)) (rates_at p row values) (rates_at p other_row other_values) round.mid other_round.mid
    (keeps_said p flutter senders row values sane is.micro is.hears) (keeps_said p flutter senders other_row other_values sane also.micro also.hears) is.micro.most also.micro.most
    (same_near p flutter senders row other_row values other_values is.hears also.hears (everywhere senders))
    (keep.1 ∙ sym said) (keep.2 ∙ sym said) round.middle other_round.middle in
    alone_sum (steady_error p flutter) (longest_micro p) (amount p name.pClusterDriftDamping * longest_micro p) (cycle_change p) (p.damping *ℤ pos (longest_micro p))
    (place_at (rates_at p row values) round.mid) (cycle_length_of p even) (place_at (rates_at p other_row other_values) other_round.mid) (cycle_length_of p other_even) (damping_is p sane) apart
    (next_near p row values term (beyond +ℤ walk) even sane is.micro round next) (next_near p other_row other_values other_term (beyond +ℤ walk) other_even sane also.micro other_round other_next)
  where
    itself : (a : ℤ) → a ≤ℤ a
    itself a = omega (arith, ints)
lengths_come_near_lem true p flutter senders spread beyond walk row other_row values other_values term other_term even other_even sane can about within is also keep next other_next =
    let some : 1 ≤ length senders = omega (arith, keep) in
    let round = round_of p flutter senders beyond walk (beyond +ℤ walk) row values term sane can (itself (beyond +ℤ walk)) some about is in
    let other_round = round_of p flutter senders beyond walk (beyond +ℤ walk) other_row other_values other_term sane can (itself (beyond +ℤ walk)) some about also in
    let said = AllZip-long (λ (sender : Sender) value. PlacesEven p flutter sender row value) senders is.hears.said is.hears.each in
    let apart =
    two_apart_lem is.hears.said also.hears.said (pos (2 * steady_error p flutter)) (spread +ℤ pos (2 * steady_error p flutter)) (pos (longest_micro p)) (rates_at p row values) (rates_at p other_row other_values) round.mid other_round.mid
    (keeps_said p flutter senders row values sane is.micro is.hears) (keeps_said p flutter senders other_row other_values sane also.micro also.hears) is.micro.most also.micro.most
    (same_near p flutter senders row other_row values other_values is.hears also.hears (everywhere senders))
    (cross_near p flutter senders spread row other_row values other_values is.micro also.micro is.hears also.hears within)
    (omega (arith, keep, said)) round.middle other_round.middle in
    beside_sum spread (steady_error p flutter) (longest_micro p) (amount p name.pClusterDriftDamping * longest_micro p) (cycle_change p) (p.damping *ℤ pos (longest_micro p))
    (place_at (rates_at p row values) round.mid) (cycle_length_of p even) (place_at (rates_at p other_row other_values) other_round.mid) (cycle_length_of p other_even) (damping_is p sane) apart
    (next_near p row values term (beyond +ℤ walk) even sane is.micro round next) (next_near p other_row other_values other_term (beyond +ℤ walk) other_even sane also.micro other_round other_next)
  where
    itself : (a : ℤ) → a ≤ℤ a
    itself a = omega (arith, ints)

-- ---- one receiver and a sender

placed_about : (spread far : ℤ) (e : ℕ) (x l k : ℤ) → far ≤ℤ pos e → IsWithin spread (l -ℤ k) → IsWithin far (x -ℤ k) → IsBetween (l -ℤ (spread +ℤ pos e)) (l +ℤ (spread +ℤ pos e)) x
placed_about spread far e x l k le near placed = record { low = omega (arith, ints, le, near.high, placed.low); high = omega (arith, ints, le, near.low, placed.high) }

near_sum : (spread c : ℤ) (e cqp j : ℕ) (u v l : ℤ) → pos cqp ≡ c → IsBetween (l -ℤ (spread +ℤ pos e)) (l +ℤ (spread +ℤ pos e)) u → IsWithin (c +ℤ pos j) (u -ℤ v) → IsWithin (spread +ℤ pos (e + cqp + j)) (v -ℤ l)
near_sum spread c e cqp j u v l is between near = record { low = omega (arith, ints, between.low, near.high); high = omega (arith, ints, between.high, near.low) }

-- any length that lies near the senders' ones
pub near_length : (p : Values) (flutter : ℕ) (senders : List Sender) (spread beyond walk long : ℤ) (row : NodeRow) (values : List ℤ) (term : Term) (even : NodeRow)
    → IsSane p → CanWalk p flutter beyond walk → 1 ≤ length senders → EvensAreAbout p beyond senders
    → All (λ (sender : Sender). IsWithin spread (long -ℤ cycle_length_of p sender.even)) senders
    → IsSteadyRound p flutter senders row values term → IsNextEven p row term even
    → IsWithin (spread +ℤ pos (next_length_error p flutter)) (cycle_length_of p even -ℤ long)
near_length p flutter senders spread beyond walk long row values term even sane can some about near is next =
    let round = round_of p flutter senders beyond walk (beyond +ℤ walk) row values term sane can (itself (beyond +ℤ walk)) some about is in
    let e = steady_error p flutter in
    let among =
    one_between_lem is.hears.said (long -ℤ (spread +ℤ pos e)) (long +ℤ (spread +ℤ pos e)) (rates_at p row values) round.mid (keeps_said p flutter senders row values sane is.micro is.hears)
    (
    zip_said (λ (other : Sender). IsWithin spread (long -ℤ cycle_length_of p other.even)) (λ (sender : Sender) value. PlacesEven p flutter sender row value)
    (λ v. IsBetween (long -ℤ (spread +ℤ pos e)) (long +ℤ (spread +ℤ pos e)) (placed_length p row v)) senders is.hears.said
    (λ other v close places.
    placed_about spread (far_of p flutter row) e (placed_length p row v) long (cycle_length_of p other.even) (far_to flutter (wide_change p) (amount p name.xRateBound) row.length is.micro.most) close places.length)
    near is.hears.each
    )
    round.middle in
    near_sum spread (p.damping *ℤ pos (longest_micro p)) e (amount p name.pClusterDriftDamping * longest_micro p) (cycle_change p) (place_at (rates_at p row values) round.mid) (cycle_length_of p even) long (damping_is p sane) among
    (next_near p row values term (beyond +ℤ walk) even sane is.micro round next)
  where
    itself : (a : ℤ) → a ≤ℤ a
    itself a = omega (arith, ints)

pub next_length_is_near : NextLengthIsNear
next_length_is_near p flutter senders spread beyond walk row values term even sane can some about within is next =
    All-along (λ (one : Sender). All (λ (other : Sender). IsWithin spread (cycle_length_of p one.even -ℤ cycle_length_of p other.even)) senders)
    (λ (one : Sender). IsWithin (spread +ℤ pos (next_length_error p flutter)) (cycle_length_of p even -ℤ cycle_length_of p one.even)) senders
    (λ one near. near_length p flutter senders spread beyond walk (cycle_length_of p one.even) row values term even sane can some about near is next)
    within

-- ---- two receivers, whichever senders each of them has heard

among_sum : (spread : ℤ) (e cqp j : ℕ) (c u v w x : ℤ) → pos cqp ≡ c → IsWithin (spread +ℤ pos (2 * e)) (u -ℤ w) → IsWithin (c +ℤ pos j) (u -ℤ v) → IsWithin (c +ℤ pos j) (w -ℤ x)
    → IsWithin (spread +ℤ pos (2 * e + 2 * cqp + 2 * j)) (v -ℤ x)
among_sum spread e cqp j c u v w x is apart a b = record {
  low = omega (arith, ints, apart.low, a.high, b.low);
  high = omega (arith, ints, apart.high, a.low, b.high);
}

across_near : (p : Values) (flutter : ℕ) (senders other_senders : List Sender) (spread : ℤ) (row other_row : NodeRow) (values other_values : List ℤ)
    → HasProperMicro p row → HasProperMicro p other_row
    → (hears : Hears Sender (λ sender value. PlacesEven p flutter sender row value) senders values)
    → (also : Hears Sender (λ sender value. PlacesEven p flutter sender other_row value) other_senders other_values)
    → All (λ (one : Sender). All (λ (other : Sender). IsWithin spread (cycle_length_of p one.even -ℤ cycle_length_of p other.even)) other_senders) senders
    → AllLieNear (rates_at p row values) (rates_at p other_row other_values) (spread +ℤ pos (2 * steady_error p flutter)) hears.said also.said
across_near p flutter senders other_senders spread row other_row values other_values micro other_micro hears also near =
    zip_said (λ (one : Sender). All (λ (other : Sender). IsWithin spread (cycle_length_of p one.even -ℤ cycle_length_of p other.even)) other_senders)
    (λ (sender : Sender) value. PlacesEven p flutter sender row value)
    (λ v. All (λ u. IsWithin (spread +ℤ pos (2 * steady_error p flutter)) (lies_after (rates_at p row values) (rates_at p other_row other_values) v u)) also.said) senders hears.said
    (λ one v all places.
    zip_said (λ (other : Sender). IsWithin spread (cycle_length_of p one.even -ℤ cycle_length_of p other.even))
    (λ (sender : Sender) value. PlacesEven p flutter sender other_row value)
    (λ u. IsWithin (spread +ℤ pos (2 * steady_error p flutter)) (lies_after (rates_at p row values) (rates_at p other_row other_values) v u)) other_senders also.said
    (λ other u apart also_places.
    cross_sum spread (far_of p flutter row) (far_of p flutter other_row) (steady_error p flutter) (placed_length p row v) (placed_length p other_row u) (cycle_length_of p one.even) (cycle_length_of p other.even)
    (far_to flutter (wide_change p) (amount p name.xRateBound) row.length micro.most) (far_to flutter (wide_change p) (amount p name.xRateBound) other_row.length other_micro.most) apart places.length also_places.length)
    all also.each)
    near hears.each

pub lengths_come_among_lem : LengthsComeAmong
lengths_come_among_lem p flutter senders other_senders spread beyond walk row other_row values other_values term other_term even other_even sane can some other_some about other_about near is also next other_next =
    let round = round_of p flutter senders beyond walk (beyond +ℤ walk) row values term sane can (itself (beyond +ℤ walk)) some about is in
    let other_round = round_of p flutter other_senders beyond walk (beyond +ℤ walk) other_row other_values other_term sane can (itself (beyond +ℤ walk)) other_some other_about also in
    let apart =
    two_among is.hears.said also.hears.said (spread +ℤ pos (2 * steady_error p flutter)) (rates_at p row values) (rates_at p other_row other_values) round.mid other_round.mid
    (keeps_said p flutter senders row values sane is.micro is.hears) (keeps_said p flutter other_senders other_row other_values sane also.micro also.hears)
    (across_near p flutter senders other_senders spread row other_row values other_values is.micro also.micro is.hears also.hears near)
    round.middle other_round.middle in
    among_sum spread (steady_error p flutter) (amount p name.pClusterDriftDamping * longest_micro p) (cycle_change p) (p.damping *ℤ pos (longest_micro p))
    (place_at (rates_at p row values) round.mid) (cycle_length_of p even) (place_at (rates_at p other_row other_values) other_round.mid) (cycle_length_of p other_even) (damping_is p sane) apart
    (next_near p row values term (beyond +ℤ walk) even sane is.micro round next) (next_near p other_row other_values other_term (beyond +ℤ walk) other_even sane also.micro other_round other_next)
  where
    itself : (a : ℤ) → a ≤ℤ a
    itself a = omega (arith, ints)
