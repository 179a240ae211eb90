-- What a node counts from one frame of its reference to the next.
use Rattle.std.proofs.Common.{◌≡◌, ℕ, ◌+◌, ◌*◌, ◌<◌, true, false, ℤ, pos, refl, ap, ◌∙◌, arith}
use Rattle.std.specs.Prelude.{neg_ℤ, ◌+ℤ◌, ◌-ℤ◌, ◌*ℤ◌, ◌≤ℤ◌, ◌<ℤ◌}
use Rattle.std.proofs.lemmas.Int.{ints, by_lt_z}
use Rattle.fr_base.specs.Within.{IsWithin}
use Rattle.fr_base.specs.declared.node_row.NodeRow.{NodeRow}
use Rattle.fr_cluster.specs.Values.{Values, amount}
use Rattle.fr_cluster.specs.Sane.{IsSane}
use Rattle.fr_cluster.specs.Questions.{compensation_of}
use Rattle.fr_cluster.specs.declared.names.ParamName.TheVariants as name
use Rattle.fr_midpoint.proofs.Products.{addz-mulz, mulz-addz, mulz-lez, mulz-lez_left, mulz-subz, mulz_within}
use Rattle.fr_time.specs.Position.{grid_for}
use Rattle.fr_time.specs.Instant.{instant_of}
use Rattle.fr_time.specs.Slots.{action_point_of, slot_end_of}
use Rattle.fr_time.proofs.Placing.{action_point_lt}
use Rattle.fr_reception.specs.Listening.{Caught, caught_micros, first_rate_of}
use Rattle.fr_bound.specs.Bounds.{cycle_change, follower_error, longest_micro, nominal, shortest_micro, widest}
use Rattle.fr_bound.specs.Sync.{cycle_length_of}
use Rattle.fr_precision.specs.Rows.{longest_cycle, shortest_cycle}
use Rattle.fr_precision.proofs.Figures.{longest_is, natural, shortest_is}
use Rattle.fr_time.proofs.Lines.{rest_of}
use Rattle.fr_precision.proofs.OffsetLaws.{shortest_from}
use Rattle.fr_precision.proofs.PlacementLaws.{change_of, step_of}
use Rattle.fr_precision.proofs.ReceptionLaws.{ends_before}
use Rattle.fr_runs.specs.Listening.{CaughtLengthIsNear, FirstLengthsAreNear, FirstRateIsWithin, FollowersLengthsAreNear, IsCaught}
use Rattle.fr_runs.proofs.Checked.{Room, room_of}

pub no_less : (n : ℕ) → pos 0 ≤ℤ pos n
no_less n = omega (arith, ints)

-- the reference sends before the offset correction starts
pub acts_early : (p : Values) (c : Caught) (even odd : NodeRow) → IsSane p → IsCaught p c even odd → pos (action_point_of p c.slot) ≤ℤ p.correction
acts_early p c even odd sane is =
    sooner (action_point_of p c.slot) (slot_end_of p c.slot) p.correction (action_point_lt p c.slot sane is.slot_from) (ends_before p c.slot sane is.slot_to)
  where
    sooner : (a hi : ℕ) (o : ℤ) → a < hi → pos hi ≤ℤ o → pos a ≤ℤ o
    sooner a hi o less le = omega (arith, ints)

-- two arrivals that are counted in microticks of a length, rounded down
counted : (early late x y sent t qt long change : ℤ) (e j q : ℕ) → y -ℤ x ≡ long -ℤ change → IsWithin (pos j) change
    → IsWithin (pos e) ((early -ℤ x) -ℤ sent) → IsWithin (pos e) ((late -ℤ y) -ℤ sent)
    → pos 0 ≤ℤ ((late -ℤ early) -ℤ qt) → (((late -ℤ early) -ℤ qt) +ℤ pos 1) ≤ℤ t → t ≤ℤ pos q
    → ((long -ℤ pos (2 * e + j + q)) <ℤ qt) × (qt ≤ℤ (long +ℤ pos (2 * e + j)))
counted early late x y sent t qt long change e j q is near one other from to most = (
  omega (arith, ints, is, near.high, one.high, other.low, to, most),
  omega (arith, ints, is, near.low, one.low, other.high, from),
)

pub caught_length_is_near : CaughtLengthIsNear
caught_length_is_near p c even odd sane is =
    let a = pos (action_point_of p c.slot) in
    let step = step_of p even odd a sane is.regular (no_less (action_point_of p c.slot)) (acts_early p c even odd sane is) in
    let rest = rest_of (c.late -ℤ c.early) c.even_length (lasts (pos (shortest_micro p)) c.even_length (shortest_from p sane) is.even_least) in
    counted c.early c.late (instant_of (grid_for p) even false a) (instant_of (grid_for p) odd true a) (compensation_of p c.channel *ℤ pos nominal) c.even_length
    (caught_micros c *ℤ c.even_length) (cycle_length_of p odd) step.change (amount p name.xDelayError) (cycle_change p) (longest_micro p)
    step.is step.near is.early_delay is.late_delay rest.from rest.to is.even_most
  where
    lasts : (q t : ℤ) → pos 1 ≤ℤ q → q ≤ℤ t → pos 0 <ℤ t
    lasts q t a b = omega (arith, ints)

-- so it lies within what a first length may be off
caught_within : (p : Values) (c : Caught) (even odd : NodeRow) → IsSane p → IsCaught p c even odd
    → IsWithin (pos (follower_error p)) ((caught_micros c *ℤ c.even_length) -ℤ cycle_length_of p odd)
caught_within p c even odd sane is =
    let near = caught_length_is_near p c even odd sane is in
    step (caught_micros c *ℤ c.even_length) (cycle_length_of p odd) (amount p name.xDelayError) (widest p * amount p name.xRateBound) (longest_micro p) (cycle_change p) (follower_error p)
    refl near.0 near.1
  where
    step : (x long : ℤ) (e u q j more : ℕ) → more ≡ (2 * (e + u) + 2 * q + 3 * j) + 4 * j → (long -ℤ pos (2 * e + j + q)) <ℤ x → x ≤ℤ (long +ℤ pos (2 * e + j))
        → IsWithin (pos more) (x -ℤ long)
    step x long e u q j more is low high = record { low = omega (arith, ints); high = omega (arith, ints) }

-- a count of microticks that comes to about a cycle's length lies within the rate limit of the cycle's own
count_above : (n ro qm qp more t q long : ℤ) → Room n ro qm qp more → qm ≤ℤ t → long ≤ℤ (n *ℤ qp) → ((q *ℤ t) -ℤ long) ≤ℤ more → (q -ℤ n) ≤ℤ ro
count_above n ro qm qp more t q long room least most near =
    by_lt_z ro (q -ℤ n)
    (λ over.
    let n_from : pos 0 ≤ℤ n = omega (arith, ints, room.n_from) in
    let t_from : pos 0 ≤ℤ t = omega (arith, ints, least, room.qm_from) in
    let up : (((n +ℤ ro) +ℤ pos 1) *ℤ t) ≤ℤ (q *ℤ t) = mulz-lez ((n +ℤ ro) +ℤ pos 1) q t (omega (arith, ints, over)) t_from in
    absurd
    (
    contrary (((n +ℤ ro) +ℤ pos 1) *ℤ t) ((n +ℤ ro) *ℤ t) (pos 1 *ℤ t) t (n *ℤ t) (ro *ℤ t) (n *ℤ qm) (n *ℤ qp) (ro *ℤ qm) (q *ℤ t) long more
    (addz-mulz (n +ℤ ro) (pos 1) t) (addz-mulz n ro t) (once t) up
    (mulz-lez_left qm t n least n_from) (mulz-lez_left qm t ro least room.ro_from) room.limits most near (omega (arith, ints, least, room.qm_from))
    ))
    (λ le. le)
  where
    once : (t : ℤ) → pos 1 *ℤ t ≡ t
    once t = omega (arith, ints)

    contrary : (all sum one t nt rt nm np rm qt long more : ℤ) → all ≡ sum +ℤ one → sum ≡ nt +ℤ rt → one ≡ t → all ≤ℤ qt → nm ≤ℤ nt → rm ≤ℤ rt
        → ((np -ℤ nm) +ℤ more) ≤ℤ rm → long ≤ℤ np → (qt -ℤ long) ≤ℤ more → pos 0 <ℤ t → ⊥
    contrary all sum one t nt rt nm np rm qt long more a b c d e f g h i j = omega (arith, ints)

count_from : (n ro qm qp more t q long : ℤ) → Room n ro qm qp more → qm ≤ℤ t → (n *ℤ qm) ≤ℤ long → neg_ℤ more ≤ℤ ((q *ℤ t) -ℤ long) → pos 0 ≤ℤ q
count_from n ro qm qp more t q long room least from near =
    by_lt_z q (pos 0)
    (λ under.
    let n_from : pos 0 ≤ℤ n = omega (arith, ints, room.n_from) in
    let qm_from : pos 0 ≤ℤ qm = omega (arith, ints, room.qm_from) in
    let t_from : pos 0 ≤ℤ t = omega (arith, ints, least, room.qm_from) in
    let down : (q *ℤ t) ≤ℤ (neg_ℤ (pos 1) *ℤ t) = mulz-lez q (neg_ℤ (pos 1)) t (omega (arith, ints, under)) t_from in
    absurd
    (
    contrary (q *ℤ t) (neg_ℤ (pos 1) *ℤ t) t (n *ℤ qm) (n *ℤ qp) (ro *ℤ qm) long more down (minus t) (mulz-lez_left qm qp n room.order n_from) (mulz-lez ro n qm room.ro_to qm_from)
    room.limits from near (omega (arith, ints, least, room.qm_from))
    ))
    (λ le. le)
  where
    minus : (t : ℤ) → neg_ℤ (pos 1) *ℤ t ≡ neg_ℤ t
    minus t = omega (arith, ints)

    contrary : (qt mt t nm np rm long more : ℤ) → qt ≤ℤ mt → mt ≡ neg_ℤ t → nm ≤ℤ np → rm ≤ℤ nm → ((np -ℤ nm) +ℤ more) ≤ℤ rm → nm ≤ℤ long → neg_ℤ more ≤ℤ (qt -ℤ long) → pos 0 <ℤ t → ⊥
    contrary qt mt t nm np rm long more a b c d e f g h = omega (arith, ints)

count_below : (n ro qm qp more t q long : ℤ) → Room n ro qm qp more → t ≤ℤ qp → pos 0 ≤ℤ q → (n *ℤ qm) ≤ℤ long → neg_ℤ more ≤ℤ ((q *ℤ t) -ℤ long) → neg_ℤ ro ≤ℤ (q -ℤ n)
count_below n ro qm qp more t q long room most q_from from near =
    by_lt_z (q -ℤ n) (neg_ℤ ro)
    (λ under.
    let qp_from : pos 0 ≤ℤ qp = omega (arith, ints, room.order, room.qm_from) in
    let up : (((q +ℤ ro) +ℤ pos 1) *ℤ qp) ≤ℤ (n *ℤ qp) = mulz-lez ((q +ℤ ro) +ℤ pos 1) n qp (omega (arith, ints, under)) qp_from in
    absurd
    (
    contrary (((q +ℤ ro) +ℤ pos 1) *ℤ qp) ((q +ℤ ro) *ℤ qp) (pos 1 *ℤ qp) qp (q *ℤ qp) (ro *ℤ qp) (n *ℤ qm) (n *ℤ qp) (ro *ℤ qm) (q *ℤ t) long more
    (addz-mulz (q +ℤ ro) (pos 1) qp) (addz-mulz q ro qp) (once qp) up
    (mulz-lez_left t qp q most q_from) (mulz-lez_left qm qp ro room.order room.ro_from) room.limits from near (omega (arith, ints, room.order, room.qm_from))
    ))
    (λ le. le)
  where
    once : (t : ℤ) → pos 1 *ℤ t ≡ t
    once t = omega (arith, ints)

    contrary : (all sum one t ql rl nm np rm qt long more : ℤ) → all ≡ sum +ℤ one → sum ≡ ql +ℤ rl → one ≡ t → all ≤ℤ np → qt ≤ℤ ql → rm ≤ℤ rl
        → ((np -ℤ nm) +ℤ more) ≤ℤ rm → nm ≤ℤ long → neg_ℤ more ≤ℤ (qt -ℤ long) → pos 0 <ℤ t → ⊥
    contrary all sum one t ql rl nm np rm qt long more a b c d e f g h i j = omega (arith, ints)

pub first_rate_is_within : FirstRateIsWithin
first_rate_is_within p c even odd sane suffices is =
    let room = room_of p sane suffices in
    let near = caught_within p c even odd sane is in
    let long = cycle_length_of p odd in
    let from = moved_low (pos (shortest_cycle p)) (p.micros *ℤ pos (shortest_micro p)) long (shortest_is p sane) is.proper.0 in
    let to = moved_high (pos (longest_cycle p)) (p.micros *ℤ pos (longest_micro p)) long (longest_is p sane) is.proper.1 in
    let some = count_from p.micros p.rate_limit (pos (shortest_micro p)) (pos (longest_micro p)) (pos (follower_error p)) c.even_length (caught_micros c) long room is.even_least from near.low in
    record {
      low = count_below p.micros p.rate_limit (pos (shortest_micro p)) (pos (longest_micro p)) (pos (follower_error p)) c.even_length (caught_micros c) long room is.even_most some from near.low;
      high = count_above p.micros p.rate_limit (pos (shortest_micro p)) (pos (longest_micro p)) (pos (follower_error p)) c.even_length (caught_micros c) long room is.even_least to near.high;
    }
  where
    moved_low : (a b x : ℤ) → a ≡ b → a ≤ℤ x → b ≤ℤ x
    moved_low a b x e le = omega (arith, ints)

    moved_high : (a b x : ℤ) → a ≡ b → x ≤ℤ a → x ≤ℤ b
    moved_high a b x e le = omega (arith, ints)

-- what three changes of the microtick make of the counted length
pub first_lengths_are_near : FirstLengthsAreNear
first_lengths_are_near p c even odd micro sane suffices is moves =
    let caught = caught_length_is_near p c even odd sane is in
    let rate = first_rate_is_within p c even odd sane suffices is in
    let room = room_of p sane suffices in
    let change = sane.ranges name.xChangeBound in
    let q = caught_micros c in
    let w = p.change_bound in
    let whole = p.micros +ℤ p.rate_limit in
    let wide : IsWithin ((w +ℤ w) +ℤ w) (micro -ℤ c.even_length) = thrice w (amount p name.xChangeBound) (micro -ℤ c.even_length) (natural w (omega (arith, ints, change.0))) moves in
    let product : IsWithin (whole *ℤ ((w +ℤ w) +ℤ w)) (q *ℤ (micro -ℤ c.even_length)) =
    mulz_within q (micro -ℤ c.even_length) whole ((w +ℤ w) +ℤ w) (from p.micros p.rate_limit q room.ro_to rate.low) (to p.micros p.rate_limit q rate.high) wide in
    let three : whole *ℤ ((w +ℤ w) +ℤ w) ≡ ((whole *ℤ w) +ℤ (whole *ℤ w)) +ℤ (whole *ℤ w) = mulz-addz (w +ℤ w) w whole ∙ ap (λ x. x +ℤ (whole *ℤ w)) (mulz-addz w w whole) in
    sum (q *ℤ c.even_length) (q *ℤ micro) (q *ℤ (micro -ℤ c.even_length)) (cycle_length_of p odd) (whole *ℤ w) (whole *ℤ ((w +ℤ w) +ℤ w))
    (amount p name.xDelayError) (widest p * amount p name.xRateBound) (longest_micro p) (cycle_change p) (follower_error p)
    refl (mulz-subz micro c.even_length q) three (change_of p sane) caught.0 caught.1 product
  where
    thrice : (w : ℤ) (k : ℕ) (x : ℤ) → w ≡ pos k → IsWithin (pos (3 * k)) x → IsWithin ((w +ℤ w) +ℤ w) x
    thrice w k x is within = record { low = omega (arith, ints, within.low); high = omega (arith, ints, within.high) }

    from : (n ro q : ℤ) → ro ≤ℤ n → neg_ℤ ro ≤ℤ (q -ℤ n) → pos 0 ≤ℤ q
    from n ro q a b = omega (arith, ints)

    to : (n ro q : ℤ) → (q -ℤ n) ≤ℤ ro → q ≤ℤ (n +ℤ ro)
    to n ro q a = omega (arith, ints)

    sum : (x y d long once three : ℤ) (e u q j more : ℕ) → more ≡ (2 * (e + u) + 2 * q + 3 * j) + 4 * j → d ≡ y -ℤ x → three ≡ (once +ℤ once) +ℤ once → pos j ≡ once
        → (long -ℤ pos (2 * e + j + q)) <ℤ x → x ≤ℤ (long +ℤ pos (2 * e + j)) → IsWithin three d → IsWithin (pos more) (y -ℤ long)
    sum x y d long once three e u q j more a b f g low high within = record { low = omega (arith, ints, within.low); high = omega (arith, ints, within.high) }

-- a length at the first rate is so many of the counted microticks
pub first_length_is : (p : Values) (c : Caught) (row : NodeRow) → row.rate ≡ first_rate_of p c → cycle_length_of p row ≡ caught_micros c *ℤ row.length
first_length_is p c row is = ap (λ rate. (p.micros +ℤ rate) *ℤ row.length) is ∙ ap (λ micros. micros *ℤ row.length) (back p.micros (caught_micros c))
  where
    back : (n q : ℤ) → n +ℤ (q -ℤ n) ≡ q
    back n q = omega (arith, ints)

pub same_length : (bound x y long : ℤ) → x ≡ y → IsWithin bound (y -ℤ long) → IsWithin bound (x -ℤ long)
same_length bound x y long is within = record { low = omega (arith, ints, within.low); high = omega (arith, ints, within.high) }

pub followers_lengths_are_near : FollowersLengthsAreNear
followers_lengths_are_near p c even odd first_even first_odd sane suffices is begins =
    let moves = steps (amount p name.xChangeBound) c.even_length c.odd_length first_even.length first_odd.length is.steady begins.even_steady begins.odd_steady in (
      same_length (pos (follower_error p)) (cycle_length_of p first_even) (caught_micros c *ℤ first_even.length) (cycle_length_of p odd) (first_length_is p c first_even begins.even_rate)
          (first_lengths_are_near p c even odd first_even.length sane suffices is moves.0),
      same_length (pos (follower_error p)) (cycle_length_of p first_odd) (caught_micros c *ℤ first_odd.length) (cycle_length_of p odd) (first_length_is p c first_odd begins.odd_rate)
          (first_lengths_are_near p c even odd first_odd.length sane suffices is moves.1),
    )
  where
    steps : (w : ℕ) (a b x y : ℤ) → IsWithin (pos w) (b -ℤ a) → IsWithin (pos w) (x -ℤ b) → IsWithin (pos w) (y -ℤ x) → IsWithin (pos (3 * w)) (x -ℤ a) × IsWithin (pos (3 * w)) (y -ℤ a)
    steps w a b x y one two three = (
      record { low = omega (arith, ints, one.low, two.low, two.high); high = omega (arith, ints, one.high, two.high, two.low) },
      record { low = omega (arith, ints, one.low, two.low, three.low); high = omega (arith, ints, one.high, two.high, three.high) },
    )
