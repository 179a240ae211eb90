-- The corners of senders with frames in both cycles on a channel.
use Rattle.std.proofs.Common.{◌≡◌, ℕ, ◌+◌, ◌*◌, All, Option, Some, None, ℤ, pos, List, refl, ap, sym, ◌∙◌, subst, arith}
use Rattle.std.specs.Prelude.{◌+ℤ◌, ◌-ℤ◌, ◌*ℤ◌, ◌≤ℤ◌, Contains, IsSome, false, int_lt}
use Rattle.std.specs.Int.{int_max, int_min}
use Rattle.std.proofs.lemmas.Int.{ints}
use Rattle.std.proofs.lemmas.List.Elements.{All-contains}
use Rattle.fr_base.specs.declared.channel.Channel.{Channel}
use Rattle.fr_base.specs.declared.channel.Channel.TheVariants.{A, B}
use Rattle.fr_cluster.specs.Setting.{Setting}
use Rattle.fr_cluster.specs.declared.nodes.NodeSpec.{NodeSpec}
use Rattle.fr_time.specs.Slots.{action_point_of}
use Rattle.fr_history.specs.Cycles.{Cycle, Cycles}
use Rattle.fr_history.specs.History.{row_for}
use Rattle.fr_runs.specs.Numbers.{HasDouble}
use Rattle.fr_log.specs.View.{LogView}
use Rattle.fr_course.specs.Course.{allowed, apart_by, between, breadth_of, course_by, course_from, even_start, even_turn, length_seen, odd_start, odd_turn, span_of, stamped}
use Rattle.fr_course.specs.Readings.{least_reading, meet, meet_all, most_reading, reading_scale}
use Rattle.fr_course.specs.declared.courses.Course.{Course}
use Rattle.fr_course.specs.declared.intervals.Interval.{Interval}
use Rattle.fr_course.specs.Scales.{Scale}
use Rattle.fr_course.specs.declared.stamps.Delays.{Delays}
use Rattle.fr_course.specs.declared.stamps.Observer.{Observer}
use Rattle.fr_observe.specs.Observing.{senders_of}
use Rattle.fr_sightings.specs.Senders.{box_by, box_on, course_in, delays_in, first_stamp, if_there, observer_of, on_both_channels, seen_box, seen_sender, seen_senders, seen_span, sender_on, sightings_in, span_by, span_on}
use Rattle.fr_sightings.specs.Sightings.{sightings_of}
use Rattle.fr_sightings.specs.declared.sender.Sender.{Sender}
use Rattle.fr_sightings.specs.declared.sighting.Sighting.{Sighting}
use Rattle.fr_seen.specs.Clocks.{StraightClock}
use Rattle.fr_seen.specs.LogSeen.{IsSenderOn, log_senders, run_double}
use Rattle.fr_seen.proofs.CourseLaws.{courses_are_there}
use Rattle.fr_seen.proofs.Doubles.{numbers_of}
use Rattle.fr_seen.proofs.Pairs.{max_left, max_right}
use Rattle.fr_seen.proofs.SenderLaws.{all_given, sender_found, senders_are_on_course}
use Rattle.fr_seen.specs.Completeness.{CornersAreNarrow, HasNarrowCorners, IsNoWider, IsSharp, corner_width, length_width, stamp_width}
use Rattle.fr_seen.specs.Contradictions.{IsObservedRun}
use Rattle.fr_seen.proofs.CompletenessWidths.{corners_are_narrow, min_left, min_right}

-- ---- intervals inside others

pub record LiesInside (outer inner : Interval) : Type 0 where
  pub low : outer.low ≤ℤ inner.low
  pub high : inner.high ≤ℤ outer.high

inside_itself : (i : Interval) → LiesInside i i
inside_itself i = record { low = itself i.low; high = itself i.high }
  where
    itself : (a : ℤ) → a ≤ℤ a
    itself a = omega (arith, ints)

inside_first : (i j : Interval) → LiesInside i (meet i j)
inside_first i j = record { low = max_left i.low j.low; high = min_left i.high j.high }

inside_second : (i j : Interval) → LiesInside j (meet i j)
inside_second i j = record { low = max_right i.low j.low; high = min_right i.high j.high }

-- what is not out of order is in order
pub ordered : (low high : ℤ) → int_lt high low ≡ false → low ≤ℤ high
ordered low high is = grind (arith, ints)

-- what is no wider than one width is no wider than a greater one
pub wider : (a b : ℤ) (i : Interval) → IsNoWider a i → a ≤ℤ b → IsNoWider b i
wider a b i h k = trans (i.high -ℤ i.low) a b h k
  where
    trans : (a b c : ℤ) → a ≤ℤ b → b ≤ℤ c → a ≤ℤ c
    trans a b c h k = omega (arith, ints)

-- what is inside is no wider, and by how much what comes of it is wider
narrower : (width : ℤ) (outer inner : Interval) → IsNoWider width outer → LiesInside outer inner → IsNoWider width inner
narrower width outer inner wide is = less width outer.low outer.high inner.low inner.high wide is.low is.high
  where
    less : (w a b c d : ℤ) → (b -ℤ a) ≤ℤ w → a ≤ℤ c → d ≤ℤ b → (d -ℤ c) ≤ℤ w
    less w a b c d h k l = omega (arith, ints)

-- ---- by both channels

-- that of a channel
abbrev of_channel : Channel → Option Interval → Option Interval → Option Interval
of_channel A on_a on_b = on_a
of_channel B on_a on_b = on_b

pub record IsInsideSome (outer : Interval) (o : Option Interval) : Type 0 where
  pub inner : Interval
  pub is : o ≡ Some inner
  pub inside : LiesInside outer inner

met : (ch : Channel) (on_a on_b : Option Interval) (i : Interval) → of_channel ch on_a on_b ≡ Some i → IsInsideSome i (on_both_channels on_a on_b)
unfolding meet_all
met A None on_b i is = absurd (cc is)
met A (Some a) None i is = record { inner = a; is = refl; inside = subst (λ j. LiesInside j a) (same a i is) (inside_itself a) }
  where
    same : (a b : Interval) → Some a ≡ Some b → a ≡ b
    same a b is = cc is
met A (Some a) (Some b) i is = record { inner = meet b a; is = refl; inside = subst (λ j. LiesInside j (meet b a)) (same a i is) (inside_second b a) }
  where
    same : (a b : Interval) → Some a ≡ Some b → a ≡ b
    same a b is = cc is
met B on_a None i is = absurd (cc is)
met B None (Some b) i is = record { inner = b; is = refl; inside = subst (λ j. LiesInside j b) (same b i is) (inside_itself b) }
  where
    same : (a b : Interval) → Some a ≡ Some b → a ≡ b
    same a b is = cc is
met B (Some a) (Some b) i is = record { inner = meet b a; is = refl; inside = subst (λ j. LiesInside j (meet b a)) (same b i is) (inside_first b a) }
  where
    same : (a b : Interval) → Some a ≡ Some b → a ≡ b
    same a b is = cc is

-- ---- boxes and spans

module _ (l : LogView) (seen : List Sighting) (node cycle : ℕ) (limits : Delays) where
  abbrev Box : ℕ → Interval
  Box stamp = stamped (observer_of l) limits (pos stamp)

  box_is : (ch : Channel) (stamp : ℕ) → delays_in l node ch ≡ Some limits → first_stamp seen node ch cycle ≡ Some stamp
      → box_on l seen node cycle ch ≡ Some (stamped (observer_of l) limits (pos stamp))
  box_is ch stamp limited at =
      ap (λ (d : Option Delays). box_by (observer_of l) d (first_stamp seen node ch cycle)) limited ∙ ap (box_by (observer_of l) (Some limits)) at

  pub box_inside : (ch : Channel) (stamp : ℕ) → delays_in l node ch ≡ Some limits → first_stamp seen node ch cycle ≡ Some stamp
      → IsInsideSome (stamped (observer_of l) limits (pos stamp)) (seen_box l seen node cycle)
  unfolding seen_box
  box_inside A stamp limited at = met A (box_on l seen node cycle A) (box_on l seen node cycle B) (Box stamp) (box_is A stamp limited at)
  box_inside B stamp limited at = met B (box_on l seen node cycle A) (box_on l seen node cycle B) (Box stamp) (box_is B stamp limited at)

  span_is : (later : ℕ) (ch : Channel) (stamp last : ℕ) → delays_in l node ch ≡ Some limits → first_stamp seen node ch cycle ≡ Some stamp → first_stamp seen node ch later ≡ Some last
      → span_on l seen seen node cycle later ch ≡ Some (span_of (observer_of l) limits (pos stamp) (pos last))
  span_is later ch stamp last limited at next =
      ap (λ (d : Option Delays). span_by (observer_of l) d (first_stamp seen node ch cycle) (first_stamp seen node ch later)) limited
      ∙ ap (λ (o : Option ℕ). span_by (observer_of l) (Some limits) o (first_stamp seen node ch later)) at ∙ ap (span_by (observer_of l) (Some limits) (Some stamp)) next

  pub span_inside : (later : ℕ) (ch : Channel) (stamp last : ℕ) → delays_in l node ch ≡ Some limits → first_stamp seen node ch cycle ≡ Some stamp → first_stamp seen node ch later ≡ Some last
      → IsInsideSome (span_of (observer_of l) limits (pos stamp) (pos last)) (seen_span l seen seen node cycle later)
  unfolding seen_span
  span_inside later A stamp last limited at next =
      met A (span_on l seen seen node cycle later A) (span_on l seen seen node cycle later B) (span_of (observer_of l) limits (pos stamp) (pos last)) (span_is later A stamp last limited at next)
  span_inside later B stamp last limited at next =
      met B (span_on l seen seen node cycle later A) (span_on l seen seen node cycle later B) (span_of (observer_of l) limits (pos stamp) (pos last)) (span_is later B stamp last limited at next)

stamped_width : (observer : Observer) (limits : Delays) (stamp : ℤ) → IsNoWider (stamp_width observer limits) (stamped observer limits stamp)
stamped_width observer limits stamp =
    width (pos observer.unit *ℤ stamp) (breadth_of observer) (most_reading observer.drift (pos limits.most)) (least_reading observer.drift (pos limits.least))
  where
    width : (z b m n : ℤ) → (((z +ℤ b) -ℤ n) -ℤ (z -ℤ m)) ≤ℤ (b +ℤ (m -ℤ n))
    width z b m n = omega (arith, ints)

-- ---- courses

-- the length of a course by a span
length_narrow : (scale : Scale) (observer : Observer) (limits : Delays) (stamp later : ℤ) (even odd span : Interval) → LiesInside (span_of observer limits stamp later) span
    → IsNoWider (length_width scale observer limits) (length_seen scale (apart_by scale even odd (Some span)))
length_narrow scale observer limits stamp later even odd span inside =
    let rest = meet (allowed scale) (between even odd) in
    let apart = meet span rest in
    let off = breadth_of observer +ℤ most_reading observer.drift (pos limits.jitter) in
    let units = pos observer.unit *ℤ (later -ℤ stamp) in
    width units off scale.change span.low span.high apart.low apart.high (int_max (apart.low -ℤ scale.change) scale.length_from) (int_min (apart.high +ℤ scale.change) scale.length_to)
    inside.low inside.high (max_left span.low rest.low) (min_left span.high rest.high) (max_left (apart.low -ℤ scale.change) scale.length_from) (min_left (apart.high +ℤ scale.change) scale.length_to)
  where
    width : (u o c sl sh al ah ll lh : ℤ) → (u -ℤ o) ≤ℤ sl → sh ≤ℤ (u +ℤ o) → sl ≤ℤ al → ah ≤ℤ sh → (al -ℤ c) ≤ℤ ll → lh ≤ℤ (ah +ℤ c) → (lh -ℤ ll) ≤ℤ ((pos 2 *ℤ o) +ℤ (pos 2 *ℤ c))
    width u o c sl sh al ah ll lh a b d e f g = omega (arith, ints)

-- a course by both boxes and a span
pub record IsByBoth (scale : Scale) (observer : Observer) (limits : Delays) (course : Course) : Type 0 where
  pub even : IsNoWider (stamp_width observer limits) course.even
  pub odd : IsNoWider (stamp_width observer limits) course.odd
  pub length : IsNoWider (length_width scale observer limits) course.length

by_both : (scale : Scale) (observer : Observer) (limits : Delays) (action first second : ℤ) (even odd span : Interval) → LiesInside (stamped observer limits first) even
    → LiesInside (stamped observer limits second) odd → LiesInside (span_of observer limits first second) span
    → IsByBoth scale observer limits (course_by scale action even odd (apart_by scale even odd (Some span)))
by_both scale observer limits action first second even odd span in_even in_odd in_span =
    let apart = apart_by scale even odd (Some span) in
    record {
      even =
          tightened (stamp_width observer limits) even (odd.low -ℤ apart.high) (odd.high -ℤ apart.low)
          (narrower (stamp_width observer limits) (stamped observer limits first) even (stamped_width observer limits first) in_even);
      odd =
          tightened (stamp_width observer limits) odd (even.low +ℤ apart.low) (even.high +ℤ apart.high)
          (narrower (stamp_width observer limits) (stamped observer limits second) odd (stamped_width observer limits second) in_odd);
      length = length_narrow scale observer limits first second even odd span in_span;
    }
  where
    tightened : (width : ℤ) (i : Interval) (low high : ℤ) → IsNoWider width i → (int_min i.high high -ℤ int_max i.low low) ≤ℤ width
    tightened width i low high wide = narrower width i (meet i (record { low = low; high = high })) wide (inside_first i (record { low = low; high = high }))

by_options : (scale : Scale) (observer : Observer) (limits : Delays) (action first second : ℤ) (early late span : Option Interval) (course : Course)
    → IsInsideSome (stamped observer limits first) early → IsInsideSome (stamped observer limits second) late → IsInsideSome (span_of observer limits first second) span
    → course_from scale action early late span ≡ Some course → IsByBoth scale observer limits course
by_options scale observer limits action first second early late span course even odd apart is =
    subst (IsByBoth scale observer limits)
    (
    same (course_by scale action even.inner odd.inner (apart_by scale even.inner odd.inner (Some apart.inner))) course
    (
    sym
    (
    ap (λ (e : Option Interval). course_from scale action e late span) even.is ∙ ap (λ (o : Option Interval). course_from scale action (Some even.inner) o span) odd.is
    ∙ ap (course_from scale action (Some even.inner) (Some odd.inner)) apart.is
    )
    ∙ is
    )
    )
    (by_both scale observer limits action first second even.inner odd.inner apart.inner even.inside odd.inside apart.inside)
  where
    same : (a b : Course) → Some a ≡ Some b → a ≡ b
    same a b is = cc is

-- ---- senders

pub record IsStampedAt (o : Option ℕ) : Type 0 where
  pub stamp : ℕ
  pub is : o ≡ Some stamp

pub record IsFound (o : Option Course) : Type 0 where
  pub course : Course
  pub is : o ≡ Some course

stamp_there : (o : Option ℕ) → IsSome o → IsStampedAt o
stamp_there None is = absurd (cc is)
stamp_there (Some stamp) is = record { stamp = stamp; is = refl }

module _ (x : Setting) (h : Cycles) (base : ℕ) (delays : ℕ → Channel → Delays) (clock : ℕ → StraightClock) (l : LogView) (run : IsObservedRun x h base delays clock l) (double : ℕ) (width : ℤ) where
  abbrev Scaled : Scale
  Scaled = reading_scale l.drift x.params

  abbrev Here : List Sighting
  Here = sightings_in (sightings_of x.params l) double

  abbrev ByBoth : Sender → Type 0
  ByBoth s = (sharp : IsSharp x l double width s) → IsByBoth (reading_scale l.drift x.params) (observer_of l) sharp.limits s.course

  pub course_by_both : (node slot : ℕ) (course : Course) (ch : Channel) (limits : Delays) → course_in Scaled x.params l (sightings_in (sightings_of x.params l) double) double node slot ≡ Some course
      → delays_in l node ch ≡ Some limits → IsSome (first_stamp (sightings_in (sightings_of x.params l) double) node ch (2 * double))
      → IsSome (first_stamp (sightings_in (sightings_of x.params l) double) node ch (2 * double + 1)) → IsByBoth (reading_scale l.drift x.params) (observer_of l) limits course
  unfolding course_in
  course_by_both node slot course ch limits is limited in_even in_odd =
      let first = stamp_there (first_stamp Here node ch (2 * double)) in_even in
      let second = stamp_there (first_stamp Here node ch (2 * double + 1)) in_odd in
      by_options Scaled (observer_of l) limits (pos (action_point_of x.params slot)) (pos first.stamp) (pos second.stamp) (seen_box l Here node (2 * double)) (seen_box l Here node (2 * double + 1))
      (seen_span l Here Here node (2 * double) (2 * double + 1)) course (box_inside l Here node (2 * double) limits ch first.stamp limited first.is)
      (box_inside l Here node (2 * double + 1) limits ch second.stamp limited second.is)
      (span_inside l Here node (2 * double) limits (2 * double + 1) ch first.stamp second.stamp limited first.is second.is) is

  -- and there is such a course
  pub course_found : (node slot : ℕ) (ch : Channel) (limits : Delays) → delays_in l node ch ≡ Some limits → IsSome (first_stamp (sightings_in (sightings_of x.params l) double) node ch (2 * double))
      → IsSome (first_stamp (sightings_in (sightings_of x.params l) double) node ch (2 * double + 1)) → IsFound (course_in (reading_scale l.drift x.params) x.params l (sightings_in (sightings_of x.params l) double) double node slot)
  unfolding course_in
  course_found node slot ch limits limited in_even in_odd =
      let first = stamp_there (first_stamp Here node ch (2 * double)) in_even in
      let second = stamp_there (first_stamp Here node ch (2 * double + 1)) in_odd in
      let span = seen_span l Here Here node (2 * double) (2 * double + 1) in
      let even = box_inside l Here node (2 * double) limits ch first.stamp limited first.is in
      let odd = box_inside l Here node (2 * double + 1) limits ch second.stamp limited second.is in
      let action = pos (action_point_of x.params slot) in
      record {
        course = course_by Scaled action even.inner odd.inner (apart_by Scaled even.inner odd.inner span);
        is =
            ap (λ (e : Option Interval). course_from Scaled action e (seen_box l Here node (2 * double + 1)) span) even.is
            ∙ ap (λ (o : Option Interval). course_from Scaled action (Some even.inner) o span) odd.is;
      }

  all_by_both : All ByBoth (log_senders x l double)
  unfolding senders_of seen_senders
  all_by_both =
      all_given (seen_sender Scaled x.params l (sightings_in (sightings_of x.params l) double) (sightings_in (sightings_of x.params l) (double + 1)) double) ByBoth x.params.nodes
      (λ node among s given. of node s given)
    where
      of : (node : NodeSpec) (s : Sender) → seen_sender Scaled x.params l (sightings_in (sightings_of x.params l) double) (sightings_in (sightings_of x.params l) (double + 1)) double node ≡ Some s → ByBoth s
      of node s given =
          let by = sender_found x h base delays clock l run.timed.sane run.log run.seen double node s given in
          let on =
          sender_on l (sightings_in (sightings_of x.params l) double) (sightings_in (sightings_of x.params l) (double + 1)) double node.id
          (if_there (course_in Scaled x.params l (sightings_in (sightings_of x.params l) (double + 1)) (double + 1) node.id by.slot)) by.course in
          subst ByBoth by.sender_is
          (λ (sharp : IsSharp x l double width on). course_by_both node.id by.slot by.course sharp.channel sharp.limits by.course_is sharp.limited sharp.in_even sharp.in_odd)

  pub sender_by_both : (s : Sender) → Contains (log_senders x l double) s → ByBoth s
  sender_by_both s among = All-contains ByBoth (log_senders x l double) s all_by_both among

  pub senders_on : (even odd : Cycle) → HasDouble h (run_double base double) even odd → All (IsSenderOn x l.drift (clock (run_double base double)) even odd) (log_senders x l double)
  senders_on even odd has = senders_are_on_course x h base delays clock l double even odd run.timed run.log run.seen has

  pub sharp_corners : (even odd : Cycle) (s : Sender) → HasDouble h (run_double base double) even odd → Contains (log_senders x l double) s → IsSharp x l double width s
      → HasNarrowCorners (reading_scale l.drift x.params) width s.course
  sharp_corners even odd s has among sharp =
      let on = All-contains (IsSenderOn x l.drift (clock (run_double base double)) even odd) (log_senders x l double) s (senders_on even odd has) among in
      let both = sender_by_both s among sharp in
      let numbers = numbers_of x.params run.timed.sane in
      let there = courses_are_there x.params l.drift (clock (run_double base double)) s.course (row_for even.told.rows s.node) (row_for odd.told.rows s.node) on.on.seen.within_drift on.on.holds in
      let narrow =
      corners_are_narrow Scaled (stamp_width (observer_of l) sharp.limits) (length_width Scaled (observer_of l) sharp.limits) s.course
      (record { even = both.even; odd = both.odd; length = both.length; order = ordered s.course.length.low s.course.length.high there.length })
      (record { macros_some = numbers.macros_some; from = on.on.seen.acts_from; to = on.on.seen.acts_to; correction_to = numbers.correction_to }) in
      record {
        even_starts = wider (corner_width Scaled (observer_of l) sharp.limits) width (even_start Scaled s.course) narrow.even_starts sharp.width_to;
        odd_starts = wider (corner_width Scaled (observer_of l) sharp.limits) width (odd_start Scaled s.course) narrow.odd_starts sharp.width_to;
        even_turns = wider (corner_width Scaled (observer_of l) sharp.limits) width (even_turn Scaled s.course) narrow.even_turns sharp.width_to;
        odd_turns = wider (corner_width Scaled (observer_of l) sharp.limits) width (odd_turn Scaled s.course) narrow.odd_turns sharp.width_to;
      }

pub corners_are_narrow_lem : CornersAreNarrow
corners_are_narrow_lem x h base delays clock l double even odd width s run has among sharp = sharp_corners x h base delays clock l run double width even odd s has among sharp
