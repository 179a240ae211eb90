-- The course of what was seen of a node holds.
use Rattle.std.proofs.Common.{◌≡◌, ℕ, ℤ, pos, Option, Some, None, refl, subst, arith}
use Rattle.std.specs.Prelude.{◌+ℤ◌, ◌-ℤ◌, ◌*ℤ◌, ◌≤ℤ◌, ◌<ℤ◌, neg_ℤ}
use Rattle.std.specs.Option.{ForSome}
use Rattle.std.proofs.lemmas.Int.{ints}
use Rattle.std.proofs.lemmas.Option.{none-some}
use Rattle.fr_base.specs.Within.{IsWithin}
use Rattle.fr_base.specs.declared.node_row.NodeRow.{NodeRow}
use Rattle.fr_cluster.specs.Values.{Values}
use Rattle.fr_midpoint.proofs.Products.{mulz-lez_left, mulz-negz, mulz-subz}
use Rattle.fr_bound.specs.Bounds.{cycle_change, longest_micro, shortest_micro}
use Rattle.fr_bound.specs.Checks.{least_cycle}
use Rattle.fr_bound.specs.Sync.{cycle_length_of}
use Rattle.fr_course.specs.declared.intervals.Interval.{Interval}
use Rattle.fr_course.specs.Scales.{Scale}
use Rattle.fr_course.specs.Readings.{least_reading, meet, meet_if, most_cycle, most_reading, reading_scale}
use Rattle.fr_course.specs.declared.courses.Course.{Course}
use Rattle.fr_course.specs.Course.{allowed, apart_by, between, course_back, course_by, course_from, course_on, length_seen}
use Rattle.fr_seen.specs.Clocks.{reading_at, reading_of, HasReading, IsWithinDrift, LastsIn, StraightClock}
use Rattle.fr_seen.specs.Courses.{even_action, odd_action, AreSeen, CoursesAreThere, CoursesHold, HoldsCourse, IsSeenNode}
use Rattle.fr_seen.proofs.Readings.{least_reading_lem, most_reading_lem}
use Rattle.fr_seen.proofs.Intervals.{intervals_are_there, intervals_meet}
use Rattle.fr_seen.proofs.Shares.{reads_back, reads_near, reads_on}
use Rattle.fr_seen.proofs.Doubles.{rows_apart, LiesApart}

trans : (a b c : ℤ) → a ≤ℤ b → b ≤ℤ c → a ≤ℤ c
trans a b c h k = omega (arith, ints)

no_less : (a : ℤ) → pos 0 <ℤ a → pos 0 ≤ℤ a
no_less a h = omega (arith, ints)

-- ---- lengths

-- from one number of ticks to another
pub lasts_between : (drift : ℕ) (clock : StraightClock) (shortest longest x : ℤ) → IsWithinDrift drift clock → shortest ≤ℤ x → x ≤ℤ longest
    → LastsIn clock (record { low = least_reading drift shortest; high = most_reading drift longest }) x
lasts_between drift clock shortest longest x is from to =
    let p_from = no_less clock.counts is.counts_from in
    record {
      low = trans (clock.ticks *ℤ least_reading drift shortest) (clock.counts *ℤ shortest) (clock.counts *ℤ x) (least_reading_lem drift clock shortest is) (mulz-lez_left shortest x clock.counts from p_from);
      high = trans (clock.counts *ℤ x) (clock.counts *ℤ longest) (clock.ticks *ℤ most_reading drift longest) (mulz-lez_left x longest clock.counts to p_from) (most_reading_lem drift clock longest is);
    }

-- what differs by no more than so many ticks
pub change_reads : (drift : ℕ) (clock : StraightClock) (change x d : ℤ) → IsWithinDrift drift clock → IsWithin change (x -ℤ d)
    → IsWithin (clock.ticks *ℤ most_reading drift change) ((clock.counts *ℤ x) -ℤ (clock.counts *ℤ d))
change_reads drift clock change x d is near =
    let p = clock.counts in
    let p_from = no_less p is.counts_from in
    let high : (p *ℤ (x -ℤ d)) ≤ℤ (p *ℤ change) = mulz-lez_left (x -ℤ d) change p near.high p_from in
    let low : (p *ℤ neg_ℤ change) ≤ℤ (p *ℤ (x -ℤ d)) = mulz-lez_left (neg_ℤ change) (x -ℤ d) p near.low p_from in
    both (p *ℤ (x -ℤ d)) (p *ℤ x) (p *ℤ d) (p *ℤ change) (p *ℤ neg_ℤ change) (clock.ticks *ℤ most_reading drift change)
    (mulz-subz x d p) (mulz-negz p change) high low (most_reading_lem drift clock change is)
  where
    both : (y x d c n t : ℤ) → y ≡ x -ℤ d → n ≡ neg_ℤ c → y ≤ℤ c → n ≤ℤ y → c ≤ℤ t → IsWithin t (x -ℤ d)
    both y x d c n t a b e f g = record { low = omega (arith, ints); high = omega (arith, ints) }

-- how far two instants lie apart, and the difference of their readings
pub apart_reads : (clock : StraightClock) (from to : ℤ) → reading_at clock to -ℤ reading_at clock from ≡ reading_of clock (to -ℤ from)
apart_reads clock from to =
    sum (clock.counts *ℤ from) (clock.counts *ℤ to) (clock.counts *ℤ (to -ℤ from)) clock.zero (mulz-subz to from clock.counts)
  where
    sum : (a b d z : ℤ) → d ≡ b -ℤ a → (b +ℤ z) -ℤ (a +ℤ z) ≡ d
    sum a b d z e = omega (arith, ints)

pub later_reads : (clock : StraightClock) (from to : ℤ) → reading_at clock from +ℤ reading_of clock (to -ℤ from) ≡ reading_at clock to
later_reads clock from to = sum (reading_at clock from) (reading_at clock to) (reading_of clock (to -ℤ from)) (apart_reads clock from to)
  where
    sum : (a b d : ℤ) → b -ℤ a ≡ d → a +ℤ d ≡ b
    sum a b d e = omega (arith, ints)

pub earlier_reads : (clock : StraightClock) (from to : ℤ) → reading_at clock to -ℤ reading_of clock (to -ℤ from) ≡ reading_at clock from
earlier_reads clock from to = sum (reading_at clock from) (reading_at clock to) (reading_of clock (to -ℤ from)) (apart_reads clock from to)
  where
    sum : (a b d : ℤ) → b -ℤ a ≡ d → b -ℤ d ≡ a
    sum a b d e = omega (arith, ints)

pub meets_if : (clock : StraightClock) (one : Option Interval) (other : Interval) (a : ℤ) → ForSome one (λ i. HasReading clock i a) → HasReading clock other a
    → HasReading clock (meet_if one other) a
meets_if clock None other a first second = second
meets_if clock (Some one) other a first second = intervals_meet clock one other a (first one refl) second

-- ---- courses

-- what holds of a node whatever was seen of it
module _ (p : Values) (drift : ℕ) (clock : StraightClock) (action : ℤ) (even odd : NodeRow) (seen : IsSeenNode p drift clock action even odd) where
  abbrev shortest : ℤ
  shortest = pos (least_cycle p) *ℤ pos (shortest_micro p)

  abbrev longest : ℤ
  longest = most_cycle p *ℤ pos (longest_micro p)

  abbrev me : ℤ
  me = even_action p even action

  abbrev mo : ℤ
  mo = odd_action p odd action

  abbrev scale : Scale
  scale = reading_scale drift p

  rows : LiesApart shortest longest (pos (cycle_change p)) (cycle_length_of p even) (cycle_length_of p odd) (mo -ℤ me)
  rows = rows_apart p even odd action seen.sane seen.regular seen.acts_from seen.acts_to

  allows : LastsIn clock (allowed scale) (mo -ℤ me)
  allows = lasts_between drift clock shortest longest (mo -ℤ me) seen.within_drift rows.from rows.to

  even_allowed : LastsIn clock (allowed scale) (cycle_length_of p even)
  even_allowed = lasts_between drift clock shortest longest (cycle_length_of p even) seen.within_drift rows.even_from rows.even_to

  odd_allowed : LastsIn clock (allowed scale) (cycle_length_of p odd)
  odd_allowed = lasts_between drift clock shortest longest (cycle_length_of p odd) seen.within_drift rows.odd_from rows.odd_to

  -- a length near how far the action points lie apart
  lasts_near : (apart : Interval) (long : ℤ) → LastsIn clock apart (mo -ℤ me) → LastsIn clock (allowed scale) long
      → IsWithin (pos (cycle_change p)) (long -ℤ (mo -ℤ me)) → LastsIn clock (length_seen scale apart) long
  lasts_near apart long lies within near =
      intervals_meet clock (record { low = apart.low -ℤ scale.change; high = apart.high +ℤ scale.change }) (allowed scale) (reading_of clock long)
      (reads_near clock apart scale.change (reading_of clock (mo -ℤ me)) (reading_of clock long) lies (change_reads drift clock (pos (cycle_change p)) long (mo -ℤ me) seen.within_drift near))
      within

  by_both : (early late : Interval) (span : Option Interval) → HasReading clock early (reading_at clock me) → HasReading clock late (reading_at clock mo)
      → ForSome span (λ long. LastsIn clock long (mo -ℤ me)) → HoldsCourse p clock (course_by scale action early late (apart_by scale early late span)) even odd
  by_both early late span in_early in_late spanned =
      let apart = apart_by scale early late span in
      let d = reading_of clock (mo -ℤ me) in
      let from_boxes : LastsIn clock (between early late) (mo -ℤ me) =
      subst (λ r. HasReading clock (between early late) r) (apart_reads clock me mo) (reads_back clock late early (reading_at clock mo) (reading_at clock me) in_late in_early) in
      let lies : LastsIn clock apart (mo -ℤ me) = meets_if clock span (meet (allowed scale) (between early late)) d spanned (intervals_meet clock (allowed scale) (between early late) d allows from_boxes) in
      let back : Interval = record { low = late.low -ℤ apart.high; high = late.high -ℤ apart.low } in
      let on : Interval = record { low = early.low +ℤ apart.low; high = early.high +ℤ apart.high } in
      record {
        in_even =
            intervals_meet clock early back (reading_at clock me) in_early
            (subst (λ r. HasReading clock back r) (earlier_reads clock me mo) (reads_back clock late apart (reading_at clock mo) d in_late lies));
        in_odd =
            intervals_meet clock late on (reading_at clock mo) in_late
            (subst (λ r. HasReading clock on r) (later_reads clock me mo) (reads_on clock early apart (reading_at clock me) d in_early lies));
        lies_apart = lies;
        even_lasts = lasts_near apart (cycle_length_of p even) lies even_allowed rows.even_near;
        odd_lasts = lasts_near apart (cycle_length_of p odd) lies odd_allowed rows.odd_near;
      }

  by_even : (early : Interval) → HasReading clock early (reading_at clock me) → HoldsCourse p clock (course_on scale action early) even odd
  by_even early in_early =
      let on : Interval = record { low = early.low +ℤ scale.length_from; high = early.high +ℤ scale.length_to } in
      record {
        in_even = in_early;
        in_odd = subst (λ r. HasReading clock on r) (later_reads clock me mo) (reads_on clock early (allowed scale) (reading_at clock me) (reading_of clock (mo -ℤ me)) in_early allows);
        lies_apart = allows;
        even_lasts = even_allowed;
        odd_lasts = odd_allowed;
      }

  by_odd : (late : Interval) → HasReading clock late (reading_at clock mo) → HoldsCourse p clock (course_back scale action late) even odd
  by_odd late in_late =
      let back : Interval = record { low = late.low -ℤ scale.length_to; high = late.high -ℤ scale.length_from } in
      record {
        in_even = subst (λ r. HasReading clock back r) (earlier_reads clock me mo) (reads_back clock late (allowed scale) (reading_at clock mo) (reading_of clock (mo -ℤ me)) in_late allows);
        in_odd = in_late;
        lies_apart = allows;
        even_lasts = even_allowed;
        odd_lasts = odd_allowed;
      }

  abbrev Holds : Course → Type 0
  Holds course = (course.action ≡ action) × HoldsCourse p clock course even odd

  same_course : (one other : Course) → Some one ≡ Some other → one ≡ other
  same_course one other is = cc

  by_boxes : (early late span : Option Interval) (course : Course) → AreSeen p clock action even odd early late span → course_from scale action early late span ≡ Some course → Holds course
  by_boxes None None span course boxes is = absurd (none-some course is)
  by_boxes (Some early) None span course boxes is =
      subst Holds (same_course (course_on scale action early) course is) (refl, by_even early (boxes.in_even early refl))
  by_boxes None (Some late) span course boxes is =
      subst Holds (same_course (course_back scale action late) course is) (refl, by_odd late (boxes.in_odd late refl))
  by_boxes (Some early) (Some late) span course boxes is =
      subst Holds (same_course (course_by scale action early late (apart_by scale early late span)) course is)
      (refl, by_both early late span (boxes.in_even early refl) (boxes.in_odd late refl) boxes.spanned)

pub courses_hold_lem : CoursesHold
courses_hold_lem p drift clock action even odd early late span course seen boxes is = by_boxes p drift clock action even odd seen early late span course boxes is

pub courses_are_there : CoursesAreThere
courses_are_there p drift clock course even odd is holds =
    record {
      even = intervals_are_there clock course.even (reading_at clock (even_action p even course.action)) is.ticks_from holds.in_even;
      odd = intervals_are_there clock course.odd (reading_at clock (odd_action p odd course.action)) is.ticks_from holds.in_odd;
      apart = intervals_are_there clock course.apart (reading_of clock (odd_action p odd course.action -ℤ even_action p even course.action)) is.ticks_from holds.lies_apart;
      length = intervals_are_there clock course.length (reading_of clock (cycle_length_of p even)) is.ticks_from holds.even_lasts;
    }
