-- How far apart senders lie, by the intervals that their courses allow.
use Rattle.std.proofs.Common.{◌≡◌, ℕ, ℤ, pos, List, All, map, sym, subst, arith}
use Rattle.std.specs.Prelude.{◌-ℤ◌, ◌*ℤ◌, ◌≤ℤ◌, ◌<ℤ◌, Contains}
use Rattle.std.proofs.lemmas.Int.{ints}
use Rattle.std.proofs.lemmas.List.Elements.{All-contains, All-contains_itself, All-map, All-weaker}
use Rattle.std.proofs.lemmas.Simd.{map-map}
use Rattle.fr_base.specs.Within.{LieWithin}
use Rattle.fr_base.specs.declared.node_row.NodeRow.{NodeRow}
use Rattle.fr_cluster.specs.Sane.{IsSane}
use Rattle.fr_cluster.specs.Setting.{Setting}
use Rattle.fr_bound.specs.Sync.{cycle_length_of}
use Rattle.fr_midpoint.proofs.Products.{mulz-lez_left, mulz-subz, mulz_from}
use Rattle.fr_history.specs.Cycles.{Cycle}
use Rattle.fr_history.specs.History.{row_for}
use Rattle.fr_precision.proofs.RoundLemmas.{contains_map}
use Rattle.fr_course.specs.declared.courses.Course.{Course}
use Rattle.fr_course.specs.declared.intervals.Interval.{Interval}
use Rattle.fr_course.specs.Scales.{Scale}
use Rattle.fr_course.specs.Readings.{least_ticks, most_ticks, reading_scale}
use Rattle.fr_course.specs.Course.{even_start}
use Rattle.fr_course.specs.Spread.{least_spread, most_spread}
use Rattle.fr_observe.specs.Observing.{courses_of}
use Rattle.fr_sightings.specs.declared.sender.Sender.{Sender}
use Rattle.fr_seen.specs.Clocks.{reading_at, reading_of, HasReading, IsWithinDrift, LastsIn, ReadsIn, StraightClock}
use Rattle.fr_seen.specs.LogSeen.{IsSenderOn, sender_rows}
use Rattle.fr_seen.proofs.CourseLaws.{apart_reads}
use Rattle.fr_seen.proofs.CornerLaws.{corners_lie_lem}
use Rattle.fr_seen.proofs.Pairs.{pair_within, pairs_least}
use Rattle.fr_seen.proofs.Readings.{least_ticks_lem, most_ticks_lem, readings_have_ticks}
use Rattle.fr_seen.specs.LogDoubles.{IsAsLong, LieAsSeen, SendersLieAsSeen, lengths_in, starts_in}

no_less : (a : ℤ) → pos 0 <ℤ a → pos 0 ≤ℤ a
no_less a h = omega (arith, ints)

-- a number of a list and another one lie within what any two do
pub two_within : {X : Type 0} (bound : ℤ) (f : X → ℤ) (xs : List X) (a b : X) → LieWithin bound (map f xs) → Contains xs a → Contains xs b → (f a -ℤ f b) ≤ℤ bound
two_within bound f xs a b all here there =
    All-contains (λ y. (f a -ℤ y) ≤ℤ bound) (map f xs) (f b)
    (All-contains (λ x. All (λ y. (x -ℤ y) ≤ℤ bound) (map f xs)) (map f xs) (f a) all (contains_map f xs a here))
    (contains_map f xs b there)

-- what each two do, all do
pub all_within : {X : Type 0} (bound : ℤ) (f : X → ℤ) (xs : List X) → ((a b : X) → Contains xs a → Contains xs b → (f a -ℤ f b) ≤ℤ bound) → LieWithin bound (map f xs)
all_within bound f xs near =
    All-map (λ x. All (λ y. (x -ℤ y) ≤ℤ bound) (map f xs)) f xs
    (All-weaker (Contains xs) (λ a. All (λ y. (f a -ℤ y) ≤ℤ bound) (map f xs))
    (λ a here. All-map (λ y. (f a -ℤ y) ≤ℤ bound) f xs (All-weaker (Contains xs) (λ b. (f a -ℤ f b) ≤ℤ bound) (λ b there. near a b here there) xs (All-contains_itself xs)))
    xs (All-contains_itself xs))

module _ (drift : ℕ) (clock : StraightClock) (is : IsWithinDrift drift clock) where
  ticks_some : pos 0 ≤ℤ clock.ticks
  ticks_some = no_less clock.ticks is.ticks_from

  counts_some : pos 0 ≤ℤ clock.counts
  counts_some = no_less clock.counts is.counts_from

  -- some whose readings lie in intervals, and differ as their ticks do
  module _ {X : Type 0} (c : X → Interval) (r t : X → ℤ) (apart : (a b : X) → r a -ℤ r b ≡ clock.counts *ℤ (t a -ℤ t b)) where
    abbrev Lies : X → Type 0
    Lies a = HasReading clock (c a) (r a)

    pub least_apart : (bound : ℤ) (xs : List X) → pos 0 ≤ℤ bound → All (λ a. HasReading clock (c a) (r a)) xs → LieWithin bound (map t xs)
        → least_ticks drift (least_spread (map c xs)) ≤ℤ bound
    least_apart bound xs from all near =
        least_ticks_lem drift clock (least_spread (map c xs)) bound is
        (pairs_least clock.ticks (clock.counts *ℤ bound) (mulz_from clock.counts bound counts_some from) c xs
        (λ a b here there.
        let first = All-contains Lies xs a all here in
        let second = All-contains Lies xs b all there in
        ends (clock.ticks *ℤ (c a).low) (clock.ticks *ℤ (c b).high) (clock.ticks *ℤ ((c a).low -ℤ (c b).high)) (r a) (r b) (clock.counts *ℤ (t a -ℤ t b)) (clock.counts *ℤ bound)
        (mulz-subz (c a).low (c b).high clock.ticks) first.low second.high (apart a b)
        (mulz-lez_left (t a -ℤ t b) bound clock.counts (two_within bound t xs a b near here there) counts_some)))
      where
        ends : (l h d x y e m : ℤ) → d ≡ l -ℤ h → l ≤ℤ x → y ≤ℤ h → x -ℤ y ≡ e → e ≤ℤ m → d ≤ℤ m
        ends l h d x y e m a b f g i = omega (arith, ints)

    pub most_apart : (xs : List X) → All (λ a. HasReading clock (c a) (r a)) xs → LieWithin (most_ticks drift (most_spread (map c xs))) (map t xs)
    most_apart xs all =
        let most = most_spread (map c xs) in
        all_within (most_ticks drift most) t xs
        (λ a b here there.
        most_ticks_lem drift clock most (t a -ℤ t b) is
        (subst (λ x. x ≤ℤ (clock.ticks *ℤ most)) (apart a b) (pair_within clock ticks_some c r xs a b all here there)))

-- ---- senders

module _ (x : Setting) (drift : ℕ) (clock : StraightClock) (even odd : Cycle) (sane : IsSane x.params) (is : IsWithinDrift drift clock) where
  abbrev Scaled : Scale
  Scaled = reading_scale drift x.params

  abbrev On : Sender → Type 0
  On = IsSenderOn x drift clock even odd

  -- intervals by senders as by their courses, and numbers by senders as by their rows
  by_courses : (corner : Course → Interval) (senders : List Sender) → map (λ (s : Sender). corner s.course) senders ≡ map corner (courses_of senders)
  by_courses corner senders = sym (map-map corner (λ (s : Sender). s.course) senders)

  by_rows : (number : NodeRow → ℤ) (cycle : Cycle) (senders : List Sender) → map (λ (s : Sender). number (row_for cycle.told.rows s.node)) senders ≡ map number (sender_rows cycle senders)
  by_rows number cycle senders = sym (map-map number (λ (s : Sender). row_for cycle.told.rows s.node) senders)

  -- what their corners and what their rows tell
  to_by : (corner : Course → Interval) (number : NodeRow → ℤ) (cycle : Cycle) (senders : List Sender)
      → LieWithin (most_ticks drift (most_spread (map (λ (s : Sender). corner s.course) senders))) (map (λ (s : Sender). number (row_for cycle.told.rows s.node)) senders)
      → LieWithin (most_ticks drift (most_spread (map corner (courses_of senders)))) (map number (sender_rows cycle senders))
  to_by corner number cycle senders near =
      subst (λ rows. LieWithin (most_ticks drift (most_spread (map corner (courses_of senders)))) rows) (by_rows number cycle senders)
      (
      subst (λ corners. LieWithin (most_ticks drift (most_spread corners)) (map (λ (s : Sender). number (row_for cycle.told.rows s.node)) senders)) (by_courses corner senders)
      near
      )

  abbrev start_of : Sender → ℤ
  start_of s = (row_for even.told.rows s.node).start

  abbrev length_in : Cycle → Sender → ℤ
  length_in cycle s = cycle_length_of x.params (row_for cycle.told.rows s.node)

  starts_read : (senders : List Sender) → All (IsSenderOn x drift clock even odd) senders → All (λ (s : Sender). ReadsIn clock (even_start Scaled s.course) (start_of s)) senders
  starts_read senders all =
      All-weaker On (λ (s : Sender). ReadsIn clock (even_start Scaled s.course) (start_of s))
      (λ s on. (corners_lie_lem x.params drift clock s.course (row_for even.told.rows s.node) (row_for odd.told.rows s.node) on.on.seen on.on.holds).even_starts) senders all

  even_lengths_read : (senders : List Sender) → All (IsSenderOn x drift clock even odd) senders → All (λ (s : Sender). LastsIn clock s.course.length (length_in even s)) senders
  even_lengths_read senders all = All-weaker On (λ (s : Sender). LastsIn clock s.course.length (length_in even s)) (λ s on. on.on.holds.even_lasts) senders all

  odd_lengths_read : (senders : List Sender) → All (IsSenderOn x drift clock even odd) senders → All (λ (s : Sender). LastsIn clock s.course.length (length_in odd s)) senders
  odd_lengths_read senders all = All-weaker On (λ (s : Sender). LastsIn clock s.course.length (length_in odd s)) (λ s on. on.on.holds.odd_lasts) senders all

  starts_differ : (a b : Sender) → reading_at clock (start_of a) -ℤ reading_at clock (start_of b) ≡ clock.counts *ℤ (start_of a -ℤ start_of b)
  starts_differ a b = apart_reads clock (start_of b) (start_of a)

  lengths_differ : (cycle : Cycle) (a b : Sender) → reading_of clock (length_in cycle a) -ℤ reading_of clock (length_in cycle b) ≡ clock.counts *ℤ (length_in cycle a -ℤ length_in cycle b)
  lengths_differ cycle a b = sym (mulz-subz (length_in cycle a) (length_in cycle b) clock.counts)

  abbrev Start : Sender → Interval
  Start s = even_start Scaled s.course

  abbrev Length : Sender → Interval
  Length s = s.course.length

  starts_from : (senders : List Sender) (bound : ℤ) → All (IsSenderOn x drift clock even odd) senders → pos 0 ≤ℤ bound → LieWithin bound (starts_in (sender_rows even senders))
      → least_ticks drift (least_spread (map (even_start Scaled) (courses_of senders))) ≤ℤ bound
  starts_from senders bound all from near =
      subst (λ corners. least_ticks drift (least_spread corners) ≤ℤ bound) (by_courses (even_start Scaled) senders)
      (
      least_apart drift clock is Start (λ (s : Sender). reading_at clock (start_of s)) start_of starts_differ bound senders from (starts_read senders all)
      (subst (LieWithin bound) (sym (by_rows (λ (row : NodeRow). row.start) even senders)) near)
      )

  lengths_from : (senders : List Sender) (bound : ℤ) → All (IsSenderOn x drift clock even odd) senders → pos 0 ≤ℤ bound → LieWithin bound (lengths_in x.params (sender_rows even senders))
      → least_ticks drift (least_spread (map (λ (c : Course). c.length) (courses_of senders))) ≤ℤ bound
  lengths_from senders bound all from near =
      subst (λ corners. least_ticks drift (least_spread corners) ≤ℤ bound) (by_courses (λ (c : Course). c.length) senders)
      (
      least_apart drift clock is Length (λ (s : Sender). reading_of clock (length_in even s)) (length_in even) (lengths_differ even) bound senders from (even_lengths_read senders all)
      (subst (LieWithin bound) (sym (by_rows (cycle_length_of x.params) even senders)) near)
      )

  long_as_seen : (s : Sender) → IsSenderOn x drift clock even odd s → IsAsLong x drift even odd s
  long_as_seen s on =
      record {
        even_long = readings_have_ticks drift clock s.course.length (length_in even s) is on.on.holds.even_lasts;
        odd_long = readings_have_ticks drift clock s.course.length (length_in odd s) is on.on.holds.odd_lasts;
      }

  pub lie_as_seen : (senders : List Sender) → All (IsSenderOn x drift clock even odd) senders → LieAsSeen x drift even odd senders
  lie_as_seen senders all =
      record {
        starts_to =
            to_by (even_start Scaled) (λ (row : NodeRow). row.start) even senders
            (most_apart drift clock is Start (λ (s : Sender). reading_at clock (start_of s)) start_of starts_differ senders (starts_read senders all));
        even_lengths_to =
            to_by (λ (c : Course). c.length) (cycle_length_of x.params) even senders
            (most_apart drift clock is Length (λ (s : Sender). reading_of clock (length_in even s)) (length_in even) (lengths_differ even) senders (even_lengths_read senders all));
        odd_lengths_to =
            to_by (λ (c : Course). c.length) (cycle_length_of x.params) odd senders
            (most_apart drift clock is Length (λ (s : Sender). reading_of clock (length_in odd s)) (length_in odd) (lengths_differ odd) senders (odd_lengths_read senders all));
        starts_from = λ bound from near. starts_from senders bound all from near;
        lengths_from = λ bound from near. lengths_from senders bound all from near;
        long = All-weaker On (IsAsLong x drift even odd) long_as_seen senders all;
      }

pub senders_lie_as_seen : SendersLieAsSeen
senders_lie_as_seen x drift clock even odd senders sane is all = lie_as_seen x drift clock even odd sane is senders all
