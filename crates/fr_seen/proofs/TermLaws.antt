-- Which terms a node applied, by its courses in two double cycles.
use Rattle.std.proofs.Common.{◌≡◌, ℕ, ◌≤◌, ℤ, pos, Bool, true, false, Option, refl, ap, sym, subst, ◌∙◌, arith}
use Rattle.std.specs.Prelude.{◌+ℤ◌, ◌-ℤ◌, ◌*ℤ◌, ◌≤ℤ◌, ◌<ℤ◌, int_lt, if◌then◌else◌}
use Rattle.std.proofs.lemmas.Int.{ints, by_lt_z}
use Rattle.fr_base.specs.Within.{IsBetween, IsWithin}
use Rattle.fr_base.specs.declared.node_row.NodeRow.{NodeRow}
use Rattle.fr_cluster.specs.Values.{Values, amount}
use Rattle.fr_cluster.specs.Sane.{IsSane}
use Rattle.fr_cluster.specs.declared.names.ParamName.TheVariants as name
use Rattle.fr_midpoint.proofs.Products.{addz-mulz, lez_of_mulz-lez, mulz-addz, mulz-lez, mulz-lez_left, mulz-subz, mulz_assoc, mulz_comm, mulz_from, mulz_within, subz-mulz}
use Rattle.fr_time.specs.Position.{floor_of}
use Rattle.fr_bound.specs.Bounds.{cycle_change, longest_micro, nominal, shortest_micro}
use Rattle.fr_bound.specs.Checks.{least_cycle}
use Rattle.fr_bound.specs.Sync.{cycle_length_of}
use Rattle.fr_precision.proofs.Figures.{natural}
use Rattle.fr_course.specs.declared.intervals.Interval.{Interval}
use Rattle.fr_course.specs.Scales.{Scale}
use Rattle.fr_course.specs.Readings.{ceiling_of, least_reading, micros_from, micros_to, most_cycle, most_reading, reading_scale, slow_million, fast_million}
use Rattle.fr_course.specs.declared.courses.Course.{Course}
use Rattle.fr_course.specs.Course.{between, share_from, share_to}
use Rattle.fr_course.specs.Terms.{offset_reading, onward, step_reading}
use Rattle.fr_seen.specs.Clocks.{reading_at, reading_of, HasReading, IsWithinDrift, LastsIn, ReadsIn, StraightClock}
use Rattle.fr_seen.specs.Courses.{even_action, odd_action}
use Rattle.fr_seen.specs.Skews.{SeenTwice}
use Rattle.fr_seen.specs.TermsSeen.{GoesOn, OffsetsAreSeen, RateStepsAreSeen}
use Rattle.fr_course.proofs.Floors.{ceiling_below, floor_above, mulz-lez_down}
use Rattle.fr_seen.proofs.Readings.{least_reading_lem, most_reading_lem}
use Rattle.fr_seen.proofs.Shares.{all_parts, of_all_parts, reads_back, reads_down, reads_near, reads_up, shared, some_parts}
use Rattle.fr_seen.proofs.Doubles.{micros_of, numbers_of}
use Rattle.fr_seen.proofs.CourseLaws.{apart_reads, change_reads, meets_if}
use Rattle.fr_seen.proofs.CornerLaws.{even_line, odd_line, HasLine}

no_less : (a : ℤ) → pos 0 <ℤ a → pos 0 ≤ℤ a
no_less a h = omega (arith, ints)

no_more : (a : ℤ) → a <ℤ pos 0 → a ≤ℤ pos 0
no_more a h = omega (arith, ints)

trans : (a b c : ℤ) → a ≤ℤ b → b ≤ℤ c → a ≤ℤ c
trans a b c h k = omega (arith, ints)

from_lt : (a b : ℤ) → int_lt a b ≡ true → a <ℤ b
from_lt a b is = grind (arith, ints)

from_ge : (a b : ℤ) → int_lt a b ≡ false → b ≤ℤ a
from_ge a b is = grind (arith, ints)

swapped : (a b c : ℤ) → a *ℤ (b *ℤ c) ≡ b *ℤ (a *ℤ c)
swapped a b c = sym (mulz_assoc a b c) ∙ ap (λ x. x *ℤ c) (mulz_comm a b) ∙ mulz_assoc b a c

-- ---- how many microticks so long can be

-- the shortest and the longest microtick, on a clock
record MicroReads (p q qm qp short long : ℤ) : Type 0 where
  p_some : pos 0 <ℤ p
  q_some : pos 0 <ℤ q
  qm_some : pos 0 <ℤ qm
  short_some : pos 0 <ℤ short
  long_some : pos 0 <ℤ long
  low : (q *ℤ short) ≤ℤ (p *ℤ qm)
  high : (p *ℤ qp) ≤ℤ (q *ℤ long)

-- so many microticks from 0 on, or from 0 down
up_most : (p q qm qp short long t y : ℤ) → MicroReads p q qm qp short long → t ≤ℤ qp → pos 0 ≤ℤ y → (p *ℤ (y *ℤ t)) ≤ℤ (q *ℤ (y *ℤ long))
up_most p q qm qp short long t y m to from =
    chain (p *ℤ (y *ℤ t)) (y *ℤ (p *ℤ t)) (y *ℤ (p *ℤ qp)) (y *ℤ (q *ℤ long)) (q *ℤ (y *ℤ long)) (swapped p y t)
    (mulz-lez_left (p *ℤ t) (p *ℤ qp) y (mulz-lez_left t qp p to (no_less p m.p_some)) from) (mulz-lez_left (p *ℤ qp) (q *ℤ long) y m.high from) (swapped y q long)
  where
    chain : (a b c d e : ℤ) → a ≡ b → b ≤ℤ c → c ≤ℤ d → d ≡ e → a ≤ℤ e
    chain a b c d e h i j k = omega (arith, ints)

up_least : (p q qm qp short long t y : ℤ) → MicroReads p q qm qp short long → qm ≤ℤ t → pos 0 ≤ℤ y → (q *ℤ (y *ℤ short)) ≤ℤ (p *ℤ (y *ℤ t))
up_least p q qm qp short long t y m to from =
    chain (q *ℤ (y *ℤ short)) (y *ℤ (q *ℤ short)) (y *ℤ (p *ℤ qm)) (y *ℤ (p *ℤ t)) (p *ℤ (y *ℤ t)) (swapped q y short)
    (mulz-lez_left (q *ℤ short) (p *ℤ qm) y m.low from) (mulz-lez_left (p *ℤ qm) (p *ℤ t) y (mulz-lez_left qm t p to (no_less p m.p_some)) from) (swapped y p t)
  where
    chain : (a b c d e : ℤ) → a ≡ b → b ≤ℤ c → c ≤ℤ d → d ≡ e → a ≤ℤ e
    chain a b c d e h i j k = omega (arith, ints)

down_most : (p q qm qp short long t y : ℤ) → MicroReads p q qm qp short long → qm ≤ℤ t → y ≤ℤ pos 0 → (p *ℤ (y *ℤ t)) ≤ℤ (q *ℤ (y *ℤ short))
down_most p q qm qp short long t y m from to =
    chain (p *ℤ (y *ℤ t)) (y *ℤ (p *ℤ t)) (y *ℤ (p *ℤ qm)) (y *ℤ (q *ℤ short)) (q *ℤ (y *ℤ short)) (swapped p y t)
    (mulz-lez_down (p *ℤ qm) (p *ℤ t) y (mulz-lez_left qm t p from (no_less p m.p_some)) to) (mulz-lez_down (q *ℤ short) (p *ℤ qm) y m.low to) (swapped y q short)
  where
    chain : (a b c d e : ℤ) → a ≡ b → b ≤ℤ c → c ≤ℤ d → d ≡ e → a ≤ℤ e
    chain a b c d e h i j k = omega (arith, ints)

down_least : (p q qm qp short long t y : ℤ) → MicroReads p q qm qp short long → t ≤ℤ qp → y ≤ℤ pos 0 → (q *ℤ (y *ℤ long)) ≤ℤ (p *ℤ (y *ℤ t))
down_least p q qm qp short long t y m from to =
    chain (q *ℤ (y *ℤ long)) (y *ℤ (q *ℤ long)) (y *ℤ (p *ℤ qp)) (y *ℤ (p *ℤ t)) (p *ℤ (y *ℤ t)) (swapped q y long)
    (mulz-lez_down (p *ℤ qp) (q *ℤ long) y m.high to) (mulz-lez_down (p *ℤ t) (p *ℤ qp) y (mulz-lez_left t qp p from (no_less p m.p_some)) to) (swapped y p t)
  where
    chain : (a b c d e : ℤ) → a ≡ b → b ≤ℤ c → c ≤ℤ d → d ≡ e → a ≤ℤ e
    chain a b c d e h i j k = omega (arith, ints)

cancel_left : (q a b : ℤ) → pos 0 <ℤ q → (q *ℤ a) ≤ℤ (q *ℤ b) → a ≤ℤ b
cancel_left q a b some le = lez_of_mulz-lez a b q some (both (q *ℤ a) (q *ℤ b) (a *ℤ q) (b *ℤ q) le (mulz_comm a q) (mulz_comm b q))
  where
    both : (x y z w : ℤ) → x ≤ℤ y → z ≡ x → w ≡ y → z ≤ℤ w
    both x y z w h i j = omega (arith, ints)

-- a product of a number from 0 on, and of one from 0 down
times_from : (q a : ℤ) → pos 0 ≤ℤ q → a ≤ℤ pos 0 → (q *ℤ a) ≤ℤ pos 0
times_from q a from to = none (q *ℤ a) (q *ℤ pos 0) (mulz-lez_left a (pos 0) q to from) (zero q)
  where
    zero : (q : ℤ) → q *ℤ pos 0 ≡ pos 0
    zero q = omega (arith, ints)

    none : (a b : ℤ) → a ≤ℤ b → b ≡ pos 0 → a ≤ℤ pos 0
    none a b h i = omega (arith, ints)

-- so many microticks of a length are from the least to the greatest number that their reading allows
least_micros : (p q qm qp short long t y l : ℤ) → MicroReads p q qm qp short long → qm ≤ℤ t → t ≤ℤ qp → (q *ℤ l) ≤ℤ (p *ℤ (y *ℤ t))
    → ceiling_of l (if int_lt l (pos 0) then short else long) ≤ℤ y
least_micros p q qm qp short long t y l m from to le = by (int_lt l (pos 0)) refl
  where
    t_some : pos 0 <ℤ t
    t_some = above qm t m.qm_some from
      where
        above : (a b : ℤ) → pos 0 <ℤ a → a ≤ℤ b → pos 0 <ℤ b
        above a b h k = omega (arith, ints)

    -- without a reading below 0 there are no microticks below 0
    some : pos 0 ≤ℤ l → pos 0 ≤ℤ y
    some l_from =
        let q_from = no_less q m.q_some in
        let product : pos 0 ≤ℤ (p *ℤ (y *ℤ t)) = trans (pos 0) (q *ℤ l) (p *ℤ (y *ℤ t)) (mulz_from q l q_from l_from) le in
        let length : pos 0 ≤ℤ (y *ℤ t) = cancel_left p (pos 0) (y *ℤ t) m.p_some (under p (p *ℤ (y *ℤ t)) product) in
        lez_of_mulz-lez (pos 0) y t t_some (under' t (y *ℤ t) length)
      where
        under : (p x : ℤ) → pos 0 ≤ℤ x → (p *ℤ pos 0) ≤ℤ x
        under p x h = omega (arith, ints)

        under' : (t x : ℤ) → pos 0 ≤ℤ x → (pos 0 *ℤ t) ≤ℤ x
        under' t x h = omega (arith, ints)

    by : (negative : Bool) → int_lt l (pos 0) ≡ negative → ceiling_of l (if negative then short else long) ≤ℤ y
    by false is =
        let y_from = some (from_ge l (pos 0) is) in
        ceiling_below l long y m.long_some
        (cancel_left q l (y *ℤ long) m.q_some (trans (q *ℤ l) (p *ℤ (y *ℤ t)) (q *ℤ (y *ℤ long)) le (up_most p q qm qp short long t y m to y_from)))
    by true is =
        by_lt_z y (pos 0)
        (λ down.
        ceiling_below l short y m.short_some
        (cancel_left q l (y *ℤ short) m.q_some (trans (q *ℤ l) (p *ℤ (y *ℤ t)) (q *ℤ (y *ℤ short)) le (down_most p q qm qp short long t y m from (no_more y down)))))
        (λ up.
        ceiling_below l short y m.short_some
        (trans l (pos 0) (y *ℤ short) (no_more l (from_lt l (pos 0) is)) (mulz_from y short up (no_less short m.short_some))))

most_micros : (p q qm qp short long t y h : ℤ) → MicroReads p q qm qp short long → qm ≤ℤ t → t ≤ℤ qp → (p *ℤ (y *ℤ t)) ≤ℤ (q *ℤ h)
    → y ≤ℤ floor_of h (if int_lt h (pos 0) then long else short)
most_micros p q qm qp short long t y h m from to le = by (int_lt h (pos 0)) refl
  where
    -- a reading below 0 is of microticks below 0
    down : h <ℤ pos 0 → y ≤ℤ pos 0
    down below =
        by_lt_z (pos 0) y
        (λ up.
        let y_from = no_less y up in
        let product : (q *ℤ (y *ℤ short)) ≤ℤ (q *ℤ h) = trans (q *ℤ (y *ℤ short)) (p *ℤ (y *ℤ t)) (q *ℤ h) (up_least p q qm qp short long t y m from y_from) le in
        absurd (contrary (y *ℤ short) h (mulz_from y short y_from (no_less short m.short_some)) (cancel_left q (y *ℤ short) h m.q_some product) below))
        (λ other. other)
      where
        contrary : (a h : ℤ) → pos 0 ≤ℤ a → a ≤ℤ h → h <ℤ pos 0 → ⊥
        contrary a h i j k = omega (arith, ints)

    by : (negative : Bool) → int_lt h (pos 0) ≡ negative → y ≤ℤ floor_of h (if negative then long else short)
    by true is =
        floor_above h long y m.long_some
        (cancel_left q (y *ℤ long) h m.q_some
        (trans (q *ℤ (y *ℤ long)) (p *ℤ (y *ℤ t)) (q *ℤ h) (down_least p q qm qp short long t y m to (down (from_lt h (pos 0) is))) le))
    by false is =
        by_lt_z (pos 0) y
        (λ up.
        floor_above h short y m.short_some
        (cancel_left q (y *ℤ short) h m.q_some (trans (q *ℤ (y *ℤ short)) (p *ℤ (y *ℤ t)) (q *ℤ h) (up_least p q qm qp short long t y m from (no_less y up)) le)))
        (λ other.
        floor_above h short y m.short_some
        (trans (y *ℤ short) (pos 0) h (flipped y short (times_from short y (no_less short m.short_some) other)) (from_ge h (pos 0) is)))
      where
        flipped : (y s : ℤ) → (s *ℤ y) ≤ℤ pos 0 → (y *ℤ s) ≤ℤ pos 0
        flipped y s h = swap (s *ℤ y) (y *ℤ s) h (mulz_comm y s)
          where
            swap : (a b : ℤ) → a ≤ℤ pos 0 → b ≡ a → b ≤ℤ pos 0
            swap a b h i = omega (arith, ints)

-- ---- the microtick of a cluster

-- a number of which so many are above 0 is above 0
above_by : (q x l : ℤ) → pos 0 ≤ℤ q → pos 0 <ℤ x → x ≤ℤ (q *ℤ l) → pos 0 <ℤ l
above_by q x l from some le =
    by_lt_z (pos 0) l (λ up. up) (λ down. absurd (contrary x (q *ℤ l) some le (times_from q l from down)))
  where
    contrary : (x y : ℤ) → pos 0 <ℤ x → x ≤ℤ y → y ≤ℤ pos 0 → ⊥
    contrary x y h i j = omega (arith, ints)

pub product_some : (a b : ℤ) → pos 0 <ℤ a → pos 0 <ℤ b → pos 0 <ℤ (a *ℤ b)
product_some a b h k = up (a *ℤ b) (pos 1 *ℤ b) b (mulz-lez (pos 1) a b (one a h) (no_less b k)) (once b) k
  where
    one : (a : ℤ) → pos 0 <ℤ a → pos 1 ≤ℤ a
    one a h = omega (arith, ints)

    once : (b : ℤ) → pos 1 *ℤ b ≡ b
    once b = omega (arith, ints)

    up : (p o b : ℤ) → o ≤ℤ p → o ≡ b → pos 0 <ℤ b → pos 0 <ℤ p
    up p o b h i j = omega (arith, ints)

-- no clock within a drift is so slow that a microtick is nothing on it
slow_enough : (drift : ℕ) (q : ℤ) → drift ≤ 1_000 → pos 2 ≤ℤ q → pos 0 <ℤ least_reading drift q
slow_enough drift q to from = by (int_lt q (pos 0)) refl
  where
    slow : (drift : ℕ) → drift ≤ 1_000 → pos 999_000 ≤ℤ slow_million drift
    slow drift le = omega (arith, ints)

    enough : (q m : ℤ) → pos 2 ≤ℤ q → pos 999_000 ≤ℤ m → (pos 1 *ℤ pos nominal) ≤ℤ (q *ℤ m)
    enough q m h k = grown (q *ℤ m) m (mulz-lez (pos 2) q m h (plus m k)) k
      where
        plus : (m : ℤ) → pos 999_000 ≤ℤ m → pos 0 ≤ℤ m
        plus m h = omega (arith, ints)

        grown : (a m : ℤ) → (pos 2 *ℤ m) ≤ℤ a → pos 999_000 ≤ℤ m → (pos 1 *ℤ pos nominal) ≤ℤ a
        grown a m h k = omega (arith, ints)

    some : (f : ℤ) → pos 1 ≤ℤ f → pos 0 <ℤ f
    some f h = omega (arith, ints)

    million : pos 0 <ℤ pos nominal
    million = omega (arith, ints)

    contrary : (q : ℤ) → pos 2 ≤ℤ q → q <ℤ pos 0 → ⊥
    contrary q h k = omega (arith, ints)

    by : (negative : Bool) → int_lt q (pos 0) ≡ negative → pos 0 <ℤ floor_of (q *ℤ (if negative then fast_million drift else slow_million drift)) (pos nominal)
    by true less = absurd (contrary q from (from_lt q (pos 0) less))
    by false more =
        some (floor_of (q *ℤ slow_million drift) (pos nominal))
        (floor_above (q *ℤ slow_million drift) (pos nominal) (pos 1) million (enough q (slow_million drift) from (slow drift to)))

micro_reads : (p : Values) (drift : ℕ) (clock : StraightClock) → IsSane p → IsWithinDrift drift clock
    → MicroReads clock.counts clock.ticks (pos (shortest_micro p)) (pos (longest_micro p)) (reading_scale drift p).micro_from (reading_scale drift p).micro_to
micro_reads p drift clock sane is =
    let range = sane.ranges name.xRateBound in
    let short : pos 2 ≤ℤ pos (shortest_micro p) = omega (arith, ints, natural p.rate_bound (omega (arith, ints, range.0)), range.1) in
    let long : pos 0 <ℤ pos (longest_micro p) = omega (arith, ints) in
    record {
      p_some = is.counts_from;
      q_some = is.ticks_from;
      qm_some = some (pos (shortest_micro p)) short;
      short_some = slow_enough drift (pos (shortest_micro p)) is.drift_to short;
      long_some =
          above_by clock.ticks (clock.counts *ℤ pos (longest_micro p)) (most_reading drift (pos (longest_micro p))) (no_less clock.ticks is.ticks_from)
          (product_some clock.counts (pos (longest_micro p)) is.counts_from long) (most_reading_lem drift clock (pos (longest_micro p)) is);
      low = least_reading_lem drift clock (pos (shortest_micro p)) is;
      high = most_reading_lem drift clock (pos (longest_micro p)) is;
    }
  where
    some : (q : ℤ) → pos 2 ≤ℤ q → pos 0 <ℤ q
    some q h = omega (arith, ints)

-- what lies between two action points without two shares of a cycle is the term of the cycle between
term_of_points :
    (gd ge go gn gs gl gt al' al rl x y : ℤ)
    → gd ≡ ge -ℤ go → ge ≡ (gn +ℤ al') -ℤ x → go ≡ (gs +ℤ al) -ℤ y → gn ≡ (gs +ℤ gl) +ℤ gt → rl ≡ gl -ℤ al
    → ((((gd -ℤ al') -ℤ rl) +ℤ x) -ℤ y) ≡ gt
term_of_points gd ge go gn gs gl gt al' al rl x y h i j k m = omega (arith, ints)

-- ---- a node that goes on

module _ (p : Values) (drift : ℕ) (clock : StraightClock) (node : SeenTwice) (span : Option Interval) (goes : GoesOn p drift clock node span) where
  abbrev scale : Scale
  scale = reading_scale drift p

  abbrev g : ℤ
  g = p.macros

  abbrev a : ℤ
  a = node.first.course.action

  abbrev rest : ℤ
  rest = p.macros -ℤ node.first.course.action

  abbrev most : ℤ
  most = (reading_scale drift p).micro_to

  abbrev fine : StraightClock
  fine = shared p.macros clock

  abbrev course : Course
  course = node.first.course

  abbrev next : Course
  next = node.second.course

  abbrev odd : NodeRow
  odd = node.first.odd

  abbrev even : NodeRow
  even = node.second.even

  abbrev o : ℤ
  o = reading_at clock (odd_action p node.first.odd node.first.course.action)

  abbrev e : ℤ
  e = reading_at clock (even_action p node.second.even node.first.course.action)

  abbrev l : ℤ
  l = reading_of clock (cycle_length_of p node.first.odd)

  abbrev l' : ℤ
  l' = reading_of clock (cycle_length_of p node.second.even)

  -- the offset term, in ticks
  abbrev term : ℤ
  term = node.first.odd.offset *ℤ node.first.odd.length

  g_some : pos 0 <ℤ g
  g_some = (numbers_of p goes.sane).macros_some

  ticks_from : pos 0 ≤ℤ clock.ticks
  ticks_from = no_less clock.ticks goes.within_drift.ticks_from

  rest_from : pos 0 ≤ℤ rest
  rest_from = left p.macros a p.correction goes.on.first.seen.acts_to (numbers_of p goes.sane).correction_to
    where
      left : (g a o : ℤ) → a ≤ℤ o → o ≤ℤ g → pos 0 ≤ℤ (g -ℤ a)
      left g a o h k = omega (arith, ints)

  reads_next : ReadsIn clock next.even (even_action p even a)
  reads_next = subst (λ m. ReadsIn clock next.even (even_action p even m)) goes.same_action goes.on.second.holds.in_even

  odd_way : HasLine clock g most a (reading_at clock node.first.odd.start) l o
  odd_way = odd_line p drift clock course node.first.even odd goes.on.first.seen goes.on.first.holds a goes.on.first.seen.acts_to

  even_way : HasLine clock g most a (reading_at clock node.second.even.start) l' e
  even_way = even_line p drift clock next even node.second.odd goes.on.second.seen goes.on.second.holds a

  -- the next start lies a length and the offset term later
  starts_on : reading_at clock node.second.even.start ≡ (reading_at clock node.first.odd.start +ℤ l) +ℤ (clock.counts *ℤ term)
  starts_on =
      later (clock.counts *ℤ node.first.odd.start) (clock.counts *ℤ cycle_length_of p odd) (clock.counts *ℤ term) (clock.counts *ℤ node.second.even.start) clock.zero
      (
      ap (λ x. clock.counts *ℤ x) (goes.on.follows ∙ ap (λ x. node.first.odd.start +ℤ x) (addz-mulz (p.micros +ℤ odd.rate) odd.offset odd.length))
      ∙ mulz-addz node.first.odd.start (cycle_length_of p odd +ℤ term) clock.counts
      ∙ ap (λ x. (clock.counts *ℤ node.first.odd.start) +ℤ x) (mulz-addz (cycle_length_of p odd) term clock.counts)
      )
    where
      later : (s l t e z : ℤ) → e ≡ s +ℤ (l +ℤ t) → e +ℤ z ≡ ((s +ℤ z) +ℤ l) +ℤ t
      later s l t e z h = omega (arith, ints)

  from_odd : LastsIn clock (onward course next span) (even_action p even a -ℤ odd_action p odd a)
  from_odd =
      meets_if clock span (between course.odd next.even) (reading_of clock (even_action p even a -ℤ odd_action p odd a)) goes.spanned
      (subst (λ r. HasReading clock (between course.odd next.even) r) (apart_reads clock (odd_action p odd a) (even_action p even a))
      (reads_back clock next.even course.odd e o reads_next goes.on.first.holds.in_odd))

  share_of : ℤ → Interval → Interval
  share_of n length = record { low = floor_of (n *ℤ length.low) g; high = ceiling_of (n *ℤ length.high) g }

  offset_reads : LastsIn clock (offset_reading scale course next span) term
  unfolding share_of
  offset_reads =
      let from = onward course next span in
      let d = reading_of clock (even_action p even a -ℤ odd_action p odd a) in
      let one : Interval = record { low = from.low -ℤ share_to scale a next.length.high; high = from.high -ℤ share_from scale a next.length.low } in
      let two : Interval = record { low = one.low -ℤ share_to scale rest course.length.high; high = one.high -ℤ share_from scale rest course.length.low } in
      let three : Interval = record { low = two.low; high = two.high +ℤ most } in
      let n = ((g *ℤ d) -ℤ (a *ℤ l')) -ℤ (rest *ℤ l) in
      of_all_parts g clock (offset_reading scale course next span) (clock.counts *ℤ term) g_some
      (subst (λ r. HasReading fine (offset_reading scale course next span) r)
      (
      term_of_points (g *ℤ d) (g *ℤ e) (g *ℤ o) (g *ℤ reading_at clock node.second.even.start) (g *ℤ reading_at clock node.first.odd.start) (g *ℤ l) (g *ℤ (clock.counts *ℤ term)) (a *ℤ l') (a *ℤ l) (rest *ℤ l) even_way.less odd_way.less
      (ap (λ x. g *ℤ x) (sym (apart_reads clock (odd_action p odd a) (even_action p even a))) ∙ mulz-subz e o g)
      even_way.is odd_way.is
      (
      ap (λ x. g *ℤ x) starts_on
      ∙ mulz-addz (reading_at clock node.first.odd.start +ℤ l) (clock.counts *ℤ term) g
      ∙ ap (λ x. x +ℤ (g *ℤ (clock.counts *ℤ term))) (mulz-addz (reading_at clock node.first.odd.start) l g)
      )
      (subz-mulz g a l)
      )
      (reads_down fine three most (n +ℤ even_way.less) odd_way.less
      (reads_up fine two most n even_way.less
      (reads_back fine one (share_of rest course.length) ((g *ℤ d) -ℤ (a *ℤ l')) (rest *ℤ l)
      (reads_back fine from (share_of a next.length) (g *ℤ d) (a *ℤ l') (all_parts g clock from d (no_less g g_some) from_odd)
      (some_parts g a clock next.length l' g_some ticks_from goes.on.first.seen.acts_from goes.on.second.holds.even_lasts))
      (some_parts g rest clock course.length l g_some ticks_from rest_from goes.on.first.holds.odd_lasts))
      even_way.bounds)
      odd_way.bounds))

  micros : MicroReads clock.counts clock.ticks (pos (shortest_micro p)) (pos (longest_micro p)) (reading_scale drift p).micro_from (reading_scale drift p).micro_to
  micros = micro_reads p drift clock goes.sane goes.within_drift

  -- how many microticks of the odd cycle lie in an interval
  micros_lie : (y : ℤ) (interval : Interval) → LastsIn clock interval (y *ℤ odd.length) → IsBetween (micros_from scale interval.low) (micros_to scale interval.high) y
  micros_lie y interval lasts =
      let proper = goes.on.first.seen.regular.odd_micro in
      record {
        low =
            least_micros clock.counts clock.ticks (pos (shortest_micro p)) (pos (longest_micro p)) scale.micro_from scale.micro_to odd.length y interval.low micros proper.least proper.most lasts.low;
        high =
            most_micros clock.counts clock.ticks (pos (shortest_micro p)) (pos (longest_micro p)) scale.micro_from scale.micro_to odd.length y interval.high micros proper.least proper.most lasts.high;
      }

  offset_lies : IsBetween (micros_from scale (offset_reading scale course next span).low) (micros_to scale (offset_reading scale course next span).high) odd.offset
  offset_lies = micros_lie odd.offset (offset_reading scale course next span) offset_reads

  abbrev step : ℤ
  step = node.second.even.rate -ℤ node.first.odd.rate

  -- the step of the rate, in ticks, is that of the lengths, but for the change of the microtick
  step_near : IsWithin (pos (cycle_change p)) ((step *ℤ odd.length) -ℤ (cycle_length_of p even -ℤ cycle_length_of p odd))
  step_near =
      let n = p.micros +ℤ even.rate in
      let numbers = numbers_of p goes.sane in
      let q = micros_of p even.rate (pos 0) goes.sane goes.on.second.seen.regular.rate_within (none 0) (no_less p.macros numbers.macros_some) in
      let some : pos 0 ≤ℤ n = trans (pos 0) (pos (least_cycle p)) n numbers.least_from q.least in
      let within : IsWithin (most_cycle p *ℤ pos (amount p name.xChangeBound)) (n *ℤ (even.length -ℤ odd.length)) =
      mulz_within n (even.length -ℤ odd.length) (most_cycle p) (pos (amount p name.xChangeBound)) some q.most goes.steady in
      subst (λ j. IsWithin j ((step *ℤ odd.length) -ℤ (cycle_length_of p even -ℤ cycle_length_of p odd))) (sym numbers.change_by)
      (turned (most_cycle p *ℤ pos (amount p name.xChangeBound)) (n *ℤ even.length) (n *ℤ odd.length) ((p.micros +ℤ odd.rate) *ℤ odd.length) (n *ℤ (even.length -ℤ odd.length)) (step *ℤ odd.length)
      (mulz-subz even.length odd.length n)
      (ap (λ x. x *ℤ odd.length) (same p.micros even.rate odd.rate) ∙ subz-mulz n (p.micros +ℤ odd.rate) odd.length) within)
    where
      none : (k : ℕ) → pos 0 ≤ℤ pos k
      none k = omega (arith, ints)

      same : (n r s : ℤ) → r -ℤ s ≡ (n +ℤ r) -ℤ (n +ℤ s)
      same n r s = omega (arith, ints)

      turned : (j ne nl lo d so : ℤ) → d ≡ ne -ℤ nl → so ≡ nl -ℤ lo → IsWithin j d → IsWithin j (so -ℤ (ne -ℤ lo))
      turned j ne nl lo d so h k within = record { low = omega (arith, ints, within.high); high = omega (arith, ints, within.low) }

  step_reads : LastsIn clock (step_reading scale course next) (step *ℤ odd.length)
  step_reads =
      let apart : Interval = record { low = next.length.low -ℤ course.length.high; high = next.length.high -ℤ course.length.low } in
      reads_near clock apart scale.change (l' -ℤ l) (reading_of clock (step *ℤ odd.length))
      (reads_back clock next.length course.length l' l goes.on.second.holds.even_lasts goes.on.first.holds.odd_lasts)
      (subst (λ x. IsWithin (clock.ticks *ℤ scale.change) (reading_of clock (step *ℤ odd.length) -ℤ x)) (mulz-subz (cycle_length_of p even) (cycle_length_of p odd) clock.counts)
      (change_reads drift clock (pos (cycle_change p)) (step *ℤ odd.length) (cycle_length_of p even -ℤ cycle_length_of p odd) goes.within_drift step_near))

  step_lies : IsBetween (micros_from scale (step_reading scale course next).low) (micros_to scale (step_reading scale course next).high) step
  step_lies = micros_lie step (step_reading scale course next) step_reads

pub offsets_are_seen : OffsetsAreSeen
offsets_are_seen p drift clock node span goes = offset_lies p drift clock node span goes

pub rate_steps_are_seen : RateStepsAreSeen
rate_steps_are_seen p drift clock node span goes = step_lies p drift clock node span goes
