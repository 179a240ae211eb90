-- Readings of a straight clock.
use Rattle.std.proofs.Common.{◌≡◌, ℕ, ◌≤◌, ℤ, pos, Bool, true, false, refl, ap, sym, ◌∙◌, arith}
use Rattle.std.specs.Prelude.{◌*ℤ◌, ◌≤ℤ◌, ◌<ℤ◌, neg_ℤ, int_lt, if◌then◌else◌}
use Rattle.std.proofs.lemmas.Int.{ints, by_lt_z}
use Rattle.fr_midpoint.proofs.Products.{lez_of_mulz-lez, mulz-lez, mulz-lez_left, mulz-negz, mulz_assoc, mulz_comm}
use Rattle.fr_time.specs.Position.{floor_of}
use Rattle.fr_bound.specs.Bounds.{nominal}
use Rattle.fr_course.specs.Readings.{ceiling_of, fast_million, least_reading, least_ticks, most_reading, most_ticks, slow_million}
use Rattle.fr_seen.specs.Clocks.{IsWithinDrift, ReadingsHaveTicks, StraightClock, TicksHaveReadings}
use Rattle.fr_course.proofs.Floors.{ceiling_below, floor_below, mulz-lez_down}

itself : (a : ℤ) → a ≤ℤ a
itself a = omega (arith, ints)

trans : (a b c : ℤ) → a ≤ℤ b → b ≤ℤ c → a ≤ℤ c
trans a b c h k = omega (arith, ints)

from_lt : (a b : ℤ) → int_lt a b ≡ true → a ≤ℤ b
from_lt a b is = grind (arith, ints)

from_ge : (a b : ℤ) → int_lt a b ≡ false → b ≤ℤ a
from_ge a b is = grind (arith, ints)

swapped : (a b c : ℤ) → a *ℤ (b *ℤ c) ≡ b *ℤ (a *ℤ c)
swapped a b c = sym (mulz_assoc a b c) ∙ ap (λ x. x *ℤ c) (mulz_comm a b) ∙ mulz_assoc b a c

-- the reading of a product of so many millions, over a million, is no more than the product
over_million : (million part counts ticks x : ℤ) → pos 0 <ℤ million → pos 0 ≤ℤ ticks → (x *ℤ (part *ℤ ticks)) ≤ℤ (x *ℤ (million *ℤ counts))
    → (ticks *ℤ floor_of (x *ℤ part) million) ≤ℤ (counts *ℤ x)
over_million million part counts ticks x some from le =
    let f = floor_of (x *ℤ part) million in
    let below : (ticks *ℤ (f *ℤ million)) ≤ℤ (ticks *ℤ (x *ℤ part)) = mulz-lez_left (f *ℤ million) (x *ℤ part) ticks (floor_below (x *ℤ part) million some) from in
    let left : (ticks *ℤ f) *ℤ million ≡ ticks *ℤ (f *ℤ million) = mulz_assoc ticks f million in
    let middle : ticks *ℤ (x *ℤ part) ≡ x *ℤ (part *ℤ ticks) = swapped ticks x part ∙ ap (λ y. x *ℤ y) (mulz_comm ticks part) in
    let right : (counts *ℤ x) *ℤ million ≡ x *ℤ (million *ℤ counts) = mulz_comm (counts *ℤ x) million ∙ sym (mulz_assoc million counts x) ∙ mulz_comm (million *ℤ counts) x in
    lez_of_mulz-lez (ticks *ℤ f) (counts *ℤ x) million some
    (chain ((ticks *ℤ f) *ℤ million) (ticks *ℤ (f *ℤ million)) (ticks *ℤ (x *ℤ part)) (x *ℤ (part *ℤ ticks)) (x *ℤ (million *ℤ counts)) ((counts *ℤ x) *ℤ million) left below middle le right)
  where
    chain : (a b c d e g : ℤ) → a ≡ b → b ≤ℤ c → c ≡ d → d ≤ℤ e → g ≡ e → a ≤ℤ g
    chain a b c d e g h i j k l = omega (arith, ints)

some_million : pos 0 <ℤ pos nominal
some_million = omega (arith, ints)

no_less : (a : ℤ) → pos 0 <ℤ a → pos 0 ≤ℤ a
no_less a h = omega (arith, ints)

pub least_reading_lem : (drift : ℕ) (clock : StraightClock) (x : ℤ) → IsWithinDrift drift clock → (clock.ticks *ℤ least_reading drift x) ≤ℤ (clock.counts *ℤ x)
least_reading_lem drift clock x is = by (int_lt x (pos 0)) refl
  where
    by : (negative : Bool) → int_lt x (pos 0) ≡ negative
        → (clock.ticks *ℤ floor_of (x *ℤ (if negative then fast_million drift else slow_million drift)) (pos nominal)) ≤ℤ (clock.counts *ℤ x)
    by true less =
        over_million (pos nominal) (fast_million drift) clock.counts clock.ticks x some_million (no_less clock.ticks is.ticks_from)
        (mulz-lez_down (pos nominal *ℤ clock.counts) (fast_million drift *ℤ clock.ticks) x is.fast (from_lt x (pos 0) less))
    by false more =
        over_million (pos nominal) (slow_million drift) clock.counts clock.ticks x some_million (no_less clock.ticks is.ticks_from)
        (mulz-lez_left (slow_million drift *ℤ clock.ticks) (pos nominal *ℤ clock.counts) x is.slow (from_ge x (pos 0) more))

pub most_reading_lem : (drift : ℕ) (clock : StraightClock) (x : ℤ) → IsWithinDrift drift clock → (clock.counts *ℤ x) ≤ℤ (clock.ticks *ℤ most_reading drift x)
most_reading_lem drift clock x is =
    turned (clock.ticks *ℤ least_reading drift (neg_ℤ x)) (clock.counts *ℤ neg_ℤ x) (clock.counts *ℤ x) (clock.ticks *ℤ most_reading drift x)
    (least_reading_lem drift clock (neg_ℤ x) is) (mulz-negz clock.counts x) (mulz-negz clock.ticks (least_reading drift (neg_ℤ x)))
  where
    turned : (a b c d : ℤ) → a ≤ℤ b → b ≡ neg_ℤ c → d ≡ neg_ℤ a → c ≤ℤ d
    turned a b c d h k l = omega (arith, ints)

pub ticks_have_readings : TicksHaveReadings
ticks_have_readings drift clock ticks is = record { low = least_reading_lem drift clock ticks is; high = most_reading_lem drift clock ticks is }

-- the other way: where a reading is no more than a product, so many millions of it are no more than the part
under_million : (million part counts ticks l x : ℤ) → pos 0 <ℤ ticks → pos 0 ≤ℤ million → (ticks *ℤ l) ≤ℤ (counts *ℤ x)
    → (x *ℤ (million *ℤ counts)) ≤ℤ (x *ℤ (part *ℤ ticks)) → (l *ℤ million) ≤ℤ (x *ℤ part)
under_million million part counts ticks l x some from le wide =
    let grown : (million *ℤ (ticks *ℤ l)) ≤ℤ (million *ℤ (counts *ℤ x)) = mulz-lez_left (ticks *ℤ l) (counts *ℤ x) million le from in
    let left : (l *ℤ million) *ℤ ticks ≡ million *ℤ (ticks *ℤ l) = mulz_comm (l *ℤ million) ticks ∙ ap (λ y. ticks *ℤ y) (mulz_comm l million) ∙ swapped ticks million l in
    let middle : million *ℤ (counts *ℤ x) ≡ x *ℤ (million *ℤ counts) = sym (mulz_assoc million counts x) ∙ mulz_comm (million *ℤ counts) x in
    let right : (x *ℤ part) *ℤ ticks ≡ x *ℤ (part *ℤ ticks) = mulz_assoc x part ticks in
    lez_of_mulz-lez (l *ℤ million) (x *ℤ part) ticks some
    (chain ((l *ℤ million) *ℤ ticks) (million *ℤ (ticks *ℤ l)) (million *ℤ (counts *ℤ x)) (x *ℤ (million *ℤ counts)) (x *ℤ (part *ℤ ticks)) ((x *ℤ part) *ℤ ticks) left grown middle wide right)
  where
    chain : (a b c d e g : ℤ) → a ≡ b → b ≤ℤ c → c ≡ d → d ≤ℤ e → g ≡ e → a ≤ℤ g
    chain a b c d e g h i j k l = omega (arith, ints)

slow_from : (drift : ℕ) → drift ≤ 1_000 → pos 0 <ℤ slow_million drift
slow_from drift le = omega (arith, ints)

fast_from : (drift : ℕ) → pos 0 <ℤ fast_million drift
fast_from drift = omega (arith, ints)

-- a product below 0 comes of a number below 0, where the other one is above 0
sign : (a x : ℤ) → pos 0 <ℤ a → pos 0 ≤ℤ (a *ℤ x) → pos 0 ≤ℤ x
sign a x above le = lez_of_mulz-lez (pos 0) x a above (from (a *ℤ x) (x *ℤ a) (pos 0 *ℤ a) le (mulz_comm x a) (none a))
  where
    none : (a : ℤ) → pos 0 *ℤ a ≡ pos 0
    none a = omega (arith, ints)

    from : (p q z : ℤ) → pos 0 ≤ℤ p → q ≡ p → z ≡ pos 0 → z ≤ℤ q
    from p q z h k l = omega (arith, ints)

from_product : (a b : ℤ) → pos 0 ≤ℤ a → pos 0 ≤ℤ b → pos 0 ≤ℤ (a *ℤ b)
from_product a b h k = omega (arith, ints, mulz-lez (pos 0) a b h k)

below_product : (a b : ℤ) → a ≤ℤ pos 0 → pos 0 ≤ℤ b → (a *ℤ b) ≤ℤ pos 0
below_product a b h k = omega (arith, ints, mulz-lez a (pos 0) b h k)

pub least_ticks_lem : (drift : ℕ) (clock : StraightClock) (low x : ℤ) → IsWithinDrift drift clock → (clock.ticks *ℤ low) ≤ℤ (clock.counts *ℤ x) → least_ticks drift low ≤ℤ x
least_ticks_lem drift clock low x is le = by (int_lt low (pos 0)) refl
  where
    million_from : pos 0 ≤ℤ pos nominal
    million_from = omega (arith, ints)

    slow : pos 0 <ℤ slow_million drift
    slow = slow_from drift is.drift_to

    fast : pos 0 <ℤ fast_million drift
    fast = fast_from drift

    by : (negative : Bool) → int_lt low (pos 0) ≡ negative
        → ceiling_of (low *ℤ pos nominal) (if negative then slow_million drift else fast_million drift) ≤ℤ x
    by false more =
        let some : pos 0 ≤ℤ (clock.counts *ℤ x) =
        trans (pos 0) (clock.ticks *ℤ low) (clock.counts *ℤ x) (from_product clock.ticks low (no_less clock.ticks is.ticks_from) (from_ge low (pos 0) more)) le in
        ceiling_below (low *ℤ pos nominal) (fast_million drift) x fast
        (
        under_million (pos nominal) (fast_million drift) clock.counts clock.ticks low x is.ticks_from million_from le
        (mulz-lez_left (pos nominal *ℤ clock.counts) (fast_million drift *ℤ clock.ticks) x is.fast (sign clock.counts x is.counts_from some))
        )
    by true less =
        by_lt_z
        x
        (pos 0)
        (λ negative.
        ceiling_below (low *ℤ pos nominal) (slow_million drift) x slow
        (
        under_million (pos nominal) (slow_million drift) clock.counts clock.ticks low x is.ticks_from million_from le
        (mulz-lez_down (slow_million drift *ℤ clock.ticks) (pos nominal *ℤ clock.counts) x is.slow (under x negative))
        ))
        (λ positive.
        ceiling_below (low *ℤ pos nominal) (slow_million drift) x slow
        (
        trans (low *ℤ pos nominal) (pos 0) (x *ℤ slow_million drift) (below_product low (pos nominal) (from_lt low (pos 0) less) million_from)
        (from_product x (slow_million drift) positive (no_less (slow_million drift) slow))
        ))
      where
        under : (x : ℤ) → x <ℤ pos 0 → x ≤ℤ pos 0
        under x h = omega (arith, ints)

pub most_ticks_lem : (drift : ℕ) (clock : StraightClock) (high x : ℤ) → IsWithinDrift drift clock → (clock.counts *ℤ x) ≤ℤ (clock.ticks *ℤ high) → x ≤ℤ most_ticks drift high
most_ticks_lem drift clock high x is le =
    turned (least_ticks drift (neg_ℤ high)) x
    (least_ticks_lem drift clock (neg_ℤ high) (neg_ℤ x) is
    (both (clock.counts *ℤ x) (clock.ticks *ℤ high) (clock.counts *ℤ neg_ℤ x) (clock.ticks *ℤ neg_ℤ high) le (mulz-negz clock.counts x) (mulz-negz clock.ticks high)))
  where
    both : (a b c d : ℤ) → a ≤ℤ b → c ≡ neg_ℤ a → d ≡ neg_ℤ b → d ≤ℤ c
    both a b c d h k l = omega (arith, ints)

    turned : (a x : ℤ) → a ≤ℤ neg_ℤ x → x ≤ℤ neg_ℤ a
    turned a x h = omega (arith, ints)

pub readings_have_ticks : ReadingsHaveTicks
readings_have_ticks drift clock interval ticks is lasts =
    record { low = least_ticks_lem drift clock interval.low ticks is lasts.low; high = most_ticks_lem drift clock interval.high ticks is lasts.high }
