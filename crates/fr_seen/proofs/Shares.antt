-- Sums of readings, and shares of them.
use Rattle.std.proofs.Common.{◌≡◌, ℤ, pos, ap, sym, ◌∙◌, arith}
use Rattle.std.specs.Prelude.{◌+ℤ◌, ◌-ℤ◌, ◌*ℤ◌, ◌≤ℤ◌, ◌<ℤ◌, neg_ℤ}
use Rattle.std.specs.Int.{int_max, int_min}
use Rattle.std.proofs.lemmas.Int.{ints}
use Rattle.fr_base.specs.Within.{IsBetween, IsWithin}
use Rattle.fr_midpoint.proofs.Products.{lez_of_mulz-lez, mulz-addz, mulz-lez_left, mulz-subz, mulz_assoc, mulz_comm}
use Rattle.fr_time.specs.Position.{floor_of}
use Rattle.fr_course.specs.declared.intervals.Interval.{Interval}
use Rattle.fr_course.specs.Readings.{ceiling_of}
use Rattle.fr_seen.specs.Clocks.{HasReading, StraightClock}
use Rattle.fr_course.proofs.Floors.{ceiling_above, floor_below, mulz-lez_down}
use Rattle.fr_seen.proofs.Intervals.{on_max, on_min}

-- ---- sums

pub reads_on : (clock : StraightClock) (one other : Interval) (a b : ℤ) → HasReading clock one a → HasReading clock other b
    → HasReading clock (record { low = one.low +ℤ other.low; high = one.high +ℤ other.high }) (a +ℤ b)
reads_on clock one other a b first second =
    record {
      low = low (clock.ticks *ℤ one.low) (clock.ticks *ℤ other.low) (clock.ticks *ℤ (one.low +ℤ other.low)) a b (mulz-addz one.low other.low clock.ticks) first.low second.low;
      high = high (clock.ticks *ℤ one.high) (clock.ticks *ℤ other.high) (clock.ticks *ℤ (one.high +ℤ other.high)) a b (mulz-addz one.high other.high clock.ticks) first.high second.high;
    }
  where
    low : (l m s a b : ℤ) → s ≡ l +ℤ m → l ≤ℤ a → m ≤ℤ b → s ≤ℤ (a +ℤ b)
    low l m s a b e h k = omega (arith, ints)

    high : (l m s a b : ℤ) → s ≡ l +ℤ m → a ≤ℤ l → b ≤ℤ m → (a +ℤ b) ≤ℤ s
    high l m s a b e h k = omega (arith, ints)

pub reads_back : (clock : StraightClock) (one other : Interval) (a b : ℤ) → HasReading clock one a → HasReading clock other b
    → HasReading clock (record { low = one.low -ℤ other.high; high = one.high -ℤ other.low }) (a -ℤ b)
reads_back clock one other a b first second =
    record {
      low = low (clock.ticks *ℤ one.low) (clock.ticks *ℤ other.high) (clock.ticks *ℤ (one.low -ℤ other.high)) a b (mulz-subz one.low other.high clock.ticks) first.low second.high;
      high = high (clock.ticks *ℤ one.high) (clock.ticks *ℤ other.low) (clock.ticks *ℤ (one.high -ℤ other.low)) a b (mulz-subz one.high other.low clock.ticks) first.high second.low;
    }
  where
    low : (l m s a b : ℤ) → s ≡ l -ℤ m → l ≤ℤ a → b ≤ℤ m → s ≤ℤ (a -ℤ b)
    low l m s a b e h k = omega (arith, ints)

    high : (l m s a b : ℤ) → s ≡ l -ℤ m → a ≤ℤ l → m ≤ℤ b → (a -ℤ b) ≤ℤ s
    high l m s a b e h k = omega (arith, ints)

-- with something more or less of a bound
pub reads_near : (clock : StraightClock) (one : Interval) (bound a b : ℤ) → HasReading clock one a → IsWithin (clock.ticks *ℤ bound) (b -ℤ a)
    → HasReading clock (record { low = one.low -ℤ bound; high = one.high +ℤ bound }) b
reads_near clock one bound a b first near =
    record {
      low = low (clock.ticks *ℤ one.low) (clock.ticks *ℤ bound) (clock.ticks *ℤ (one.low -ℤ bound)) a b (mulz-subz one.low bound clock.ticks) first.low near.low;
      high = high (clock.ticks *ℤ one.high) (clock.ticks *ℤ bound) (clock.ticks *ℤ (one.high +ℤ bound)) a b (mulz-addz one.high bound clock.ticks) first.high near.high;
    }
  where
    low : (l m s a b : ℤ) → s ≡ l -ℤ m → l ≤ℤ a → neg_ℤ m ≤ℤ (b -ℤ a) → s ≤ℤ b
    low l m s a b e h k = omega (arith, ints)

    high : (l m s a b : ℤ) → s ≡ l +ℤ m → a ≤ℤ l → (b -ℤ a) ≤ℤ m → b ≤ℤ s
    high l m s a b e h k = omega (arith, ints)

-- more by up to a bound, and less by up to it
pub reads_up : (clock : StraightClock) (one : Interval) (bound a more : ℤ) → HasReading clock one a → IsBetween (pos 0) (clock.ticks *ℤ bound) more
    → HasReading clock (record { low = one.low; high = one.high +ℤ bound }) (a +ℤ more)
reads_up clock one bound a more first up =
    record {
      low = low (clock.ticks *ℤ one.low) a more first.low up.low;
      high = high (clock.ticks *ℤ one.high) (clock.ticks *ℤ bound) (clock.ticks *ℤ (one.high +ℤ bound)) a more (mulz-addz one.high bound clock.ticks) first.high up.high;
    }
  where
    low : (l a m : ℤ) → l ≤ℤ a → pos 0 ≤ℤ m → l ≤ℤ (a +ℤ m)
    low l a m h k = omega (arith, ints)

    high : (l m s a b : ℤ) → s ≡ l +ℤ m → a ≤ℤ l → b ≤ℤ m → (a +ℤ b) ≤ℤ s
    high l m s a b e h k = omega (arith, ints)

pub reads_down : (clock : StraightClock) (one : Interval) (bound a less : ℤ) → HasReading clock one a → IsBetween (pos 0) (clock.ticks *ℤ bound) less
    → HasReading clock (record { low = one.low -ℤ bound; high = one.high }) (a -ℤ less)
reads_down clock one bound a less first down =
    record {
      low = low (clock.ticks *ℤ one.low) (clock.ticks *ℤ bound) (clock.ticks *ℤ (one.low -ℤ bound)) a less (mulz-subz one.low bound clock.ticks) first.low down.high;
      high = high (clock.ticks *ℤ one.high) a less first.high down.low;
    }
  where
    low : (l m s a b : ℤ) → s ≡ l -ℤ m → l ≤ℤ a → b ≤ℤ m → s ≤ℤ (a -ℤ b)
    low l m s a b e h k = omega (arith, ints)

    high : (l a m : ℤ) → a ≤ℤ l → pos 0 ≤ℤ m → (a -ℤ m) ≤ℤ l
    high l a m h k = omega (arith, ints)

-- what two intervals share, each moved by as much
pub meet_by : (clock : StraightClock) (down up : ℤ → ℤ) (one other : Interval) (a : ℤ)
    → HasReading clock (record { low = down one.low; high = up one.high }) a → HasReading clock (record { low = down other.low; high = up other.high }) a
    → HasReading clock (record { low = down (int_max one.low other.low); high = up (int_min one.high other.high) }) a
meet_by clock down up one other a first second =
    record {
      low = on_max (λ x. (clock.ticks *ℤ down x) ≤ℤ a) one.low other.low first.low second.low;
      high = on_min (λ x. a ≤ℤ (clock.ticks *ℤ up x)) one.high other.high first.high second.high;
    }

-- ---- shares: readings times the parts of which some are taken

abbrev pub shared : ℤ → StraightClock → StraightClock
shared parts clock = record clock { ticks = parts *ℤ clock.ticks }

pub all_parts : (parts : ℤ) (clock : StraightClock) (one : Interval) (a : ℤ) → pos 0 ≤ℤ parts → HasReading clock one a → HasReading (shared parts clock) one (parts *ℤ a)
all_parts parts clock one a from first =
    record {
      low = low ((parts *ℤ clock.ticks) *ℤ one.low) (parts *ℤ (clock.ticks *ℤ one.low)) (parts *ℤ a) (mulz_assoc parts clock.ticks one.low) (mulz-lez_left (clock.ticks *ℤ one.low) a parts first.low from);
      high = high ((parts *ℤ clock.ticks) *ℤ one.high) (parts *ℤ (clock.ticks *ℤ one.high)) (parts *ℤ a) (mulz_assoc parts clock.ticks one.high) (mulz-lez_left a (clock.ticks *ℤ one.high) parts first.high from);
    }
  where
    low : (x y z : ℤ) → x ≡ y → y ≤ℤ z → x ≤ℤ z
    low x y z e h = omega (arith, ints)

    high : (x y z : ℤ) → x ≡ y → z ≤ℤ y → z ≤ℤ x
    high x y z e h = omega (arith, ints)

pub of_all_parts : (parts : ℤ) (clock : StraightClock) (one : Interval) (a : ℤ) → pos 0 <ℤ parts → HasReading (shared parts clock) one (parts *ℤ a) → HasReading clock one a
of_all_parts parts clock one a some first =
    record {
      low = lez_of_mulz-lez (clock.ticks *ℤ one.low) a parts some
          (low ((clock.ticks *ℤ one.low) *ℤ parts) (parts *ℤ (clock.ticks *ℤ one.low)) ((parts *ℤ clock.ticks) *ℤ one.low) (parts *ℤ a) (a *ℤ parts)
          (mulz_comm (clock.ticks *ℤ one.low) parts) (mulz_assoc parts clock.ticks one.low) (mulz_comm a parts) first.low);
      high = lez_of_mulz-lez a (clock.ticks *ℤ one.high) parts some
          (high ((clock.ticks *ℤ one.high) *ℤ parts) (parts *ℤ (clock.ticks *ℤ one.high)) ((parts *ℤ clock.ticks) *ℤ one.high) (parts *ℤ a) (a *ℤ parts)
          (mulz_comm (clock.ticks *ℤ one.high) parts) (mulz_assoc parts clock.ticks one.high) (mulz_comm a parts) first.high);
    }
  where
    low : (v w x y z : ℤ) → v ≡ w → x ≡ w → z ≡ y → x ≤ℤ y → v ≤ℤ z
    low v w x y z a b c h = omega (arith, ints)

    high : (v w x y z : ℤ) → v ≡ w → x ≡ w → z ≡ y → y ≤ℤ x → z ≤ℤ v
    high v w x y z a b c h = omega (arith, ints)

turned : (parts ticks f : ℤ) → (parts *ℤ ticks) *ℤ f ≡ ticks *ℤ (f *ℤ parts)
turned parts ticks f = ap (λ x. x *ℤ f) (mulz_comm parts ticks) ∙ mulz_assoc ticks parts f ∙ ap (λ x. ticks *ℤ x) (mulz_comm parts f)

swapped : (a b c : ℤ) → a *ℤ (b *ℤ c) ≡ b *ℤ (a *ℤ c)
swapped a b c = sym (mulz_assoc a b c) ∙ ap (λ x. x *ℤ c) (mulz_comm a b) ∙ mulz_assoc b a c

-- a quotient by the parts, rounded down, is no more than what it comes of; rounded up no less
pub floor_reads : (parts ticks n : ℤ) → pos 0 <ℤ parts → pos 0 ≤ℤ ticks → ((parts *ℤ ticks) *ℤ floor_of n parts) ≤ℤ (ticks *ℤ n)
floor_reads parts ticks n some from =
    chain ((parts *ℤ ticks) *ℤ floor_of n parts) (ticks *ℤ (floor_of n parts *ℤ parts)) (ticks *ℤ n) (turned parts ticks (floor_of n parts))
    (mulz-lez_left (floor_of n parts *ℤ parts) n ticks (floor_below n parts some) from)
  where
    chain : (a b c : ℤ) → a ≡ b → b ≤ℤ c → a ≤ℤ c
    chain a b c e h = omega (arith, ints)

pub ceiling_reads : (parts ticks n : ℤ) → pos 0 <ℤ parts → pos 0 ≤ℤ ticks → (ticks *ℤ n) ≤ℤ ((parts *ℤ ticks) *ℤ ceiling_of n parts)
ceiling_reads parts ticks n some from =
    chain ((parts *ℤ ticks) *ℤ ceiling_of n parts) (ticks *ℤ (ceiling_of n parts *ℤ parts)) (ticks *ℤ n) (turned parts ticks (ceiling_of n parts))
    (mulz-lez_left n (ceiling_of n parts *ℤ parts) ticks (ceiling_above n parts some) from)
  where
    chain : (a b c : ℤ) → a ≡ b → c ≤ℤ b → c ≤ℤ a
    chain a b c e h = omega (arith, ints)

-- so many parts of a reading
pub some_parts : (parts n : ℤ) (clock : StraightClock) (one : Interval) (a : ℤ) → pos 0 <ℤ parts → pos 0 ≤ℤ clock.ticks → pos 0 ≤ℤ n → HasReading clock one a
    → HasReading (shared parts clock) (record { low = floor_of (n *ℤ one.low) parts; high = ceiling_of (n *ℤ one.high) parts }) (n *ℤ a)
some_parts parts n clock one a some ticks_from from first =
    record {
      low = low ((parts *ℤ clock.ticks) *ℤ floor_of (n *ℤ one.low) parts) (clock.ticks *ℤ (n *ℤ one.low)) (n *ℤ (clock.ticks *ℤ one.low)) (n *ℤ a)
          (floor_reads parts clock.ticks (n *ℤ one.low) some ticks_from) (swapped clock.ticks n one.low) (mulz-lez_left (clock.ticks *ℤ one.low) a n first.low from);
      high = high ((parts *ℤ clock.ticks) *ℤ ceiling_of (n *ℤ one.high) parts) (clock.ticks *ℤ (n *ℤ one.high)) (n *ℤ (clock.ticks *ℤ one.high)) (n *ℤ a)
          (ceiling_reads parts clock.ticks (n *ℤ one.high) some ticks_from) (swapped clock.ticks n one.high) (mulz-lez_left a (clock.ticks *ℤ one.high) n first.high from);
    }
  where
    low : (w x y z : ℤ) → w ≤ℤ x → x ≡ y → y ≤ℤ z → w ≤ℤ z
    low w x y z a b c = omega (arith, ints)

    high : (w x y z : ℤ) → x ≤ℤ w → x ≡ y → z ≤ℤ y → z ≤ℤ w
    high w x y z a b c = omega (arith, ints)

-- so many parts backwards
pub parts_back : (parts n : ℤ) (clock : StraightClock) (one : Interval) (a : ℤ) → pos 0 <ℤ parts → pos 0 ≤ℤ clock.ticks → n ≤ℤ pos 0 → HasReading clock one a
    → HasReading (shared parts clock) (record { low = floor_of (n *ℤ one.high) parts; high = ceiling_of (n *ℤ one.low) parts }) (n *ℤ a)
parts_back parts n clock one a some ticks_from to first =
    record {
      low = low ((parts *ℤ clock.ticks) *ℤ floor_of (n *ℤ one.high) parts) (clock.ticks *ℤ (n *ℤ one.high)) (n *ℤ (clock.ticks *ℤ one.high)) (n *ℤ a)
          (floor_reads parts clock.ticks (n *ℤ one.high) some ticks_from) (swapped clock.ticks n one.high) (mulz-lez_down a (clock.ticks *ℤ one.high) n first.high to);
      high = high ((parts *ℤ clock.ticks) *ℤ ceiling_of (n *ℤ one.low) parts) (clock.ticks *ℤ (n *ℤ one.low)) (n *ℤ (clock.ticks *ℤ one.low)) (n *ℤ a)
          (ceiling_reads parts clock.ticks (n *ℤ one.low) some ticks_from) (swapped clock.ticks n one.low) (mulz-lez_down (clock.ticks *ℤ one.low) a n first.low to);
    }
  where
    low : (w x y z : ℤ) → w ≤ℤ x → x ≡ y → y ≤ℤ z → w ≤ℤ z
    low w x y z a b c = omega (arith, ints)

    high : (w x y z : ℤ) → x ≤ℤ w → x ≡ y → z ≤ℤ y → z ≤ℤ w
    high w x y z a b c = omega (arith, ints)

-- so many parts of one and so many of another
pub mean_parts : (parts n m : ℤ) (clock : StraightClock) (one other : Interval) (a b : ℤ) → pos 0 <ℤ parts → pos 0 ≤ℤ clock.ticks → pos 0 ≤ℤ n → pos 0 ≤ℤ m
    → HasReading clock one a → HasReading clock other b
    → HasReading (shared parts clock)
    (record { low = floor_of ((n *ℤ one.low) +ℤ (m *ℤ other.low)) parts; high = ceiling_of ((n *ℤ one.high) +ℤ (m *ℤ other.high)) parts })
    ((n *ℤ a) +ℤ (m *ℤ b))
mean_parts parts n m clock one other a b some ticks_from n_from m_from first second =
    record {
      low = low ((parts *ℤ clock.ticks) *ℤ floor_of ((n *ℤ one.low) +ℤ (m *ℤ other.low)) parts) (clock.ticks *ℤ ((n *ℤ one.low) +ℤ (m *ℤ other.low)))
          (clock.ticks *ℤ (n *ℤ one.low)) (clock.ticks *ℤ (m *ℤ other.low)) (n *ℤ (clock.ticks *ℤ one.low)) (m *ℤ (clock.ticks *ℤ other.low)) (n *ℤ a) (m *ℤ b)
          (floor_reads parts clock.ticks ((n *ℤ one.low) +ℤ (m *ℤ other.low)) some ticks_from) (mulz-addz (n *ℤ one.low) (m *ℤ other.low) clock.ticks)
          (swapped clock.ticks n one.low) (swapped clock.ticks m other.low)
          (mulz-lez_left (clock.ticks *ℤ one.low) a n first.low n_from) (mulz-lez_left (clock.ticks *ℤ other.low) b m second.low m_from);
      high = high ((parts *ℤ clock.ticks) *ℤ ceiling_of ((n *ℤ one.high) +ℤ (m *ℤ other.high)) parts) (clock.ticks *ℤ ((n *ℤ one.high) +ℤ (m *ℤ other.high)))
          (clock.ticks *ℤ (n *ℤ one.high)) (clock.ticks *ℤ (m *ℤ other.high)) (n *ℤ (clock.ticks *ℤ one.high)) (m *ℤ (clock.ticks *ℤ other.high)) (n *ℤ a) (m *ℤ b)
          (ceiling_reads parts clock.ticks ((n *ℤ one.high) +ℤ (m *ℤ other.high)) some ticks_from) (mulz-addz (n *ℤ one.high) (m *ℤ other.high) clock.ticks)
          (swapped clock.ticks n one.high) (swapped clock.ticks m other.high)
          (mulz-lez_left a (clock.ticks *ℤ one.high) n first.high n_from) (mulz-lez_left b (clock.ticks *ℤ other.high) m second.high m_from);
    }
  where
    low : (w x y y' z z' a b : ℤ) → w ≤ℤ x → x ≡ y +ℤ y' → y ≡ z → y' ≡ z' → z ≤ℤ a → z' ≤ℤ b → w ≤ℤ (a +ℤ b)
    low w x y y' z z' a b c d e f g h = omega (arith, ints)

    high : (w x y y' z z' a b : ℤ) → x ≤ℤ w → x ≡ y +ℤ y' → y ≡ z → y' ≡ z' → a ≤ℤ z → b ≤ℤ z' → (a +ℤ b) ≤ℤ w
    high w x y y' z z' a b c d e f g h = omega (arith, ints)
