-- An observer's clock: straight, at a rate that is a quotient of whole numbers. So its readings are compared with whole
-- numbers as products, and nothing is divided.
use Rattle.std.specs.Prelude.{ℕ, ◌≤◌, ◌≡◌, false, ℤ, pos, ◌+ℤ◌, ◌-ℤ◌, ◌*ℤ◌, ◌≤ℤ◌, ◌<ℤ◌}
use Rattle.fr_base.specs.Within.{IsBetween, IsWithin}
use Rattle.fr_bound.specs.Bounds.{nominal}
use Rattle.fr_course.specs.declared.intervals.Interval.{Interval}
use Rattle.fr_course.specs.Readings.{fast_million, least_reading, least_ticks, meet, most_reading, most_ticks, slow_million}
use Rattle.fr_course.specs.declared.stamps.Delays.{Delays}
use Rattle.fr_course.specs.declared.stamps.Observer.{Observer}
use Rattle.fr_course.specs.Course.{breadth_of, is_empty, span_of, stamped}

-- in so many ticks it counts so many; at instant 0 it reads this number, times the ticks
pub record StraightClock : Type 0 where
  pub ticks : ℤ
  pub counts : ℤ
  pub zero : ℤ

-- its rate lies within a drift of so many parts per million, at most 1,000
pub record IsWithinDrift (drift : ℕ) (clock : StraightClock) : Type 0 where
  pub drift_to : drift ≤ 1_000
  pub ticks_from : pos 0 <ℤ clock.ticks
  pub counts_from : pos 0 <ℤ clock.counts
  pub slow : (slow_million drift *ℤ clock.ticks) ≤ℤ (pos nominal *ℤ clock.counts)
  pub fast : (pos nominal *ℤ clock.counts) ≤ℤ (fast_million drift *ℤ clock.ticks)

-- its reading at an instant, times the ticks; and of so long
abbrev pub reading_at : StraightClock → ℤ → ℤ
reading_at clock instant = (clock.counts *ℤ instant) +ℤ clock.zero

abbrev pub reading_of : StraightClock → ℤ → ℤ
reading_of clock long = clock.counts *ℤ long

-- a reading lies in an interval: that at an instant, and that of so long
abbrev pub HasReading : StraightClock → Interval → ℤ → Type 0
HasReading clock interval reading = IsBetween (clock.ticks *ℤ interval.low) (clock.ticks *ℤ interval.high) reading

abbrev pub ReadsIn : StraightClock → Interval → ℤ → Type 0
ReadsIn clock interval instant = HasReading clock interval (reading_at clock instant)

abbrev pub LastsIn : StraightClock → Interval → ℤ → Type 0
LastsIn clock interval long = HasReading clock interval (reading_of clock long)

-- so many ticks are from their least to their greatest reading; what has a reading from one number to another lasts from
-- the least to the greatest number of ticks that these can be
abbrev pub TicksHaveReadings : Type 0
TicksHaveReadings =
    (drift : ℕ) (clock : StraightClock) (ticks : ℤ) → IsWithinDrift drift clock
    → LastsIn clock (record { low = least_reading drift ticks; high = most_reading drift ticks }) ticks

abbrev pub ReadingsHaveTicks : Type 0
ReadingsHaveTicks =
    (drift : ℕ) (clock : StraightClock) (interval : Interval) (ticks : ℤ) → IsWithinDrift drift clock
    → LastsIn clock interval ticks → IsBetween (least_ticks drift interval.low) (most_ticks drift interval.high) ticks

-- what lies in two intervals lies in both, and an interval in which something lies is not empty
abbrev pub IntervalsMeet : Type 0
IntervalsMeet =
    (clock : StraightClock) (one other : Interval) (reading : ℤ)
    → HasReading clock one reading → HasReading clock other reading → HasReading clock (meet one other) reading

abbrev pub IntervalsAreThere : Type 0
IntervalsAreThere =
    (clock : StraightClock) (interval : Interval) (reading : ℤ) → pos 0 <ℤ clock.ticks
    → HasReading clock interval reading → is_empty interval ≡ false

-- a frame is sent at an instant, and is under way for so long, within the limits of its delays; a stamp has the reading at
-- its arrival, or is lower by no more than the breadth of stamps
pub record IsStamped (observer : Observer) (delays : Delays) (clock : StraightClock) (sent delay stamp : ℤ) : Type 0 where
  pub within : IsBetween (pos delays.least) (pos delays.most) delay
  pub from : (clock.ticks *ℤ (pos observer.unit *ℤ stamp)) ≤ℤ reading_at clock (sent +ℤ delay)
  pub to : reading_at clock (sent +ℤ delay) ≤ℤ (clock.ticks *ℤ ((pos observer.unit *ℤ stamp) +ℤ breadth_of observer))

-- then its action point lies where the stamp puts it
abbrev pub StampsPlace : Type 0
StampsPlace =
    (observer : Observer) (delays : Delays) (clock : StraightClock) (sent delay stamp : ℤ)
    → IsWithinDrift observer.drift clock → IsStamped observer delays clock sent delay stamp
    → ReadsIn clock (stamped observer delays stamp) sent

-- and two whose delays differ by no more than the jitter lie as far apart as their stamps span
abbrev pub SpansPlace : Type 0
SpansPlace =
    (observer : Observer) (delays : Delays) (clock : StraightClock) (sent delay stamp later_sent later_delay later : ℤ)
    → IsWithinDrift observer.drift clock → IsStamped observer delays clock sent delay stamp
    → IsStamped observer delays clock later_sent later_delay later → IsWithin (pos delays.jitter) (later_delay -ℤ delay)
    → LastsIn clock (span_of observer delays stamp later) (later_sent -ℤ sent)
