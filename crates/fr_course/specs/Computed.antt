-- Which correction terms a node must have computed by the rules, in microticks: by its course in a double cycle and by those of
-- other senders, where all but a number of these were heard, and a number of further ones may have been.
use Rattle.std.specs.Prelude.{ℕ, ℤ, pos, ◌+ℤ◌, ◌-ℤ◌, ◌*ℤ◌, ◌≤ℤ◌, ◌<ℤ◌, int_lt, List, ◌∷◌, map, Option, if◌then◌else◌}
use Rattle.std.specs.Option.{option_map}
use Rattle.fr_base.specs.Within.{IsBetween}
use Rattle.fr_cluster.specs.Values.{Values, amount}
use Rattle.fr_cluster.specs.declared.names.ParamName.TheVariants as name
use Rattle.fr_time.specs.Position.{floor_of}
use Rattle.fr_bound.specs.Bounds.{arrival_error, longest_micro, shortest_micro}
use Rattle.fr_bound.specs.SharpBounds.{steady_error}
use Rattle.fr_course.specs.Readings.{ceiling_of, least_ticks, most_ticks, Interval, Scale}
use Rattle.fr_course.specs.Course.{between, odd_macrotick, Course}
use Rattle.fr_course.specs.Middles.{middle}
pub use Rattle.fr_course.specs.Measures.{Measuring}

-- how nodes of a cluster measure, where delays flutter by no more than so many ticks
abbrev pub measuring_of : Values → ℕ → Measuring
measuring_of p flutter =
    record {
      arrival_error = pos (arrival_error p);
      rate_error = pos (steady_error p flutter);
      shortest = pos (shortest_micro p);
      longest = pos (longest_micro p);
      damping = pos (amount p name.pClusterDriftDamping);
    }

-- ---- values

-- readings as ticks
abbrev pub ticks_in : Scale → Interval → Interval
ticks_in scale readings = record { low = least_ticks scale.drift readings.low; high = most_ticks scale.drift readings.high }

-- the length of the cycles of a course
abbrev pub length_ticks : Scale → Course → Interval
length_ticks scale course = ticks_in scale course.length

-- the least and the greatest number of a receiver's microticks that so many ticks are, rounded down
abbrev pub values_from : Measuring → ℤ → ℤ
values_from m ticks = floor_of ticks (if int_lt ticks (pos 0) then m.shortest else m.longest)

abbrev pub values_to : Measuring → ℤ → ℤ
values_to m ticks = floor_of ticks (if int_lt ticks (pos 0) then m.longest else m.shortest)

-- farther by so much at both ends
abbrev pub further_by : ℤ → Interval → Interval
further_by more interval = record { low = interval.low -ℤ more; high = interval.high +ℤ more }

-- what a receiver can have counted of so many ticks, with an error
abbrev pub counted_in : Measuring → ℤ → Interval → Interval
counted_in m error ticks =
    let off = further_by error ticks in
    record { low = values_from m off.low; high = values_to m off.high }

-- the least and the greatest number of a receiver's microticks that give so many ticks
abbrev pub placed_from : Measuring → ℤ → ℤ
placed_from m ticks = ceiling_of ticks (if int_lt ticks (pos 0) then m.shortest else m.longest)

abbrev pub placed_to : Measuring → ℤ → ℤ
placed_to m ticks = floor_of ticks (if int_lt ticks (pos 0) then m.longest else m.shortest)

-- how many of them can give so many ticks, with an error
abbrev pub placed_in : Measuring → ℤ → Interval → Interval
placed_in m error ticks =
    let off = further_by error ticks in
    record { low = placed_from m off.low; high = placed_to m off.high }

-- the deviation of a sender's frame in the odd cycle: how much later its action point is than the receiver's macrotick of the
-- same number
abbrev pub deviation_seen : Scale → Measuring → Course → Course → Interval
deviation_seen scale m receiver sender =
    counted_in m m.arrival_error (ticks_in scale (between (odd_macrotick scale receiver sender.action) sender.odd))

-- its rate value: so many microticks more than those of the receiver's cycle place its action points as far apart as they lie
abbrev pub rate_value_seen : Scale → Measuring → Course → Course → Interval
rate_value_seen scale m receiver sender =
    placed_in m m.rate_error (ticks_in scale (between receiver.length sender.apart))

-- ---- terms

-- a node's own value
abbrev pub own_value : Interval
own_value = record { low = pos 0; high = pos 0 }

-- the offset term, where it is not cut to its limit, and where at most so many of the others were lost
abbrev pub offset_computed : Scale → Measuring → Course → List Course → ℕ → ℕ → Option Interval
offset_computed scale m receiver others further lost =
    middle further lost (own_value ∷ map (deviation_seen scale m receiver) others)

-- by how much the rate term grows, where it is not cut to its limit
abbrev pub rate_computed : Scale → Measuring → Course → List Course → ℕ → ℕ → Option Interval
rate_computed scale m receiver others further lost =
    option_map (further_by m.damping) (middle further lost (own_value ∷ map (rate_value_seen scale m receiver) others))

-- ---- laws

-- a value that a receiver counts of so many ticks, with an error and rounded down to its microticks, lies there
abbrev pub ValuesAreCounted : Type 0
ValuesAreCounted =
    (m : Measuring) (ticks : Interval) (error micro apart value : ℤ)
    → pos 0 <ℤ m.shortest → IsBetween m.shortest m.longest micro → IsBetween ticks.low ticks.high apart
    → ((apart -ℤ error) -ℤ micro) <ℤ (value *ℤ micro) → (value *ℤ micro) ≤ℤ (apart +ℤ error)
    → IsBetween (counted_in m error ticks).low (counted_in m error ticks).high value

-- a value that places so many ticks, with an error, lies there
abbrev pub ValuesArePlaced : Type 0
ValuesArePlaced =
    (m : Measuring) (ticks : Interval) (error micro apart value : ℤ)
    → pos 0 <ℤ m.shortest → IsBetween m.shortest m.longest micro → IsBetween ticks.low ticks.high apart
    → IsBetween (apart -ℤ error) (apart +ℤ error) (value *ℤ micro)
    → IsBetween (placed_in m error ticks).low (placed_in m error ticks).high value
