-- The ranges of what is computed of stamps, by their names: no sum and no product of it passes 127 bits, and what is printed
-- fits 63 bits. Each name is the greatest amount of what its comment says; of a signed one, on either side of 0. A *reading* is
-- so many ticks on the observer's clock.
use Rattle.std.specs.Prelude.{◌≤◌, ◌*◌, ℕ, ℤ, pos, neg_ℤ, List, All}
use Rattle.fr_base.specs.Within.{IsBetween, IsWithin}

-- ---- stamps

-- a unit of stamps, and the error of a stamp, in ticks
abbrev pub greatest_unit : ℕ
greatest_unit = 1_000_000_000

-- a delay from a sender to the observer, and its jitter, in ticks
abbrev pub greatest_delay : ℕ
greatest_delay = 1_000_000_000

-- a stamp, in ticks
abbrev pub greatest_stamp : ℕ
greatest_stamp = 900_000_000_000_000_000

-- how far a stamp lies before what it stamps: a unit and an error, in ticks
abbrev pub greatest_breadth : ℤ
greatest_breadth = pos 2_000_000_000

-- how far a stamp lies from the action point that it is of: a unit, an error and a delay, as a reading
abbrev pub greatest_off : ℤ
greatest_off = pos 2_000_000_000_000

-- the action point of a stamped frame, and how far two of them lie apart, as readings: a stamp, and how far it is off
abbrev pub greatest_seen : ℤ
greatest_seen = pos 910_000_000_000_000_000

-- ---- a cluster

-- a cycle, by how much it changes, and what is shorter: a microtick and a delay, in ticks
abbrev pub greatest_cycle : ℤ
greatest_cycle = pos 1_000_000_000_000

-- the same as a reading
abbrev pub greatest_cycle_reading : ℤ
greatest_cycle_reading = pos 1_001_000_000_000

-- ---- a course, as readings

-- how far apart the action points of a node in the even and in the odd cycle lie
abbrev pub greatest_apart : ℤ
greatest_apart = pos 920_000_000_000_000_000

-- the length of its cycles before their offset correction, and a share of it
abbrev pub greatest_length : ℤ
greatest_length = pos 930_000_000_000_000_000

-- its action point: one that is seen, or one so far from it
abbrev pub greatest_point : ℤ
greatest_point = pos 1_900_000_000_000_000_000

-- how far two such points lie apart
abbrev pub greatest_points_apart : ℤ
greatest_points_apart = pos 3_800_000_000_000_000_000

-- a point between both action points, and a change of the cycle
abbrev pub greatest_mean : ℤ
greatest_mean = pos 2_000_000_000_000_000_000

-- a corner before the microtick of rounding: an action point, and a share of a length
abbrev pub greatest_sharp_corner : ℤ
greatest_sharp_corner = pos 2_900_000_000_000_000_000

-- a corner
abbrev pub greatest_corner : ℤ
greatest_corner = pos 3_000_000_000_000_000_000

-- how far two corners lie apart
abbrev pub greatest_corners_apart : ℤ
greatest_corners_apart = pos 6_000_000_000_000_000_000

-- what is turned into ticks: how far two corners lie apart, and a microtick
abbrev pub greatest_reading : ℤ
greatest_reading = pos 6_100_000_000_000_000_000

-- the same in ticks
abbrev pub greatest_ticks : ℤ
greatest_ticks = pos 6_200_000_000_000_000_000

-- ---- terms and values

-- a correction term, and by how much it grows: as a reading, and so in microticks, since none is shorter than a reading of 1
abbrev pub greatest_term : ℤ
greatest_term = pos 6_000_000_000_000_000_000

-- the error of what a node measures, in ticks
abbrev pub greatest_error : ℤ
greatest_error = pos 10_000_000_000_000_000_000

-- what a node measures, with that error, in ticks
abbrev pub greatest_measured : ℤ
greatest_measured = pos 20_000_000_000_000_000_000

-- a measured value, and the midpoint of several, in microticks: each of at least 998,500 ticks
abbrev pub greatest_value : ℤ
greatest_value = pos 21_000_000_000_000

-- the damping of rate terms, in microticks
abbrev pub greatest_damping : ℤ
greatest_damping = pos 1_000_000

-- a value before its damping, in microticks
abbrev pub greatest_undamped : ℤ
greatest_undamped = pos 22_000_000_000_000

-- a dividend of 127 bits: a product of what is above, in any unit
abbrev pub greatest_dividend : ℤ
greatest_dividend = pos 10_000_000_000_000_000_000_000_000_000_000

-- ---- numbers that lie there

-- a stamp of so many units of so many ticks
abbrev pub IsStamp : ℕ → ℕ → Type 0
IsStamp unit stamp = unit * stamp ≤ greatest_stamp

-- a reading at which a stamped action point can lie
abbrev pub IsSeenPoint : ℤ → Type 0
IsSeenPoint reading = IsBetween (neg_ℤ greatest_off) greatest_seen reading

-- a microtick of a cluster, in ticks, and as a reading
abbrev pub IsMicrotick : ℤ → Type 0
IsMicrotick ticks = IsBetween (pos 998_500) (pos 1_001_500) ticks

abbrev pub IsMicroReading : ℤ → Type 0
IsMicroReading reading = IsBetween (pos 1) greatest_cycle_reading reading

-- a million ticks on a clock that drifts by at most 1,000 parts per million
abbrev pub IsDriftedMillion : ℤ → Type 0
IsDriftedMillion ticks = IsBetween (pos 999_000) (pos 1_001_000) ticks

-- the error of what a node measures, in ticks
abbrev pub IsError : ℤ → Type 0
IsError ticks = IsBetween (pos 0) greatest_error ticks

-- a measured value, and several
abbrev pub IsValue : ℤ → Type 0
IsValue value = IsWithin greatest_value value

abbrev pub AreValues : List ℤ → Type 0
AreValues values = All IsValue values
