-- The ranges of what judges double cycles, by the names of the greatest amounts; of signed ones, on either side of 0.
use Rattle.std.specs.Prelude.{ℤ, pos}

-- how far lengths of cycles lie beyond their range, in ticks: what readings are in ticks, and a proper cycle
abbrev pub greatest_beyond : ℤ
greatest_beyond = pos 6_200_001_000_000_000_000

-- the room between two action points, as a reading: how far both lie apart, and a microtick
abbrev pub greatest_room : ℤ
greatest_room = pos 4_000_000_000_000_000_000
