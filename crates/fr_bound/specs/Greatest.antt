-- The greatest numbers of ticks that ways to sync and checks come to, whatever the parameters are.
use Rattle.std.specs.Prelude.{ℕ}

-- how far apart starts are on the way to sync by the older bound, and how far macroticks are on it
abbrev pub most_starts : ℕ
most_starts = 6_100_000_000_000

abbrev pub most_peak : ℕ
most_peak = 8_200_000_000_000

-- how far apart starts are by the sharper bound, on the way to sync and where little is heard; how far odd lengths are; and how
-- far macroticks and action points are then
abbrev pub most_sharp_starts : ℕ
most_sharp_starts = 3_100_000_000_000

abbrev pub most_odd_lengths : ℕ
most_odd_lengths = 1_002_000_000_000

abbrev pub most_sharp_reach : ℕ
most_sharp_reach = 5_200_000_000_000

-- each number of a double cycle that is judged by its own numbers
abbrev pub most_judged : ℕ
most_judged = 20_000_000_000

-- a side of a check, in ticks times macroticks
abbrev pub most_side : ℕ
most_side = 1_000_000_000_000_000_000
