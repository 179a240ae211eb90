-- The ranges of what contradictions of a log tell. The names are those of the greatest amounts, on either side of 0, and of the
-- least one.
use Rattle.std.specs.Prelude.{ℤ, pos, neg_ℤ}

-- a printed number in any unit: it fits 63 bits
abbrev pub greatest_printed : ℤ
greatest_printed = pos 6_400_000_000_000_000_000

-- a printed length of cycles, in ticks of the observer's clock
abbrev pub greatest_printed_length : ℤ
greatest_printed_length = pos 1_000_000_000_000_000_000

-- a bound that skews are held against, in ticks: the least number of 64 bits
abbrev pub least_bound : ℤ
least_bound = neg_ℤ (pos 9_223_372_036_854_775_808)
