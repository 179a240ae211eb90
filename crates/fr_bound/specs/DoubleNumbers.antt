-- How many double cycles a run or a log has.
use Rattle.std.specs.Prelude.{ℕ}

-- no run and no log has so many
abbrev pub too_many_doubles : ℕ
too_many_doubles = 1_000_000
