-- The states whose times are those of a run.
use Rattle.std.specs.Prelude.{◌≤◌}
use Rattle.fr_cold.specs.Rows.{most_tick}
use Rattle.fr_cold.specs.declared.state.ColdState.{ColdState}
use Rattle.fr_cold.specs.declared.state.ColdState.TheVariants as state

-- the macrotick from which on a node does what it does is none behind the end of the longest run
abbrev pub IsTimely : ColdState → Type 0
IsTimely state.Off = Unit {0}
IsTimely (state.Listening since) = since ≤ most_tick
IsTimely (state.Resolving begun) = begun ≤ most_tick
IsTimely (state.Leading begun) = begun ≤ most_tick
