-- The history that the cycles of a trace are.
use Rattle.std.specs.Prelude.{List, [], ◌∷◌, fold}
use Rattle.fr_base.specs.Counts.{no_counts}
use Rattle.fr_history.specs.History.{History, Record}
use Rattle.fr_trace.specs.declared.trace.TracedCycle.{TracedCycle}

-- what is recorded of a cycle
abbrev pub kept_of : TracedCycle → Record
kept_of cycle = record { rows = cycle.rows.items; devs = cycle.devs.items; counts = no_counts }

-- a history and one more cycle
abbrev pub and_then : History → TracedCycle → History
and_then h cycle = kept_of cycle ∷ h

-- the history of some cycles, of which the earliest stands first
unfoldable pub history_by : List TracedCycle → History
history_by cycles = fold and_then [] cycles
