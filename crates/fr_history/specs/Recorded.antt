-- The record that a program's row of a cycle stands for.
use Rattle.fr_base.specs.declared.cycle_row.CycleRow.{CycleRow}
use Rattle.fr_history.specs.History.{Record}

-- what the row tells, without the room that its list of deviations has left
abbrev pub recorded : CycleRow → Record
recorded row = record { rows = row.rows; devs = row.devs.entries; counts = row.counts }
