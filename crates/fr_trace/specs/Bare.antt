-- What a trace tells of the record of a cycle: its rows without their cuts, and its deviations. It tells no counts.
use Rattle.std.specs.Prelude.{◌≡◌, map}
use Rattle.fr_base.specs.Counts.{no_counts}
use Rattle.fr_base.specs.declared.node_row.NodeRow.{NodeRow}
use Rattle.fr_history.specs.History.{History, Record}
use Rattle.fr_trace.specs.Text.{text_of}
use Rattle.fr_trace.specs.Trace.{TraceView}

abbrev pub bare_row : NodeRow → NodeRow
bare_row row = record row { cut = 0 }

abbrev pub bare_record : Record → Record
bare_record r = record { rows = map bare_row r.rows; devs = r.devs; counts = no_counts }

abbrev pub bare_history : History → History
bare_history h = map bare_record h

-- a trace without what its file does not tell
abbrev pub bare_trace : TraceView → TraceView
bare_trace t = record { doubles = t.doubles; arbitrary = t.arbitrary; joins = t.joins; history = bare_history t.history }

-- both have the same text
abbrev pub TextsTellNoCounts : Type 0
TextsTellNoCounts = (t : TraceView) → text_of (bare_trace t) ≡ text_of t
