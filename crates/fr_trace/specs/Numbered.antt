-- What the records of a trace's file say, in their order, and which item the record of a number is.
use Rattle.std.specs.Prelude.{◌≡◌, ℕ, ◌+◌, List, ◌∷◌, ◌++◌, length, map, Some, Result, Ok}
use Rattle.fr_base.specs.declared.reason.Reason.{Reason}
use Rattle.fr_cluster.specs.Values.{Values}
use Rattle.fr_text.specs.Records.{FileRecord, records_of}
use Rattle.fr_trace.specs.Files.{IsTraceFile}
use Rattle.fr_trace.specs.Items.{IsAt, Item, Line, items_in, line_of}
use Rattle.fr_trace.specs.Rows.{trace_row_of}
use Rattle.fr_trace.specs.Trace.{TraceView}
use Rattle.fr_trace.specs.declared.rows.Row.{Row}
use Rattle.fr_trace.specs.declared.rows.Row.TheVariants as row

-- the row that a line is written as
abbrev pub row_of_line : Line → Row
row_of_line (Line.CycleLine cycle clock) = row.Clock cycle clock
row_of_line (Line.DevLine cycle dev) = row.Heard (record { cycle = cycle; receiver = dev.receiver; slot = dev.slot; channel = Some dev.channel; value = dev.value })

-- that of an item
abbrev pub row_of_item : Item → Row
row_of_item item = row_of_line (line_of item)

-- the rows of a trace: the number of double cycles, each arbitrary node, each node that joins, and then what is recorded,
-- cycle by cycle
abbrev pub rows_of_trace : TraceView → List Row
rows_of_trace t = row.Run t.doubles ∷ map (λ node. row.Arbitrary node) t.arbitrary ++ map (λ j. row.Join j) t.joins ++ map row_of_item (items_in t.history)

-- a row that is read, and not a reason for which none is
abbrev pub as_read : Row → Result Row Reason
as_read said = Ok said

-- the records of a file that is accepted say these rows, in this order
abbrev pub ReadsInOrder : Type 0
ReadsInOrder = (p : Values) (t : TraceView) (bytes : List ℕ) → IsTraceFile p t bytes → map trace_row_of (records_of bytes) ≡ map as_read (rows_of_trace t)

-- the record of a number, counted from 1, says what an item says
pub record IsRecordOfItem (records : List FileRecord) (number : ℕ) (item : Item) : Type 0 where
  pub before : List FileRecord
  pub record_at : FileRecord
  pub after : List FileRecord
  pub cut : records ≡ before ++ record_at ∷ after
  pub place : number ≡ length before + 1
  pub said : trace_row_of record_at ≡ Ok (row_of_item item)

-- an item has the number of the record that says it
abbrev pub NumbersAreRecords : Type 0
NumbersAreRecords = (p : Values) (t : TraceView) (bytes : List ℕ) (number : ℕ) (item : Item) → IsTraceFile p t bytes → IsAt t number item → IsRecordOfItem (records_of bytes) number item
