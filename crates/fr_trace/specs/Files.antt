-- What a trace stands for, and why a file is refused.
use Rattle.std.specs.Prelude.{◌≡◌, ℕ, ◌*◌, Bool, true, false, List, length, Option, Some, None, ⊤}
use Rattle.fr_cluster.specs.Values.{Values}
use Rattle.fr_text.specs.Kind.{Kind}
use Rattle.fr_text.specs.Records.{FileRecord, records_of}
use Rattle.fr_text.specs.Refusal.{FirstRefused, NoneRefused}
use Rattle.fr_trace.specs.Fits.{TraceFits}
use Rattle.fr_trace.specs.Order.{before_at, ends_with}
use Rattle.fr_trace.specs.Reasons.{trace_reason_after}
use Rattle.fr_trace.specs.Said.{history_said, joins_at, last_row_at, named_at, traced_doubles_at}
use Rattle.fr_trace.specs.Trace.{TraceView}
use Rattle.fr_trace.specs.declared.fault.TraceFault.{TraceFault}
use Rattle.fr_trace.specs.declared.fault.TraceFault.TheVariants as fault

-- ---- the trace of a file

-- the trace is what the records say: its number of double cycles, its arbitrary nodes, those that join, and what it records
-- of each of its cycles
pub record TraceStandsFor (t : TraceView) (records : List FileRecord) : Type 0 where
  pub doubles : traced_doubles_at records ≡ Some t.doubles
  pub arbitrary : t.arbitrary ≡ named_at records
  pub joins : t.joins ≡ joins_at records
  pub history : t.history ≡ history_said records (2 * t.doubles)

-- whether the records are those of a whole trace: each node that must have a row in the last cycle has one
abbrev pub is_whole_by : Values → List FileRecord → Option ℕ → Bool
is_whole_by p records None = false
is_whole_by p records (Some doubles) = ends_with p doubles (named_at records) (joins_at records) (before_at records) (last_row_at records)

abbrev pub is_whole : Values → List FileRecord → Bool
is_whole p records = is_whole_by p records (traced_doubles_at records)

-- the file is accepted against these parameters, and this is the trace that it stands for
pub record IsTraceFile (p : Values) (t : TraceView) (bytes : List ℕ) : Type 0 where
  pub none_refused : NoneRefused (trace_reason_after p) (records_of bytes)
  pub whole : is_whole p (records_of bytes) ≡ true
  pub stands : TraceStandsFor t (records_of bytes)

-- no record is refused, and the file ends before the last row: it has so many records
pub record IsIncomplete (p : Values) (records : List FileRecord) (rows : ℕ) : Type 0 where
  pub none_refused : NoneRefused (trace_reason_after p) records
  pub missing : is_whole p records ≡ false
  pub counted : rows ≡ length records

-- a fault tells the first cause, a record before the missing rows; want of memory may come at any file
abbrev pub RefusesTrace : Values → List ℕ → TraceFault → Type 0
RefusesTrace p bytes (fault.Row number why) = FirstRefused (trace_reason_after p) (records_of bytes) number why
RefusesTrace p bytes (fault.Incomplete rows) = IsIncomplete p (records_of bytes) rows
RefusesTrace p bytes fault.NoMemory = ⊤

-- the kind of a trace of a cluster with these parameters
abbrev pub trace_file : Values → Kind TraceView TraceFault
trace_file p = record { is_file_of = IsTraceFile p; refuses = RefusesTrace p; is_sound = TraceFits p; no_memory = fault.NoMemory }
