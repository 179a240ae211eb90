-- What is said of a stop at a trace.
use Rattle.std.specs.Prelude.{ℕ, List, ◌++◌, codes}
use Rattle.std.specs.Fmt.{decimal}
use Rattle.fr_text.specs.Told.{record_text, stop_text}
use Rattle.fr_text.specs.declared.kind.Stop.{Stop}
use Rattle.fr_trace.specs.declared.fault.TraceFault.{TraceFault}
use Rattle.fr_trace.specs.declared.fault.TraceFault.TheVariants as fault

-- the words for a fault of it, after a text in front; want of memory is a stop of its own, so that the last line is never shown
abbrev pub trace_fault_text : List ℕ → TraceFault → List ℕ
trace_fault_text front (fault.Row number reason) = record_text front number reason
trace_fault_text front (fault.Incomplete rows) = front ++ codes "incomplete " ++ decimal rows
trace_fault_text front fault.NoMemory = front ++ codes "no memory"

abbrev pub trace_says : Stop TraceFault → List ℕ
trace_says = stop_text (codes "trace") trace_fault_text
