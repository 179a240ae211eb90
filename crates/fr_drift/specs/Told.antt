-- What is said of a stop at a drift file.
use Rattle.std.specs.Prelude.{ℕ, List, ◌++◌, codes}
use Rattle.fr_text.specs.Told.{record_text, stop_text}
use Rattle.fr_text.specs.declared.kind.Stop.{Stop}
use Rattle.fr_drift.specs.declared.fault.DriftFault.{DriftFault}
use Rattle.fr_drift.specs.declared.fault.DriftFault.TheVariants as fault

-- the words for a fault of it, after a text in front; want of memory is a stop of its own, so that the last line is never shown
abbrev pub drift_fault_text : List ℕ → DriftFault → List ℕ
drift_fault_text front (fault.Row number reason) = record_text front number reason
drift_fault_text front fault.MissingDoubles = front ++ codes "missing doubles"
drift_fault_text front fault.NoMemory = front ++ codes "no memory"

abbrev pub drift_says : Stop DriftFault → List ℕ
drift_says = stop_text (codes "drift") drift_fault_text
