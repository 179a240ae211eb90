-- What is said of a stop at a log.
use Rattle.std.specs.Prelude.{ℕ, List, ◌++◌, codes}
use Rattle.fr_text.specs.Told.{record_text, stop_text}
use Rattle.fr_text.specs.declared.kind.Stop.{Stop}
use Rattle.fr_log.specs.declared.fault.LogFault.{LogFault}
use Rattle.fr_log.specs.declared.fault.LogFault.TheVariants as fault

-- the words for a fault of it, after a text in front; want of memory is a stop of its own, so that the last line is never shown
abbrev pub log_fault_text : List ℕ → LogFault → List ℕ
log_fault_text front (fault.Row number reason) = record_text front number reason
log_fault_text front fault.MissingUnit = front ++ codes "missing unit"
log_fault_text front fault.MissingDrift = front ++ codes "missing drift"
log_fault_text front fault.MissingDelay = front ++ codes "missing delay"
log_fault_text front fault.NoMemory = front ++ codes "no memory"

abbrev pub log_says : Stop LogFault → List ℕ
log_says = stop_text (codes "log") log_fault_text
