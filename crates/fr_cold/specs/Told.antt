-- What is said of a stop at a power file.
use Rattle.std.specs.Prelude.{ℕ, List, ◌++◌, codes}
use Rattle.fr_text.specs.Told.{record_text, stop_text}
use Rattle.fr_text.specs.declared.kind.Stop.{Stop}
use Rattle.fr_cold.specs.declared.fault.PowerFault.{PowerFault}
use Rattle.fr_cold.specs.declared.fault.PowerFault.TheVariants as fault

-- the words for a fault of it, after a text in front; want of memory is a stop of its own, so that the last line is never shown
abbrev pub power_fault_text : List ℕ → PowerFault → List ℕ
power_fault_text front (fault.Row number reason) = record_text front number reason
power_fault_text front fault.MissingCycles = front ++ codes "missing cycles"
power_fault_text front fault.NoMemory = front ++ codes "no memory"

abbrev pub power_says : Stop PowerFault → List ℕ
power_says = stop_text (codes "power") power_fault_text
