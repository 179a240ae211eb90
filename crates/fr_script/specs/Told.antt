-- What is said of a stop at a script.
use Rattle.std.specs.Prelude.{ℕ, List, ◌++◌, codes}
use Rattle.fr_text.specs.Told.{record_text, stop_text}
use Rattle.fr_text.specs.declared.kind.Stop.{Stop}
use Rattle.fr_script.specs.declared.fault.ScriptFault.{ScriptFault}
use Rattle.fr_script.specs.declared.fault.ScriptFault.TheVariants as fault

-- the words for a fault of it, after a text in front; want of memory is a stop of its own, so that the last line is never shown
abbrev pub script_fault_text : List ℕ → ScriptFault → List ℕ
script_fault_text front (fault.Row number reason) = record_text front number reason
script_fault_text front fault.NoMemory = front ++ codes "no memory"

abbrev pub script_says : Stop ScriptFault → List ℕ
script_says = stop_text (codes "script") script_fault_text
