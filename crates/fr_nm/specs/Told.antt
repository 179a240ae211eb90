-- What is said of a stop at a recording of vectors.
use Rattle.std.specs.Prelude.{ℕ, List, ◌++◌, codes}
use Rattle.fr_text.specs.Told.{record_text, stop_text}
use Rattle.fr_text.specs.declared.kind.Stop.{Stop}
use Rattle.fr_nm.specs.declared.fault.FileFault.{FileFault}
use Rattle.fr_nm.specs.declared.fault.FileFault.TheVariants as fault

-- the words for a fault of it, after a text in front; want of memory is a stop of its own, so that the last line is never shown
abbrev pub vectors_fault_text : List ℕ → FileFault → List ℕ
vectors_fault_text front (fault.Row number reason) = record_text front number reason
vectors_fault_text front fault.NoMemory = front ++ codes "no memory"

abbrev pub vectors_says : Stop FileFault → List ℕ
vectors_says = stop_text (codes "vectors") vectors_fault_text
