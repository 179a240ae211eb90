-- What is said of a stop at a parameter file.
use Rattle.std.specs.Prelude.{ℕ, List, ◌++◌, codes}
use Rattle.std.specs.Fmt.{decimal}
use Rattle.fr_params.specs.Names.{word_of}
use Rattle.fr_text.specs.Told.{record_text, stop_text}
use Rattle.fr_text.specs.declared.kind.Stop.{Stop}
use Rattle.fr_params.specs.declared.fault.ParamFault.{ParamFault}
use Rattle.fr_params.specs.declared.fault.ParamFault.TheVariants as fault

-- the words for a fault of it, after a text in front; want of memory is a stop of its own, so that the last line is never shown
abbrev pub param_fault_text : List ℕ → ParamFault → List ℕ
param_fault_text front (fault.Row number reason) = record_text front number reason
param_fault_text front (fault.Missing name) = front ++ codes "missing " ++ word_of name
param_fault_text front (fault.Constraint number) = front ++ codes "constraint " ++ decimal number
param_fault_text front fault.NoMemory = front ++ codes "no memory"

abbrev pub params_says : Stop ParamFault → List ℕ
params_says = stop_text (codes "params") param_fault_text
