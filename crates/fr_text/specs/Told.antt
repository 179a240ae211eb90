-- What is told of a stop at a file: a status and a line.
use Rattle.std.specs.Prelude.{ℕ, List, ◌++◌, codes}
use Rattle.std.specs.Fmt.{decimal}
use Rattle.fr_base.specs.Reason.{reason_text}
use Rattle.fr_base.specs.declared.reason.Reason.{Reason}
use Rattle.fr_text.specs.Pieces.{line}
use Rattle.fr_text.specs.declared.kind.Stop.{Stop}
use Rattle.fr_text.specs.declared.kind.Stop.TheVariants as stop
use Rattle.fr_text.specs.declared.status.Status.{Status}
use Rattle.fr_text.specs.declared.status.Status.TheVariants as status
use Rattle.fr_text.specs.declared.told.Told.{Told}

-- the exit status of a stop at a file
abbrev pub stop_status : {Fault : Type 0} → Stop Fault → Status
stop_status stop.ReadFault = status.ReadFault
stop_status stop.TooLong = status.TooLong
stop_status stop.NoMemory = status.NoMemory
stop_status (stop.Refused fault) = status.Refused

-- what is said of it, by what the file is called and the words for its fault
abbrev pub stop_text : {Fault : Type 0} → List ℕ → (List ℕ → Fault → List ℕ) → Stop Fault → List ℕ
stop_text role words stop.ReadFault = role ++ codes ": read fault"
stop_text role words stop.TooLong = role ++ codes ": too long"
stop_text role words stop.NoMemory = codes "no memory"
stop_text role words (stop.Refused fault) = words (role ++ codes ": ") fault

-- what is told of it, by what is said
abbrev pub stop_told : {Fault : Type 0} → (Stop Fault → List ℕ) → Stop Fault → Told
stop_told says stop = record { status = stop_status stop; line = line (says stop) }

-- what is told where memory ran out behind all files, and where a command refuses what they say
abbrev pub no_memory : Told
no_memory = record { status = status.NoMemory; line = line (codes "no memory") }

abbrev pub refusal : List ℕ → Told
refusal said = record { status = status.No; line = line said }

-- the words for a record that is refused, after a text in front
abbrev pub record_text : List ℕ → ℕ → Reason → List ℕ
record_text front number reason = front ++ codes "record " ++ decimal number ++ codes ": " ++ reason_text reason
