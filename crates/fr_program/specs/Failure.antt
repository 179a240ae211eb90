-- What an ending is called, by its status and its line.
use Rattle.std.specs.Prelude.{ℕ, List, Ok, Err, codes}
use Rattle.fr_base.specs.Device.{Sunk}
use Rattle.fr_text.specs.declared.status.Status.{Status}
use Rattle.fr_text.specs.declared.status.Status.TheVariants as status
use Rattle.fr_text.specs.Pieces.{line}
use Rattle.fr_program.specs.declared.failure.Failure.{Failure}
use Rattle.fr_program.specs.declared.failure.Failure.TheVariants.{Usage, Stopped, WriteFault}
use Rattle.fr_program.specs.Around.{Ending, IsLinePut}

-- the exit status of a failure
abbrev pub status_of : Failure → Status
status_of Usage = status.Usage
status_of (Stopped why) = why.status
status_of WriteFault = status.WriteFault

-- its line, by what a program says of words that are no request
abbrev pub failure_line : List ℕ → Failure → List ℕ
failure_line usage Usage = line usage
failure_line usage (Stopped why) = why.line
failure_line usage WriteFault = line (codes "write fault")

-- the exit status of an ending
abbrev pub ending_status : Ending → Status
ending_status (Ok done) = status.Done
ending_status (Err failure) = status_of failure

-- the line of an ending was put where it is a failure
abbrev pub IsTold : List ℕ → Sunk → Sunk → Ending → Type 0
IsTold usage before after (Ok done) = Unit {0}
IsTold usage before after (Err failure) = IsLinePut before after (failure_line usage failure)

-- with this ending nothing was written
abbrev pub EndingWritesNothing : Ending → Type 0
EndingWritesNothing (Ok done) = ⊥
EndingWritesNothing (Err WriteFault) = ⊥
EndingWritesNothing (Err other) = Unit {0}

-- with this status nothing was written
abbrev pub WritesNothing : Status → Type 0
WritesNothing status.Done = ⊥
WritesNothing status.WriteFault = ⊥
WritesNothing other = Unit {0}
