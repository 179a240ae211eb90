-- The exit status of each answer.
use Rattle.std.specs.Prelude.{ℕ}
use Rattle.fr_text.specs.declared.status.Status.{Status}
use Rattle.fr_text.specs.declared.status.Status.TheVariants.{Done, No, Usage, ReadFault, WriteFault, Refused, NoMemory, TooLong}

abbrev pub code_of : Status → ℕ
code_of Done = 0
code_of No = 1
code_of Usage = 2
code_of ReadFault = 3
code_of WriteFault = 4
code_of Refused = 5
code_of NoMemory = 6
code_of TooLong = 7
