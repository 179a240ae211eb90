-- What a reading loop tells of the records that it refuses.
use Rattle.std.specs.Prelude.{List, ⊤}
use Rattle.fr_text.specs.Records.{FileRecord}
use Rattle.fr_text.specs.Refusal.{Refusing, FirstRefused}
use Rattle.fr_text.specs.declared.table.RowFault.{RowFault}
use Rattle.fr_text.specs.declared.table.RowFault.TheVariants as fault

-- a fault names the first record that is refused and its reason; want of memory may come at any file
abbrev pub TellsRow : Refusing → List FileRecord → RowFault → Type 0
TellsRow reason records (fault.Row number why) = FirstRefused reason records number why
TellsRow reason records fault.NoMemory = ⊤
