-- The columns of a record of a script that has seven fields, and what rows of several kinds say in them.
use Rattle.std.specs.Prelude.{ℕ, [], ◌∷◌, Option, Result, Ok, Err}
use Rattle.fr_base.specs.Channels.{channel_of}
use Rattle.fr_base.specs.declared.numbers.NumberFault.{NumberFault}
use Rattle.fr_text.specs.Records.{FileRecord}
use Rattle.fr_text.specs.Fields.{both_of, field_of, natural_of}
use Rattle.fr_script.specs.Deeds.{passage_of}
use Rattle.fr_script.specs.declared.deed.Deed.{Deed}
use Rattle.fr_script.specs.declared.deeds.Passage.{Passage}
use Rattle.fr_script.specs.declared.fields.Fields.{Fields}
use Rattle.fr_script.specs.declared.rows.Row.{Row}
use Rattle.fr_script.specs.declared.rows.Row.TheVariants as row

-- the record that has these fields
abbrev pub as_record : Fields → FileRecord
as_record f = f.kind.now ∷ f.first.now ∷ f.sender.now ∷ f.receiver.now ∷ f.channel.now ∷ f.number.now ∷ f.bytes.now ∷ []

-- the passage that three fields name
abbrev pub passage_of_numbers : Result (ℕ × (ℕ × ℕ)) NumberFault → Result Passage NumberFault
passage_of_numbers (Ok numbers) = Ok (passage_of numbers.1.0 numbers.1.1 numbers.0)
passage_of_numbers (Err fault) = Err fault

abbrev pub passage_in : FileRecord → Result Passage NumberFault
passage_in fields = passage_of_numbers (both_of (natural_of 0 199_999 (field_of fields 1)) (both_of (natural_of 1 64 (field_of fields 2)) (natural_of 1 64 (field_of fields 3))))

-- what a row says of its passage
abbrev pub deed_row : FileRecord → Passage → Option Deed → Row
deed_row fields passage what = row.Deed (record { passage = passage; channel = channel_of (field_of fields 4); deed = what })
