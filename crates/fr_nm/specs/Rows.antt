-- What a record of a recording says by itself.
use Rattle.std.specs.Prelude.{ℕ, ◌==◌, List, [], ◌∷◌, length, Option, Some, None, Result, Ok, Err, if◌then◌else◌}
use Rattle.hex.specs.Hex.{decode_of}
use Rattle.hex.specs.declared.error.FromHexError.{FromHexError}
use Rattle.fr_base.specs.Channels.{channel_of}
use Rattle.fr_base.specs.declared.reason.Reason.{Reason}
use Rattle.fr_base.specs.declared.reason.Reason.TheVariants as reason
use Rattle.fr_text.specs.Records.{FileRecord}
use Rattle.fr_text.specs.Fields.{both_of, field_of, hex_digits_in, natural_of, or_reason}
use Rattle.fr_nm.specs.declared.fields.Fields.{Fields}
use Rattle.fr_nm.specs.declared.rows.Row.{Row}

-- the record that has these fields
abbrev pub vector_fields : Fields → FileRecord
vector_fields fields = fields.cycle.now ∷ fields.channel.now ∷ fields.bytes.now ∷ []

-- the bytes that a field writes; none where it is not hexadecimal
abbrev pub decoded : Result (List ℕ) FromHexError → Option (List ℕ)
decoded (Ok bytes) = Some bytes
decoded (Err why) = None

abbrev pub hex_bytes_in : List ℕ → Option (List ℕ)
hex_bytes_in text = decoded (decode_of text)

-- what a record of three fields says
abbrev pub vector_row_with : FileRecord → ℕ → Row
vector_row_with fields cycle = record { cycle = cycle; channel = channel_of (field_of fields 1); bytes = hex_bytes_in (field_of fields 2) }

abbrev pub said_row : FileRecord → Result Row Reason
said_row fields = or_reason (λ numbers. Ok (vector_row_with fields numbers.0)) (both_of (natural_of 0 199_999 (field_of fields 0)) (hex_digits_in (field_of fields 2)))

-- what a record says, or the least of the reasons that it shows by its number of fields and by its numbers
unfoldable pub vectors_row_of : FileRecord → Result Row Reason
vectors_row_of fields = if length fields == 3 then said_row fields else Err reason.Shape
