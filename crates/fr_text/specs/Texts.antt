-- The text of records as the program writes it: fields with commas between them, and a line feed after each record.
use Rattle.std.specs.Prelude.{ℕ, Bool, true, false, not, ◌==◌, ◌&&◌, ◌||◌, List, [], ◌∷◌, ◌++◌, codes, slice_index_or}
use Rattle.std.specs.List.{flat_map, list_all}
use Rattle.fr_text.specs.Pieces.{line}
use Rattle.fr_text.specs.Records.{FileRecord}

-- a byte that is no comma, no quote and no line end
abbrev pub is_plain_byte : ℕ → Bool
is_plain_byte byte = not ((byte == 44) || (byte == 34) || (byte == 13) || (byte == 10))

-- a field of such bytes alone
abbrev pub is_plain_field : List ℕ → Bool
is_plain_field field = list_all is_plain_byte field

-- whether the line of a record has a byte before its end: a record of no field and one of an empty field have none
abbrev pub shows_bytes : FileRecord → Bool
shows_bytes [] = false
shows_bytes ([] ∷ []) = false
shows_bytes ((byte ∷ field) ∷ []) = true
shows_bytes (field ∷ next ∷ fields) = true

-- a record that is written without quotes
abbrev pub is_plain_record : FileRecord → Bool
is_plain_record fields = list_all is_plain_field fields && shows_bytes fields

-- fields, each behind a comma
abbrev pub after_commas : List (List ℕ) → List ℕ
after_commas [] = []
after_commas (field ∷ fields) = codes "," ++ (field ++ after_commas fields)

-- fields with commas between them
abbrev pub with_commas : FileRecord → List ℕ
with_commas [] = []
with_commas (field ∷ fields) = field ++ after_commas fields

-- the line of a record
abbrev pub line_of_record : FileRecord → List ℕ
line_of_record fields = line (with_commas fields)

-- the text of records
abbrev pub text_of_records : List FileRecord → List ℕ
text_of_records records = flat_map line_of_record records

-- the first byte of a text, and 0 where it has none
abbrev pub first_byte : List ℕ → ℕ
first_byte text = slice_index_or text 0 0
