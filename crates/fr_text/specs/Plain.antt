-- Records whose fields are read where they lie in the bytes of a file.
use Rattle.std.specs.Prelude.{ℕ, ◌≡◌, ◌⊎◌, true, List, ◌∷◌, ◌++◌, map, Option, Some, None}
use Rattle.std.specs.Borrow.{Bor}
use Rattle.std.specs.List.{list_all}
use Rattle.csv.specs.Records as csv
use Rattle.fr_text.specs.Records.{FileRecord, records_of}
use Rattle.fr_text.specs.Texts.{is_plain_field, with_commas}

-- the fields of a record
abbrev pub fields_of : FileRecord → FileRecord
fields_of fields = fields

-- the bytes of fields that lie in a text
abbrev pub bytes_of : List (Bor (List ℕ)) → FileRecord
bytes_of fields = map (λ (field : Bor (List ℕ)). field.now) fields

-- the record that `csv` read, or else that of these fields
abbrev pub record_by : Option csv.Row → FileRecord → FileRecord
record_by None fields = fields
record_by (Some row) fields = csv.fields_of row

-- the records that `csv` has left, or else those of the bytes that are left
abbrev pub records_left : Option (List FileRecord) → List ℕ → List FileRecord
records_left None rest = records_of rest
records_left (Some records) rest = records

-- a text, without the line feed that it may begin with
abbrev pub IsBehindFeed : List ℕ → List ℕ → Type 0
IsBehindFeed text rest = (text ≡ rest) ⊎ (text ≡ 10 ∷ rest)

-- the first line of a text is written without quotes and has these fields; the rest begins with its end
pub record IsCut (text : List ℕ) (fields : FileRecord) (rest : List ℕ) : Type 0 where
  pub tail : List ℕ
  pub end : rest ≡ 10 ∷ tail
  pub line : text ≡ with_commas fields ++ rest
  pub plain : list_all is_plain_field fields ≡ true
