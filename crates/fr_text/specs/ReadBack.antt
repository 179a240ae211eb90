-- What is written is read back.
use Rattle.std.specs.Prelude.{◌≡◌, ◌≢◌, ℕ, ◌≤◌, ◌<◌, ◌^◌, ℤ, pos, negsuc, ◌≤ℤ◌, true, List, ◌∷◌, map, Some, Ok}
use Rattle.std.specs.Fmt.{decimal, signed_decimal}
use Rattle.std.specs.List.{list_all}
use Rattle.fr_base.specs.Number.{number_of, within}
use Rattle.fr_text.specs.Numerals.{hexadecimal}
use Rattle.fr_text.specs.Pieces.{fields_after, line, spelling}
use Rattle.fr_text.specs.declared.piece.Piece.{Piece}
use Rattle.fr_text.specs.Fields.{natural_of}
use Rattle.fr_text.specs.Records.{FileRecord, records_of}
use Rattle.fr_text.specs.Texts.{first_byte, is_plain_field, is_plain_record, line_of_record, text_of_records}

-- the text of plain records has exactly these records, where it does not begin as a byte order mark does
abbrev pub RecordsAreReadBack : Type 0
RecordsAreReadBack =
    (records : List FileRecord) → list_all is_plain_record records ≡ true → first_byte (text_of_records records) ≢ 0xEF → records_of (text_of_records records) ≡ records

-- the line of a word and fields behind it is that of the record of the word and what the fields spell
abbrev pub RowsAreRecords : Type 0
RowsAreRecords = (word : List ℕ) (fields : List Piece) → line (fields_after word fields) ≡ line_of_record (word ∷ map spelling fields)

-- a number of at most 18 digits reads as itself
abbrev pub NumbersAreReadBack : Type 0
NumbersAreReadBack = (n : ℕ) → n < 10 ^ 18 → number_of (decimal n) ≡ Some (pos n)

-- and so where a range is asked for, and it lies there
abbrev pub NaturalsAreReadBack : Type 0
NaturalsAreReadBack = (low high n : ℕ) → low ≤ n → n ≤ high → n < 10 ^ 18 → natural_of low high (decimal n) ≡ Ok n

-- the same of signed numbers
abbrev pub SignedAreReadBack : Type 0
SignedAreReadBack =
    (low high z : ℤ) → negsuc 999_999_999_999_999_998 ≤ℤ low → high ≤ℤ pos 999_999_999_999_999_999 → low ≤ℤ z → z ≤ℤ high → within low high (number_of (signed_decimal z)) ≡ Ok z

-- numbers are plain fields
abbrev pub NaturalsArePlain : Type 0
NaturalsArePlain = (n : ℕ) → n < 2 ^ 64 → is_plain_field (decimal n) ≡ true

abbrev pub SignedArePlain : Type 0
SignedArePlain = (z : ℤ) → negsuc 999_999_999_999_999_998 ≤ℤ z → z ≤ℤ pos 999_999_999_999_999_999 → is_plain_field (signed_decimal z) ≡ true

abbrev pub HexadecimalsArePlain : Type 0
HexadecimalsArePlain = (digits n : ℕ) → is_plain_field (hexadecimal digits n) ≡ true
