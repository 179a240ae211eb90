-- What the form of a record asks of its fields.
use Rattle.std.specs.Prelude.{ℕ, ℤ, pos, int_lt, Bool, false, true, not, ◌==◌, ◌||◌, List, length, Option, Some, None, is_none}
use Rattle.std.specs.List.{list_all, list_any}
use Rattle.std.specs.Option.{option_map_or}
use Rattle.fr_base.specs.Number.{number_of}
use Rattle.fr_text.specs.Records.{FileRecord}
use Rattle.fr_text.specs.Fields.{is_blank}

-- a field that is to be a number, and the range of that number
pub record NumberField : Type 0 where
  pub text : List ℕ
  pub low : ℤ
  pub high : ℤ

abbrev pub number_field : List ℕ → ℕ → ℕ → NumberField
number_field text low high = record { text = text; low = pos low; high = pos high }

-- it writes no number
abbrev pub is_no_number : NumberField → Bool
is_no_number field = is_none (number_of field.text)

-- it writes one that lies outside its range
abbrev pub lies_outside : ℤ → ℤ → Option ℤ → Bool
lies_outside low high None = false
lies_outside low high (Some z) = int_lt z low || int_lt high z

abbrev pub is_number_outside : NumberField → Bool
is_number_outside field = lies_outside field.low field.high (number_of field.text)

-- the form of a record, by its kind: which fields it leaves empty, whether the names in it are known, which fields are
-- numbers, whether its texts are no longer than they may be, and whether its channels are spelt as channels
pub record Form : Type 0 where
  pub empty : List (List ℕ)
  pub known : Bool
  pub numbers : List NumberField
  pub short : Bool
  pub spelt : Bool

-- whether a record has not so many fields, or one that its form leaves empty is not empty; a record of no kind has no form
abbrev pub misses_form : ℕ → FileRecord → Option Form → Bool
misses_form size fields form = not (length fields == size) || option_map_or (λ f. not (list_all is_blank f.empty)) form false

-- whether it is of none of the file's kinds, or a name in it is not known
abbrev pub has_unknown_name : Option Form → Bool
has_unknown_name form = option_map_or (λ f. not f.known) form true

-- whether a field that is to be a number is none
abbrev pub has_no_number : Option Form → Bool
has_no_number form = option_map_or (λ f. list_any is_no_number f.numbers) form false

-- whether a number lies outside its range, or a text is longer than it may be
abbrev pub is_out_of_range : Option Form → Bool
is_out_of_range form = option_map_or (λ f. list_any is_number_outside f.numbers || not f.short) form false

-- whether its channels are spelt otherwise
abbrev pub has_bad_channels : Option Form → Bool
has_bad_channels form = option_map_or (λ f. not f.spelt) form false
