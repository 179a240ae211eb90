-- What the fields of a record say.
use Rattle.std.specs.Prelude.{ℕ, ℤ, pos, negsuc, Bool, true, false, ◌==◌, List, [], ◌∷◌, length, slice_index_or, Option, Some, None, Result, Ok, Err, nat_lt, ◌||◌, if◌then◌else◌}
use Rattle.fr_base.specs.Number.{number_of}
use Rattle.fr_base.specs.declared.numbers.NumberFault.{NumberFault}
use Rattle.fr_base.specs.declared.numbers.NumberFault.TheVariants as fault
use Rattle.fr_base.specs.declared.reason.Reason.{Reason}
use Rattle.fr_base.specs.declared.reason.Reason.TheVariants as reason
use Rattle.fr_base.specs.declared.channel.Channel.{Channel}
use Rattle.fr_base.specs.declared.channel.Channel.TheVariants as channel
use Rattle.fr_text.specs.Records.{FileRecord}

-- a number that is not negative, where it lies from low to high, and else why there is none
abbrev pub natural_within : ℕ → ℕ → Option ℤ → Result ℕ NumberFault
natural_within low high None = Err fault.NotDigits
natural_within low high (Some (pos n)) = if nat_lt n low || nat_lt high n then Err fault.OutOfRange else Ok n
natural_within low high (Some (negsuc n)) = Err fault.OutOfRange

-- the natural number from low to high that a field writes
abbrev pub natural_of : ℕ → ℕ → List ℕ → Result ℕ NumberFault
natural_of low high text = natural_within low high (number_of text)

-- how many hexadecimal digits a field has, if they are no more than a frame has; every byte counts as one
abbrev pub hex_digits_in : List ℕ → Result ℕ NumberFault
hex_digits_in text = if nat_lt 524 (length text) then Err fault.OutOfRange else Ok (length text)

-- two numbers of one record: where one field is no number that is the fault, wherever it stands
abbrev pub both_of : {A B : Type 0} → Result A NumberFault → Result B NumberFault → Result (A × B) NumberFault
both_of (Ok a) (Ok b) = Ok (a, b)
both_of (Ok a) (Err why) = Err why
both_of (Err fault.NotDigits) second = Err fault.NotDigits
both_of (Err fault.OutOfRange) (Ok b) = Err fault.OutOfRange
both_of (Err fault.OutOfRange) (Err why) = Err why

-- the reason for which a record with such a number is refused
abbrev pub reason_of : NumberFault → Reason
reason_of fault.NotDigits = reason.NotNumber
reason_of fault.OutOfRange = reason.OutOfRange

-- whether a field is empty
abbrev pub is_blank : List ℕ → Bool
is_blank text = length text == 0

-- the reason of a number's fault, or what is made of the number
abbrev pub or_reason : {A B : Type 0} → (A → Result B Reason) → Result A NumberFault → Result B Reason
or_reason use_of (Ok a) = use_of a
or_reason use_of (Err fault) = Err (reason_of fault)

-- the field of a record at a place
abbrev pub field_of : FileRecord → ℕ → List ℕ
field_of fields k = slice_index_or fields k []

-- whether a field names this channel
abbrev pub is_channel : Channel → Option Channel → Bool
is_channel ch None = false
is_channel channel.A (Some channel.A) = true
is_channel channel.A (Some channel.B) = false
is_channel channel.B (Some channel.A) = false
is_channel channel.B (Some channel.B) = true

-- an option, or another where it has none
abbrev pub or_else : {A : Type 0} → Option A → Option A → Option A
or_else (Some a) other = Some a
or_else None other = other

-- what the first record gives that gives something
unfoldable pub looked_up : {A : Type 0} → (FileRecord → Option A) → List FileRecord → Option A
looked_up what [] = None
looked_up what (r ∷ rest) = or_else (what r) (looked_up what rest)
