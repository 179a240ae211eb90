-- All that depends on which kind of deed a row of a script has: what its own columns say, of whom it is, and what becomes of
-- frames by it.
use Rattle.std.specs.Prelude.{ℕ, ℤ, ◌≡◌, ◌<◌, ◌≤ℤ◌, pos, neg_ℤ, ◌+◌, ◌*◌, ◌&&◌, nat_le, Bool, true, false, List, Option, Some, None, IfSome, Result, Ok, Err, codes, if◌then◌else◌}
use Rattle.std.specs.Str.{bytes_eq}
use Rattle.hex.specs.Hex.{decode_of}
use Rattle.hex.specs.declared.error.FromHexError.{FromHexError}
use Rattle.fr_base.specs.Event.{Event}
use Rattle.fr_base.specs.Event as event
use Rattle.fr_base.specs.Number.{number_of, within}
use Rattle.fr_base.specs.declared.numbers.NumberFault.{NumberFault}
use Rattle.fr_base.specs.declared.reason.Reason.{Reason}
use Rattle.fr_base.specs.declared.reason.Reason.TheVariants as reason
use Rattle.fr_text.specs.Records.{FileRecord}
use Rattle.fr_text.specs.Fields.{both_of, field_of, hex_digits_in, is_blank, natural_of, or_reason}
use Rattle.fr_cluster.specs.Values.{Values, amount}
use Rattle.fr_cluster.specs.declared.names.ParamName.TheVariants as name
use Rattle.fr_script.specs.Columns.{deed_row, passage_in}
use Rattle.fr_script.specs.Said.{AreSaidBytes}
use Rattle.fr_script.specs.declared.deed.Deed.{Deed}
use Rattle.fr_script.specs.declared.deed.Deed.TheVariants as deed
use Rattle.fr_script.specs.declared.rows.Row.{Row}

-- the fields after a channel are empty
abbrev pub is_channel_last : FileRecord → Bool
is_channel_last fields = is_blank (field_of fields 5) && is_blank (field_of fields 6)

abbrev pub lose_row : FileRecord → Result Row Reason
lose_row fields = if is_channel_last fields then or_reason (λ passage. Ok (deed_row fields passage (Some deed.Lose))) (passage_in fields) else Err reason.Shape

abbrev pub flip_row : FileRecord → Result Row Reason
flip_row fields =
    if is_blank (field_of fields 6)
    then or_reason (λ numbers. Ok (deed_row fields numbers.0 (Some (deed.Flip numbers.1)))) (both_of (passage_in fields) (natural_of 0 2095 (field_of fields 5)))
    else Err reason.Shape

-- the greatest distance of a shift from 0, in ticks
abbrev pub farthest : ℤ
farthest = pos 1_000_000_000_000

abbrev pub shift_in : FileRecord → Result ℤ NumberFault
shift_in fields = within (neg_ℤ farthest) farthest (number_of (field_of fields 5))

-- the frame that a field names: the regular one where it is empty; none where it is not hexadecimal
abbrev pub said_bytes : Result (List ℕ) FromHexError → Option (Option (List ℕ))
said_bytes (Ok bytes) = Some (Some bytes)
said_bytes (Err why) = None

abbrev pub said_in : List ℕ → Option (Option (List ℕ))
said_in text = if is_blank text then Some None else said_bytes (decode_of text)

abbrev pub say_deed : ℤ → Option (Option (List ℕ)) → Option Deed
say_deed shift None = None
say_deed shift (Some bytes) = Some (deed.Say shift bytes)

abbrev pub say_row : FileRecord → Result Row Reason
say_row fields =
    or_reason (λ numbers. Ok (deed_row fields numbers.0 (say_deed numbers.1.0 (said_in (field_of fields 6)))))
    (both_of (passage_in fields) (both_of (shift_in fields) (hex_digits_in (field_of fields 6))))

-- what a record of seven fields says whose word is that of a deed; any other word is left to the other
abbrev pub deed_file_row : FileRecord → Result Row Reason → Result Row Reason
deed_file_row fields other =
    if bytes_eq (field_of fields 0) (codes "say") then say_row fields
    else if bytes_eq (field_of fields 0) (codes "lose") then lose_row fields
    else if bytes_eq (field_of fields 0) (codes "flip") then flip_row fields
    else other

-- what is read of such a record, and nothing where its word is that of no deed
abbrev pub IsDeedRead : FileRecord → Option (Result Row Reason) → Type 0
IsDeedRead fields (Some said) = (other : Result Row Reason) → deed_file_row fields other ≡ said
IsDeedRead fields None = (other : Result Row Reason) → deed_file_row fields other ≡ other

-- the bits of the longest frame
abbrev pub most_bits : ℕ
most_bits = 8 * 262

-- the numbers of a deed lie in their ranges, and what is said fits a frame
pub record IsProperSay (shift : ℤ) (bytes : Option (List ℕ)) : Type 0 where
  pub from : neg_ℤ farthest ≤ℤ shift
  pub to : shift ≤ℤ farthest
  pub said : IfSome bytes AreSaidBytes

abbrev pub IsProperDeed : Deed → Type 0
IsProperDeed deed.Lose = Unit {0}
IsProperDeed (deed.Flip bit) = bit < most_bits
IsProperDeed (deed.Say shift bytes) = IsProperSay shift bytes

-- whether a row is a `say` row: it is where its bytes are not hexadecimal
abbrev pub is_say : Option Deed → Bool
is_say None = true
is_say (Some (deed.Say shift bytes)) = true
is_say (Some deed.Lose) = false
is_say (Some (deed.Flip bit)) = false

-- the bits of a frame of the cluster, and whether a row inverts one that is not there
abbrev pub bits_of : Values → ℕ
bits_of p = 8 * (8 + 2 * amount p name.gPayloadLengthStatic)

abbrev pub is_after_frame : Values → Option Deed → Bool
is_after_frame p None = false
is_after_frame p (Some deed.Lose) = false
is_after_frame p (Some (deed.Flip bit)) = nat_le (bits_of p) bit
is_after_frame p (Some (deed.Say shift bytes)) = false

-- what a deed makes of the frames of a correct sender
abbrev pub done_by : Option Deed → Event
done_by None = event.Regular
done_by (Some deed.Lose) = event.Silent
done_by (Some (deed.Flip bit)) = event.Flip bit
done_by (Some (deed.Say shift bytes)) = event.Regular

-- and what an arbitrary sender says by it
abbrev pub event_of_deed : Option Deed → Event
event_of_deed None = event.Silent
event_of_deed (Some deed.Lose) = event.Silent
event_of_deed (Some (deed.Flip bit)) = event.Silent
event_of_deed (Some (deed.Say shift bytes)) = event.Say shift bytes
