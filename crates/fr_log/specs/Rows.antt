-- What a record of a log says by itself.
use Rattle.std.specs.Prelude.{ℕ, ◌<◌, ◌≤◌, ◌==◌, ◌&&◌, not, Bool, List, [], ◌∷◌, length, All, Option, Some, None, IfSome, Result, Ok, Err, codes, if◌then◌else◌}
use Rattle.std.specs.Str.{bytes_eq}
use Rattle.hex.specs.Hex.{decode_of}
use Rattle.hex.specs.declared.error.FromHexError.{FromHexError}
use Rattle.fr_base.specs.Channels.{channel_of}
use Rattle.fr_base.specs.declared.numbers.NumberFault.{NumberFault}
use Rattle.fr_base.specs.declared.reason.Reason.{Reason}
use Rattle.fr_base.specs.declared.reason.Reason.TheVariants as reason
use Rattle.fr_text.specs.Records.{FileRecord}
use Rattle.fr_text.specs.Fields.{both_of, field_of, hex_digits_in, is_blank, natural_of, or_reason}
use Rattle.fr_log.specs.Numbers.{IsHeadNumber, greatest_number, head_number_of, least_number}
use Rattle.fr_log.specs.declared.entry.EntryKind.{EntryKind}
use Rattle.fr_log.specs.declared.entry.EntryKind.TheVariants as kind
use Rattle.fr_log.specs.declared.fields.Fields.{Fields}
use Rattle.fr_log.specs.declared.rows.DelayLimits.{DelayLimits}
use Rattle.fr_log.specs.declared.rows.EntryRow.{EntryRow}
use Rattle.fr_log.specs.declared.rows.HeadNumber.{HeadNumber}
use Rattle.fr_log.specs.declared.rows.Row.{Row}
use Rattle.fr_log.specs.declared.rows.Row.TheVariants as row

-- the greatest delay in ticks, and the greatest stamp in units: no frame comes at a greater tick
abbrev pub most_delay : ℕ
most_delay = 1_000_000_000

abbrev pub last_stamp : ℕ
last_stamp = 900_000_000_000_000_000

-- the record that has these fields
abbrev pub log_fields : Fields → FileRecord
log_fields fields = fields.kind.now ∷ fields.number.now ∷ fields.channel.now ∷ fields.low_or_bytes.now ∷ fields.high.now ∷ []

-- the fields after the second one are empty
abbrev pub is_alone : FileRecord → Bool
is_alone fields = is_blank (field_of fields 2) && is_blank (field_of fields 3) && is_blank (field_of fields 4)

-- a number of the head
abbrev pub number_row : HeadNumber → FileRecord → Result Row Reason
number_row name fields =
    if is_alone fields
    then or_reason (λ n. Ok (row.Number name n)) (natural_of (least_number name) (greatest_number name) (field_of fields 1))
    else Err reason.Shape

-- no frame was missed
abbrev pub whole_row : FileRecord → Result Row Reason
whole_row fields = if is_blank (field_of fields 1) && is_alone fields then Ok row.Whole else Err reason.Shape

-- a node is arbitrary
abbrev pub log_node_row : FileRecord → Result Row Reason
log_node_row fields =
    if is_alone fields then or_reason (λ node. Ok (row.Arbitrary node)) (natural_of 1 64 (field_of fields 1)) else Err reason.Shape

-- the limits of a delay that two fields name
abbrev pub limits_with : Result (ℕ × ℕ) NumberFault → Result DelayLimits NumberFault
limits_with (Ok numbers) = Ok (record { low = numbers.0; high = numbers.1 })
limits_with (Err fault) = Err fault

abbrev pub limits_in : FileRecord → Result DelayLimits NumberFault
limits_in fields = limits_with (both_of (natural_of 0 most_delay (field_of fields 3)) (natural_of 0 most_delay (field_of fields 4)))

-- of a sender on a channel
abbrev pub link_row : FileRecord → Result Row Reason
link_row fields =
    or_reason (λ said. Ok (row.Delay (record { node = said.0; channel = channel_of (field_of fields 2); limits = said.1 })))
    (both_of (natural_of 1 64 (field_of fields 1)) (limits_in fields))

-- of all that have no others
abbrev pub each_row : FileRecord → Result Row Reason
each_row fields = or_reason (λ limits. Ok (row.EachDelay limits)) (limits_in fields)

-- the fields of sender and channel are both empty, or neither is
abbrev pub log_delay_row : FileRecord → Result Row Reason
log_delay_row fields =
    if not (is_blank (field_of fields 1)) && not (is_blank (field_of fields 2)) then link_row fields
    else if is_blank (field_of fields 1) && is_blank (field_of fields 2) then each_row fields
    else Err reason.Shape

-- the bytes that a text writes; none where it is not hexadecimal
abbrev pub bytes_decoded : Result (List ℕ) FromHexError → Option (List ℕ)
bytes_decoded (Ok bytes) = Some bytes
bytes_decoded (Err why) = None

abbrev pub entry_bytes_in : List ℕ → Option (List ℕ)
entry_bytes_in text = bytes_decoded (decode_of text)

-- a frame that came
abbrev pub came_row : EntryKind → FileRecord → ℕ → Row
came_row kind fields stamp =
    row.Came (record { kind = kind; stamp = stamp; channel = channel_of (field_of fields 2); bytes = entry_bytes_in (field_of fields 3) })

abbrev pub entry_row : EntryKind → FileRecord → Result Row Reason
entry_row kind fields =
    if is_blank (field_of fields 4)
    then or_reason (λ numbers. Ok (came_row kind fields numbers.0)) (both_of (natural_of 0 last_stamp (field_of fields 1)) (hex_digits_in (field_of fields 3)))
    else Err reason.Shape

-- what a record of five fields says, by its kind
abbrev pub other_row : FileRecord → Result Row Reason
other_row fields =
    if bytes_eq (field_of fields 0) (codes "whole") then whole_row fields
    else if bytes_eq (field_of fields 0) (codes "arbitrary") then log_node_row fields
    else if bytes_eq (field_of fields 0) (codes "delay") then log_delay_row fields
    else if bytes_eq (field_of fields 0) (codes "frame") then entry_row kind.Frame fields
    else if bytes_eq (field_of fields 0) (codes "head") then entry_row kind.Head fields
    else Err reason.UnknownName

abbrev pub log_row_by : Option HeadNumber → FileRecord → Result Row Reason
log_row_by (Some name) fields = number_row name fields
log_row_by None fields = other_row fields

abbrev pub log_file_row : FileRecord → Result Row Reason
log_file_row fields = log_row_by (head_number_of (field_of fields 0)) fields

-- what a record says, or the least of the reasons that it shows by itself: but for those of a field that is no channel or
-- not hexadecimal, which come after reasons that it does not show, and of a stamp that is too great for the unit
unfoldable pub log_row_of : FileRecord → Result Row Reason
log_row_of fields = if length fields == 5 then log_file_row fields else Err reason.Shape

-- at most as many bytes as a frame has, each of them a byte
pub record AreEntryBytes (bytes : List ℕ) : Type 0 where
  pub few : length bytes ≤ 262
  pub small : All (λ b. b < 256) bytes

-- the numbers of a row lie in their ranges
pub record IsProperCame (e : EntryRow) : Type 0 where
  pub stamp : e.stamp ≤ last_stamp
  pub bytes : IfSome e.bytes AreEntryBytes

abbrev pub IsProperLogRow : Row → Type 0
IsProperLogRow (row.Number name n) = IsHeadNumber name n
IsProperLogRow row.Whole = Unit {0}
IsProperLogRow (row.Arbitrary node) = Unit {0}
IsProperLogRow (row.Delay d) = d.limits.high ≤ most_delay
IsProperLogRow (row.EachDelay limits) = limits.high ≤ most_delay
IsProperLogRow (row.Came e) = IsProperCame e
