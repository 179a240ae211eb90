-- Why a record of a log is refused after the records before it: what the earlier records say is looked up in
-- their list.
use Rattle.std.specs.Prelude.{ℕ, ◌*◌, ◌%◌, ◌-◌, length, nat_lt, Bool, true, false, not, ◌==◌, ◌&&◌, ◌||◌, List, [], ◌∷◌, Option, Some, None, is_none, is_some, Result, Ok, Err, if◌then◌else◌}
use Rattle.std.specs.List.{filter_map, list_any, slice_get}
use Rattle.std.specs.Option.{option_map_or}
use Rattle.fr_base.specs.declared.channel.Channel.{Channel}
use Rattle.fr_base.specs.declared.reason.Reason.{Reason}
use Rattle.fr_base.specs.declared.reason.Reason.TheVariants as reason
use Rattle.fr_text.specs.Fields.{is_channel, looked_up}
use Rattle.fr_text.specs.Records.{FileRecord}
use Rattle.fr_cluster.specs.Questions.{has_channel, node_of, own_key}
use Rattle.fr_cluster.specs.Values.{Values}
use Rattle.fr_log.specs.Numbers.{head_place}
use Rattle.fr_log.specs.Rows.{last_stamp, log_row_of}
use Rattle.fr_log.specs.declared.entry.Entry.{Entry}
use Rattle.fr_log.specs.declared.rows.DelayLimits.{DelayLimits}
use Rattle.fr_log.specs.declared.rows.DelayRow.{DelayRow}
use Rattle.fr_log.specs.declared.rows.EntryRow.{EntryRow}
use Rattle.fr_log.specs.declared.rows.HeadNumber.{HeadNumber}
use Rattle.fr_log.specs.declared.rows.HeadNumber.TheVariants as head
use Rattle.fr_log.specs.declared.rows.Row.{Row}
use Rattle.fr_log.specs.declared.rows.Row.TheVariants as row

-- ---- what a row says

-- a number of the head, if a row says it
abbrev pub is_same_head_number : HeadNumber → HeadNumber → Bool
is_same_head_number a b = head_place a == head_place b

abbrev pub number_said : HeadNumber → Result Row Reason → Option ℕ
number_said name (Ok (row.Number other n)) = if is_same_head_number other name then Some n else None
number_said name (Ok row.Whole) = None
number_said name (Ok (row.Arbitrary node)) = None
number_said name (Ok (row.Delay d)) = None
number_said name (Ok (row.EachDelay limits)) = None
number_said name (Ok (row.Came e)) = None
number_said name (Err why) = None

-- whether it says that no frame was missed
abbrev pub whole_said : Result Row Reason → Bool
whole_said (Ok (row.Number name n)) = false
whole_said (Ok row.Whole) = true
whole_said (Ok (row.Arbitrary node)) = false
whole_said (Ok (row.Delay d)) = false
whole_said (Ok (row.EachDelay limits)) = false
whole_said (Ok (row.Came e)) = false
whole_said (Err why) = false

-- whether it names a node arbitrary
abbrev pub names_arbitrary : ℕ → Result Row Reason → Bool
names_arbitrary node (Ok (row.Number name n)) = false
names_arbitrary node (Ok row.Whole) = false
names_arbitrary node (Ok (row.Arbitrary other)) = other == node
names_arbitrary node (Ok (row.Delay d)) = false
names_arbitrary node (Ok (row.EachDelay limits)) = false
names_arbitrary node (Ok (row.Came e)) = false
names_arbitrary node (Err why) = false

-- the limits of the delay of a sender on a channel, if it says them
abbrev pub limits_said : ℕ → Channel → Result Row Reason → Option DelayLimits
limits_said node ch (Ok (row.Number name n)) = None
limits_said node ch (Ok row.Whole) = None
limits_said node ch (Ok (row.Arbitrary other)) = None
limits_said node ch (Ok (row.Delay d)) = if is_channel ch d.channel && (d.node == node) then Some d.limits else None
limits_said node ch (Ok (row.EachDelay limits)) = None
limits_said node ch (Ok (row.Came e)) = None
limits_said node ch (Err why) = None

-- and those of all that have no others
abbrev pub each_said : Result Row Reason → Option DelayLimits
each_said (Ok (row.Number name n)) = None
each_said (Ok row.Whole) = None
each_said (Ok (row.Arbitrary node)) = None
each_said (Ok (row.Delay d)) = None
each_said (Ok (row.EachDelay limits)) = Some limits
each_said (Ok (row.Came e)) = None
each_said (Err why) = None

-- the frame that came, if its channel is spelt and its bytes are hexadecimal
abbrev pub entry_of : EntryRow → Option Channel → Option (List ℕ) → Option Entry
entry_of e (Some ch) (Some bytes) = Some (record { kind = e.kind; stamp = e.stamp; channel = ch; bytes = bytes })
entry_of e (Some ch) None = None
entry_of e None bytes = None

abbrev pub entry_said : Result Row Reason → Option Entry
entry_said (Ok (row.Number name n)) = None
entry_said (Ok row.Whole) = None
entry_said (Ok (row.Arbitrary node)) = None
entry_said (Ok (row.Delay d)) = None
entry_said (Ok (row.EachDelay limits)) = None
entry_said (Ok (row.Came e)) = entry_of e e.channel e.bytes
entry_said (Err why) = None

-- ---- what the records say

abbrev pub number_by : HeadNumber → List FileRecord → Option ℕ
number_by name records = looked_up (λ r. number_said name (log_row_of r)) records

abbrev pub is_log_whole : List FileRecord → Bool
is_log_whole records = list_any (λ r. whole_said (log_row_of r)) records

abbrev pub is_arbitrary_by : ℕ → List FileRecord → Bool
is_arbitrary_by node records = list_any (λ r. names_arbitrary node (log_row_of r)) records

abbrev pub delay_limits_by : ℕ → Channel → List FileRecord → Option DelayLimits
delay_limits_by node ch records = looked_up (λ r. limits_said node ch (log_row_of r)) records

abbrev pub each_by : List FileRecord → Option DelayLimits
each_by records = looked_up (λ r. each_said (log_row_of r)) records

-- the entries in their order
unfoldable pub entries_by : List FileRecord → List Entry
entries_by records = filter_map (λ r. entry_said (log_row_of r)) records

-- ---- what refuses a record

-- whether one is an entry
abbrev pub is_some_entry : List Entry → Bool
is_some_entry [] = false
is_some_entry (e ∷ rest) = true

abbrev pub has_entry : List FileRecord → Bool
has_entry records = is_some_entry (entries_by records)

-- a number that no record of the head may say: a cycle that is odd
abbrev pub is_misfit : HeadNumber → ℕ → Bool
is_misfit head.Unit n = false
is_misfit head.Drift n = false
is_misfit head.Error n = false
is_misfit head.Jitter n = false
is_misfit head.Since n = n % 2 == 1
is_misfit head.Flutter n = false
is_misfit head.Lost n = false

-- whether limits are in the wrong order
abbrev pub are_crossed : DelayLimits → Bool
are_crossed limits = nat_lt limits.high limits.low

-- whether a stamp is below that of the last entry
abbrev pub is_below_last : List Entry → ℕ → Bool
is_below_last entries stamp = option_map_or (λ e. nat_lt stamp e.stamp) (slice_get entries (length entries - 1)) false

-- an entry before a unit, or with a stamp below that of the entry before
abbrev pub comes_out_of_turn : List FileRecord → ℕ → Bool
comes_out_of_turn records stamp = is_none (number_by head.Unit records) || is_below_last (entries_by records) stamp

-- whether a stamp is too great for the unit
abbrev pub is_beyond_last : List FileRecord → ℕ → Bool
is_beyond_last records stamp = option_map_or (λ unit. nat_lt last_stamp (unit * stamp)) (number_by head.Unit records) false

-- the least reason after these records for which a number is not taken
abbrev pub number_reason : List FileRecord → HeadNumber → ℕ → Option Reason
number_reason records name n =
    if is_misfit name n || has_entry records then Some reason.Role
    else if is_some (number_by name records) then Some reason.Repeated
    else None

-- for which it is not taken that no frame was missed
abbrev pub whole_reason : List FileRecord → Option Reason
whole_reason records =
    if has_entry records then Some reason.Role
    else if is_log_whole records then Some reason.Repeated
    else None

-- for which a node is not named
abbrev pub log_node_reason : Values → List FileRecord → ℕ → Option Reason
log_node_reason p records node =
    if is_none (node_of p node) then Some reason.UnknownNode
    else if is_none (own_key p node) || has_entry records then Some reason.Role
    else if is_arbitrary_by node records then Some reason.Repeated
    else None

-- for which limits of a delay are not taken
abbrev pub limits_reason : Values → List FileRecord → DelayRow → Option Channel → Option Reason
limits_reason p records d None = Some reason.BadChannel
limits_reason p records d (Some ch) =
    if are_crossed d.limits || has_entry records then Some reason.Role
    else if not (has_channel (node_of p d.node) ch) then Some reason.Link
    else if is_some (delay_limits_by d.node ch records) then Some reason.Repeated
    else None

abbrev pub log_delay_reason : Values → List FileRecord → DelayRow → Option Reason
log_delay_reason p records d = if is_none (node_of p d.node) then Some reason.UnknownNode else limits_reason p records d d.channel

abbrev pub each_reason : List FileRecord → DelayLimits → Option Reason
each_reason records limits =
    if are_crossed limits || has_entry records then Some reason.Role
    else if is_some (each_by records) then Some reason.Repeated
    else None

-- and for which an entry is not
abbrev pub came_reason : List FileRecord → EntryRow → Option Channel → Option Reason
came_reason records e None = Some reason.BadChannel
came_reason records e (Some ch) =
    if comes_out_of_turn records e.stamp then Some reason.Role
    else if is_none e.bytes then Some reason.NotHex
    else None

abbrev pub entry_reason : List FileRecord → EntryRow → Option Reason
entry_reason records e = if is_beyond_last records e.stamp then Some reason.OutOfRange else came_reason records e e.channel

-- the least reason after these records, of what a record says or shows by itself
abbrev pub log_row_reason : Values → List FileRecord → Result Row Reason → Option Reason
log_row_reason p records (Err why) = Some why
log_row_reason p records (Ok (row.Number name n)) = number_reason records name n
log_row_reason p records (Ok row.Whole) = whole_reason records
log_row_reason p records (Ok (row.Arbitrary node)) = log_node_reason p records node
log_row_reason p records (Ok (row.Delay d)) = log_delay_reason p records d
log_row_reason p records (Ok (row.EachDelay limits)) = each_reason records limits
log_row_reason p records (Ok (row.Came e)) = entry_reason records e

-- why a record is refused after the records before it, if it is
abbrev pub log_reason_after : Values → List FileRecord → FileRecord → Option Reason
log_reason_after p records r = log_row_reason p records (log_row_of r)
