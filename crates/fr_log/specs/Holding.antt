-- Which reasons hold of a record of a log, as the description of the file names them.
use Rattle.std.specs.Prelude.{Bool, true, false, not, ◌||◌, nat_le, List, [], ◌∷◌, length, Option, Some, None, is_none, is_some, codes, if◌then◌else◌}
use Rattle.std.specs.Option.{option_map_or}
use Rattle.std.specs.Str.{bytes_eq}
use Rattle.fr_base.specs.Channels.{channel_of}
use Rattle.fr_base.specs.declared.reason.Reason.{Reason}
use Rattle.fr_base.specs.declared.reason.Reason.TheVariants as reason
use Rattle.fr_text.specs.Records.{FileRecord}
use Rattle.fr_text.specs.Fields.{field_of, is_blank}
use Rattle.fr_text.specs.Forms.{Form, NumberField, number_field, misses_form, has_unknown_name, has_no_number, is_out_of_range, has_bad_channels}
use Rattle.fr_text.specs.Least.{row_passes}
use Rattle.fr_cluster.specs.Questions.{has_channel, node_of, own_key}
use Rattle.fr_cluster.specs.Values.{Values}
use Rattle.fr_log.specs.Numbers.{greatest_number, head_number_of, least_number}
use Rattle.fr_log.specs.Reasons.{are_crossed, comes_out_of_turn, delay_limits_by, each_by, has_entry, is_arbitrary_by, is_beyond_last, is_log_whole, is_misfit, number_by}
use Rattle.fr_log.specs.Rows.{last_stamp, log_row_of, most_delay}
use Rattle.fr_log.specs.declared.rows.HeadNumber.{HeadNumber}
use Rattle.fr_log.specs.declared.rows.Row.{Row}
use Rattle.fr_log.specs.declared.rows.Row.TheVariants as row

-- `unit,TICKS,,,`, `drift,PPM,,,`, `error,TICKS,,,`, `jitter,TICKS,,,`, `since,CYCLE,,,`, `flutter,TICKS,,,`, `lost,COUNT,,,`
abbrev pub number_form : HeadNumber → FileRecord → Form
number_form name r = record {
  empty = field_of r 2 ∷ field_of r 3 ∷ field_of r 4 ∷ [];
  known = true;
  numbers = number_field (field_of r 1) (least_number name) (greatest_number name) ∷ [];
  short = true;
  spelt = true;
}

-- `whole,,,,`
abbrev pub whole_form : FileRecord → Form
whole_form r = record {
  empty = field_of r 1 ∷ field_of r 2 ∷ field_of r 3 ∷ field_of r 4 ∷ [];
  known = true;
  numbers = [];
  short = true;
  spelt = true;
}

-- `arbitrary,NODE,,,`
abbrev pub log_node_form : FileRecord → Form
log_node_form r = record {
  empty = field_of r 2 ∷ field_of r 3 ∷ field_of r 4 ∷ [];
  known = true;
  numbers = number_field (field_of r 1) 1 64 ∷ [];
  short = true;
  spelt = true;
}

-- LOW and HIGH of a delay
abbrev pub limit_fields : FileRecord → List NumberField
limit_fields r = number_field (field_of r 3) 0 most_delay ∷ number_field (field_of r 4) 0 most_delay ∷ []

-- `delay,NODE,CHANNEL,LOW,HIGH`
abbrev pub link_form : FileRecord → Form
link_form r = record {
  empty = [];
  known = true;
  numbers = number_field (field_of r 1) 1 64 ∷ limit_fields r;
  short = true;
  spelt = is_some (channel_of (field_of r 2));
}

-- `delay,,,LOW,HIGH`: where one of NODE and CHANNEL is empty, both have to be
abbrev pub each_form : FileRecord → Form
each_form r = record {
  empty = field_of r 1 ∷ field_of r 2 ∷ [];
  known = true;
  numbers = limit_fields r;
  short = true;
  spelt = true;
}

abbrev pub log_delay_form : FileRecord → Form
log_delay_form r = if is_blank (field_of r 1) || is_blank (field_of r 2) then each_form r else link_form r

-- `frame,STAMP,CHANNEL,BYTES,` and `head,STAMP,CHANNEL,BYTES,`: the digits of a frame at most, whatever they are
abbrev pub entry_form : FileRecord → Form
entry_form r = record {
  empty = field_of r 4 ∷ [];
  known = true;
  numbers = number_field (field_of r 1) 0 last_stamp ∷ [];
  short = nat_le (length (field_of r 3)) 524;
  spelt = is_some (channel_of (field_of r 2));
}

abbrev pub other_form : FileRecord → Option Form
other_form r =
    if bytes_eq (field_of r 0) (codes "whole") then Some (whole_form r)
    else if bytes_eq (field_of r 0) (codes "arbitrary") then Some (log_node_form r)
    else if bytes_eq (field_of r 0) (codes "delay") then Some (log_delay_form r)
    else if bytes_eq (field_of r 0) (codes "frame") then Some (entry_form r)
    else if bytes_eq (field_of r 0) (codes "head") then Some (entry_form r)
    else None

abbrev pub form_by : Option HeadNumber → FileRecord → Option Form
form_by (Some name) r = Some (number_form name r)
form_by None r = other_form r

abbrev pub log_form : FileRecord → Option Form
log_form r = form_by (head_number_of (field_of r 0)) r

-- a stamp that is too great for the unit of an earlier record
abbrev pub comes_too_late : List FileRecord → Row → Bool
comes_too_late before (row.Number name n) = false
comes_too_late before row.Whole = false
comes_too_late before (row.Arbitrary node) = false
comes_too_late before (row.Delay d) = false
comes_too_late before (row.EachDelay limits) = false
comes_too_late before (row.Came e) = is_beyond_last before e.stamp

-- a node that is none of the parameters
abbrev pub names_no_node : Values → Row → Bool
names_no_node p (row.Number name n) = false
names_no_node p row.Whole = false
names_no_node p (row.Arbitrary node) = is_none (node_of p node)
names_no_node p (row.Delay d) = is_none (node_of p d.node)
names_no_node p (row.EachDelay limits) = false
names_no_node p (row.Came e) = false

-- a record of the head behind an entry; an odd cycle, a node without a key slot, limits in the wrong order; an entry before a
-- unit, or with a stamp below that of the entry before
abbrev pub may_not_come : Values → List FileRecord → Row → Bool
may_not_come p before (row.Number name n) = is_misfit name n || has_entry before
may_not_come p before row.Whole = has_entry before
may_not_come p before (row.Arbitrary node) = is_none (own_key p node) || has_entry before
may_not_come p before (row.Delay d) = are_crossed d.limits || has_entry before
may_not_come p before (row.EachDelay limits) = are_crossed limits || has_entry before
may_not_come p before (row.Came e) = comes_out_of_turn before e.stamp

-- limits on a channel that the node does not have
abbrev pub is_off_node : Values → Row → Bool
is_off_node p (row.Number name n) = false
is_off_node p row.Whole = false
is_off_node p (row.Arbitrary node) = false
is_off_node p (row.Delay d) = option_map_or (λ ch. not (has_channel (node_of p d.node) ch)) d.channel false
is_off_node p (row.EachDelay limits) = false
is_off_node p (row.Came e) = false

-- bytes in no hexadecimal digits
abbrev pub has_no_bytes : Row → Bool
has_no_bytes (row.Number name n) = false
has_no_bytes row.Whole = false
has_no_bytes (row.Arbitrary node) = false
has_no_bytes (row.Delay d) = false
has_no_bytes (row.EachDelay limits) = false
has_no_bytes (row.Came e) = is_none e.bytes

-- a second row of a kind of the head, of a node that is named, or of a delay; entries may be the same
abbrev pub is_there_already : List FileRecord → Row → Bool
is_there_already before (row.Number name n) = is_some (number_by name before)
is_there_already before row.Whole = is_log_whole before
is_there_already before (row.Arbitrary node) = is_arbitrary_by node before
is_there_already before (row.Delay d) = option_map_or (λ ch. is_some (delay_limits_by d.node ch before)) d.channel false
is_there_already before (row.EachDelay limits) = is_some (each_by before)
is_there_already before (row.Came e) = false

-- whether a reason holds of a record after the records before it
abbrev pub log_holds : Values → List FileRecord → FileRecord → Reason → Bool
log_holds p before r reason.Shape = misses_form 5 r (log_form r)
log_holds p before r reason.UnknownName = has_unknown_name (log_form r)
log_holds p before r reason.NotNumber = has_no_number (log_form r)
log_holds p before r reason.OutOfRange = is_out_of_range (log_form r) || row_passes (comes_too_late before) (log_row_of r)
log_holds p before r reason.UnknownNode = row_passes (names_no_node p) (log_row_of r)
log_holds p before r reason.BadChannel = has_bad_channels (log_form r)
log_holds p before r reason.Role = row_passes (may_not_come p before) (log_row_of r)
log_holds p before r reason.Link = row_passes (is_off_node p) (log_row_of r)
log_holds p before r reason.NotHex = row_passes has_no_bytes (log_row_of r)
log_holds p before r reason.Repeated = row_passes (is_there_already before) (log_row_of r)
