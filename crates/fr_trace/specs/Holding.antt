-- Which reasons hold of a record of a trace, as the description of the file names them.
use Rattle.std.specs.Prelude.{ℕ, neg_ℤ, Bool, true, false, not, ◌||◌, List, [], ◌∷◌, Option, Some, None, is_none, is_some, codes, if◌then◌else◌}
use Rattle.std.specs.Option.{option_map_or}
use Rattle.std.specs.Prelude.{ℤ, pos}
use Rattle.std.specs.Str.{bytes_eq}
use Rattle.fr_base.specs.Channels.{channel_of}
use Rattle.fr_base.specs.declared.reason.Reason.{Reason}
use Rattle.fr_base.specs.declared.reason.Reason.TheVariants as reason
use Rattle.fr_cluster.specs.Questions.{is_known, own_key}
use Rattle.fr_cluster.specs.Values.{Values}
use Rattle.fr_text.specs.Fields.{field_of}
use Rattle.fr_text.specs.Forms.{Form, NumberField, number_field, misses_form, has_unknown_name, has_no_number, is_out_of_range, has_bad_channels}
use Rattle.fr_text.specs.Least.{row_passes}
use Rattle.fr_text.specs.Records.{FileRecord}
use Rattle.fr_trace.specs.Order.{may_come}
use Rattle.fr_trace.specs.Reasons.{have_common, is_linked, is_of_other, joins_wrongly, knows_node_and_reference}
use Rattle.fr_trace.specs.Rows.{state_of, trace_row_of}
use Rattle.fr_trace.specs.Said.{joins_at, named_at}
use Rattle.fr_trace.specs.declared.rows.Row.{Row}
use Rattle.fr_trace.specs.declared.rows.Row.TheVariants as row

-- the fields of a record behind the second
abbrev pub later_fields : FileRecord → List (List ℕ)
later_fields r = field_of r 2 ∷ field_of r 3 ∷ field_of r 4 ∷ field_of r 5 ∷ field_of r 6 ∷ field_of r 7 ∷ []

-- `run,DOUBLES,,,,,,`
abbrev pub run_form : FileRecord → Form
run_form r = record { empty = later_fields r; known = true; numbers = number_field (field_of r 1) 1 100_000 ∷ []; short = true; spelt = true }

-- `arbitrary,NODE,,,,,,`
abbrev pub traced_arbitrary_form : FileRecord → Form
traced_arbitrary_form r = record { empty = later_fields r; known = true; numbers = number_field (field_of r 1) 1 64 ∷ []; short = true; spelt = true }

-- `join,NODE,REFERENCE,DOUBLE,,,,`
abbrev pub traced_join_form : FileRecord → Form
traced_join_form r = record {
  empty = field_of r 4 ∷ field_of r 5 ∷ field_of r 6 ∷ field_of r 7 ∷ [];
  known = true;
  numbers = number_field (field_of r 1) 1 64 ∷ number_field (field_of r 2) 1 64 ∷ number_field (field_of r 3) 0 99_999 ∷ [];
  short = true;
  spelt = true;
}

-- a field that is to be a number within a limit of 0
abbrev pub term_field : List ℕ → ℤ → NumberField
term_field text limit = record { text = text; low = neg_ℤ limit; high = limit }

-- `cycle,CYCLE,NODE,START,LENGTH,RATE,OFFSET,STATE`: both terms within the limits of the parameters
abbrev pub clock_form : Values → FileRecord → Form
clock_form p r = record {
  empty = [];
  known = is_some (state_of (field_of r 7));
  numbers =
      number_field (field_of r 1) 0 199_999
      ∷ number_field (field_of r 2) 1 64
      ∷ number_field (field_of r 3) 0 900_000_000_000_000_000
      ∷ number_field (field_of r 4) 500_000 1_500_000
      ∷ term_field (field_of r 5) p.rate_limit
      ∷ term_field (field_of r 6) p.offset_limit ∷ [];
  short = true;
  spelt = true;
}

-- `dev,CYCLE,RECEIVER,SLOT,CHANNEL,VALUE,,`
abbrev pub heard_form : FileRecord → Form
heard_form r = record {
  empty = field_of r 6 ∷ field_of r 7 ∷ [];
  known = true;
  numbers =
      number_field (field_of r 1) 0 199_999
      ∷ number_field (field_of r 2) 1 64
      ∷ number_field (field_of r 3) 1 1023
      ∷ term_field (field_of r 5) (pos 1_000_000) ∷ [];
  short = true;
  spelt = is_some (channel_of (field_of r 4));
}

abbrev pub trace_form : Values → FileRecord → Option Form
trace_form p r =
    if bytes_eq (field_of r 0) (codes "run") then Some (run_form r)
    else if bytes_eq (field_of r 0) (codes "arbitrary") then Some (traced_arbitrary_form r)
    else if bytes_eq (field_of r 0) (codes "join") then Some (traced_join_form r)
    else if bytes_eq (field_of r 0) (codes "cycle") then Some (clock_form p r)
    else if bytes_eq (field_of r 0) (codes "dev") then Some (heard_form r)
    else None

-- a node that is none of the parameters
abbrev pub trace_names_stranger : Values → Row → Bool
trace_names_stranger p (row.Run n) = false
trace_names_stranger p (row.Arbitrary node) = not (is_known p node)
trace_names_stranger p (row.Join j) = not (knows_node_and_reference p j)
trace_names_stranger p (row.Clock cycle clock) = not (is_known p clock.node)
trace_names_stranger p (row.Heard heard) = not (is_known p heard.receiver)

-- an arbitrary node without key slot, a node that cannot join so, or a deviation about a slot that is no key slot of another
-- node
abbrev pub has_no_part : Values → List FileRecord → Row → Bool
has_no_part p before (row.Run n) = false
has_no_part p before (row.Arbitrary node) = is_none (own_key p node)
has_no_part p before (row.Join j) = joins_wrongly p (named_at before) (joins_at before) j
has_no_part p before (row.Clock cycle clock) = false
has_no_part p before (row.Heard heard) = not (is_of_other p heard)

-- such a row, or one that may not come next
abbrev pub is_out_of_place : Values → List FileRecord → Row → Bool
is_out_of_place p before said = has_no_part p before said || not (may_come p before said)

-- a node that joins and its reference have no channel in common, or a deviation is on one that is not common to both nodes
abbrev pub lacks_common_channel : Values → Row → Bool
lacks_common_channel p (row.Run n) = false
lacks_common_channel p (row.Arbitrary node) = false
lacks_common_channel p (row.Join j) = not (have_common p j)
lacks_common_channel p (row.Clock cycle clock) = false
lacks_common_channel p (row.Heard heard) = option_map_or (λ ch. not (is_linked p heard ch)) heard.channel false

-- whether a reason holds of a record after the records before it
abbrev pub trace_holds : Values → List FileRecord → FileRecord → Reason → Bool
trace_holds p before r reason.Shape = misses_form 8 r (trace_form p r)
trace_holds p before r reason.UnknownName = has_unknown_name (trace_form p r)
trace_holds p before r reason.NotNumber = has_no_number (trace_form p r)
trace_holds p before r reason.OutOfRange = is_out_of_range (trace_form p r)
trace_holds p before r reason.UnknownNode = row_passes (trace_names_stranger p) (trace_row_of r)
trace_holds p before r reason.BadChannel = has_bad_channels (trace_form p r)
trace_holds p before r reason.Role = row_passes (is_out_of_place p before) (trace_row_of r)
trace_holds p before r reason.Link = row_passes (lacks_common_channel p) (trace_row_of r)
trace_holds p before r reason.NotHex = false
trace_holds p before r reason.Repeated = false
