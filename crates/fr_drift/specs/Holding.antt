-- Which reasons hold of a record of a drift file, as the description of the file names them.
use Rattle.std.specs.Prelude.{neg_ℤ, Bool, true, false, not, ◌==◌, ◌&&◌, List, [], ◌∷◌, Option, Some, None, is_some, codes, if◌then◌else◌}
use Rattle.std.specs.Option.{option_map_or}
use Rattle.std.specs.Str.{bytes_eq}
use Rattle.fr_base.specs.Channels.{channel_of}
use Rattle.fr_base.specs.declared.reason.Reason.{Reason}
use Rattle.fr_base.specs.declared.reason.Reason.TheVariants as reason
use Rattle.fr_text.specs.Records.{FileRecord}
use Rattle.fr_text.specs.Fields.{field_of}
use Rattle.fr_text.specs.Forms.{Form, number_field, misses_form, has_unknown_name, has_no_number, is_out_of_range, has_bad_channels}
use Rattle.fr_text.specs.Least.{row_passes}
use Rattle.fr_cluster.specs.Values.{Values}
use Rattle.fr_cluster.specs.Questions.{is_common, is_known}
use Rattle.fr_drift.specs.Rows.{most_link_delay, drift_row_of}
use Rattle.fr_drift.specs.Reasons.{doubles_at, start_at, length_said_at, delay_at}
use Rattle.fr_drift.specs.declared.rows.Row.{Row}
use Rattle.fr_drift.specs.declared.rows.Row.TheVariants as row

-- `doubles,COUNT,,,,`
abbrev pub doubles_form : FileRecord → Form
doubles_form r = record {
  empty = field_of r 2 ∷ field_of r 3 ∷ field_of r 4 ∷ field_of r 5 ∷ [];
  known = true;
  numbers = number_field (field_of r 1) 1 100_000 ∷ [];
  short = true;
  spelt = true;
}

-- `start,NODE,TICKS,RATE,,`: the rate term within the limit of the parameters
abbrev pub start_form : Values → FileRecord → Form
start_form p r = record {
  empty = field_of r 4 ∷ field_of r 5 ∷ [];
  known = true;
  numbers =
      number_field (field_of r 1) 1 64
      ∷ number_field (field_of r 2) 0 1_000_000_000_000
      ∷ record { text = field_of r 3; low = neg_ℤ p.rate_limit; high = p.rate_limit } ∷ [];
  short = true;
  spelt = true;
}

-- `length,NODE,FROM,TICKS,,`
abbrev pub length_form : FileRecord → Form
length_form r = record {
  empty = field_of r 4 ∷ field_of r 5 ∷ [];
  known = true;
  numbers = number_field (field_of r 1) 1 64 ∷ number_field (field_of r 2) 0 199_999 ∷ number_field (field_of r 3) 500_000 1_500_000 ∷ [];
  short = true;
  spelt = true;
}

-- `delay,SENDER,RECEIVER,CHANNEL,FROM,TICKS`
abbrev pub delay_form : FileRecord → Form
delay_form r = record {
  empty = [];
  known = true;
  numbers =
      number_field (field_of r 1) 1 64 ∷ number_field (field_of r 2) 1 64 ∷ number_field (field_of r 4) 0 199_999 ∷ number_field (field_of r 5) 0 most_link_delay ∷ [];
  short = true;
  spelt = is_some (channel_of (field_of r 3));
}

abbrev pub drift_form : Values → FileRecord → Option Form
drift_form p r =
    if bytes_eq (field_of r 0) (codes "doubles") then Some (doubles_form r)
    else if bytes_eq (field_of r 0) (codes "start") then Some (start_form p r)
    else if bytes_eq (field_of r 0) (codes "length") then Some (length_form r)
    else if bytes_eq (field_of r 0) (codes "delay") then Some (delay_form r)
    else None

-- a node that is none of the parameters
abbrev pub names_stranger : Values → Row → Bool
names_stranger p (row.Doubles n) = false
names_stranger p (row.Start s) = not (is_known p s.node)
names_stranger p (row.Length l) = not (is_known p l.node)
names_stranger p (row.Delay d) = not (is_known p d.sender && is_known p d.receiver)

-- a link of a node to itself
abbrev pub links_itself : Row → Bool
links_itself (row.Doubles n) = false
links_itself (row.Start s) = false
links_itself (row.Length l) = false
links_itself (row.Delay d) = d.sender == d.receiver

-- a link on a channel that is not common to both
abbrev pub links_apart : Values → Row → Bool
links_apart p (row.Doubles n) = false
links_apart p (row.Start s) = false
links_apart p (row.Length l) = false
links_apart p (row.Delay d) = option_map_or (λ ch. not (is_common p d.sender d.receiver ch)) d.channel false

-- a second row of the same thing
abbrev pub is_said_again : List FileRecord → Row → Bool
is_said_again before (row.Doubles n) = is_some (doubles_at before)
is_said_again before (row.Start s) = is_some (start_at s.node before)
is_said_again before (row.Length l) = is_some (length_said_at l.node l.from before)
is_said_again before (row.Delay d) = option_map_or (λ ch. is_some (delay_at d.sender d.receiver ch d.from before)) d.channel false

-- whether a reason holds of a record after the records before it
abbrev pub drift_holds : Values → List FileRecord → FileRecord → Reason → Bool
drift_holds p before r reason.Shape = misses_form 6 r (drift_form p r)
drift_holds p before r reason.UnknownName = has_unknown_name (drift_form p r)
drift_holds p before r reason.NotNumber = has_no_number (drift_form p r)
drift_holds p before r reason.OutOfRange = is_out_of_range (drift_form p r)
drift_holds p before r reason.UnknownNode = row_passes (names_stranger p) (drift_row_of r)
drift_holds p before r reason.BadChannel = has_bad_channels (drift_form p r)
drift_holds p before r reason.Role = row_passes links_itself (drift_row_of r)
drift_holds p before r reason.Link = row_passes (links_apart p) (drift_row_of r)
drift_holds p before r reason.NotHex = false
drift_holds p before r reason.Repeated = row_passes (is_said_again before) (drift_row_of r)
