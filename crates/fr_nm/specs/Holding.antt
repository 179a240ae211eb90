-- Which reasons hold of a record of a recording, as the description of the file names them.
use Rattle.std.specs.Prelude.{Bool, true, false, nat_le, List, [], ◌∷◌, length, Some, is_none, is_some}
use Rattle.fr_base.specs.Channels.{channel_of}
use Rattle.fr_base.specs.declared.reason.Reason.{Reason}
use Rattle.fr_base.specs.declared.reason.Reason.TheVariants as reason
use Rattle.fr_text.specs.Records.{FileRecord}
use Rattle.fr_text.specs.Fields.{field_of}
use Rattle.fr_text.specs.Forms.{Form, number_field, misses_form, has_no_number, is_out_of_range, has_bad_channels}
use Rattle.fr_text.specs.Least.{row_passes}
use Rattle.fr_nm.specs.Rows.{vectors_row_of}
use Rattle.fr_nm.specs.declared.rows.Row.{Row}

-- `CYCLE,CHANNEL,BYTES`: the digits of a frame at most, whatever they are
abbrev pub vectors_form : FileRecord → Form
vectors_form r = record {
  empty = [];
  known = true;
  numbers = number_field (field_of r 0) 0 199_999 ∷ [];
  short = nat_le (length (field_of r 2)) 524;
  spelt = is_some (channel_of (field_of r 1));
}

-- bytes that are not hexadecimal digits
abbrev pub are_bytes_not_hex : Row → Bool
are_bytes_not_hex row = is_none row.bytes

-- whether a reason holds of a record; the records before it are of no account
abbrev pub vectors_holds : List FileRecord → FileRecord → Reason → Bool
vectors_holds before r reason.Shape = misses_form 3 r (Some (vectors_form r))
vectors_holds before r reason.UnknownName = false
vectors_holds before r reason.NotNumber = has_no_number (Some (vectors_form r))
vectors_holds before r reason.OutOfRange = is_out_of_range (Some (vectors_form r))
vectors_holds before r reason.UnknownNode = false
vectors_holds before r reason.BadChannel = has_bad_channels (Some (vectors_form r))
vectors_holds before r reason.Role = false
vectors_holds before r reason.Link = false
vectors_holds before r reason.NotHex = row_passes are_bytes_not_hex (vectors_row_of r)
vectors_holds before r reason.Repeated = false
