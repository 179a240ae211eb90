-- Which reasons hold of a record of a parameter file, as the description of the file names them.
use Rattle.std.specs.Prelude.{ℕ, Bool, true, false, not, List, [], ◌∷◌, ◌++◌, Option, Some, None, is_some, is_none, codes, if◌then◌else◌}
use Rattle.std.specs.Str.{bytes_eq}
use Rattle.fr_base.specs.declared.reason.Reason.{Reason}
use Rattle.fr_base.specs.declared.reason.Reason.TheVariants as reason
use Rattle.fr_text.specs.Records.{FileRecord}
use Rattle.fr_text.specs.Fields.{field_of, is_blank}
use Rattle.fr_text.specs.Forms.{Form, NumberField, number_field, misses_form, has_unknown_name, has_no_number, is_out_of_range, has_bad_channels}
use Rattle.fr_text.specs.Least.{row_passes}
use Rattle.fr_params.specs.Names.{name_of, place}
use Rattle.fr_cluster.specs.Ranges.{least, greatest, has_turn, is_keyless_starter}
use Rattle.fr_cluster.specs.declared.names.ParamName.{ParamName}
use Rattle.fr_params.specs.Rows.{channels_of, param_row_of}
use Rattle.fr_params.specs.Reasons.{is_not_first, value_at, node_at, slot_at}
use Rattle.fr_params.specs.Versions.{version_with}
use Rattle.fr_params.specs.declared.names.Version.{Version}
use Rattle.fr_params.specs.declared.rows.Row.{Row}
use Rattle.fr_params.specs.declared.rows.Row.TheVariants as row

-- `version,2,,,`
abbrev pub version_form : FileRecord → Form
version_form r = record {
  empty = field_of r 2 ∷ field_of r 3 ∷ field_of r 4 ∷ [];
  known = true;
  numbers = number_field (field_of r 1) 2 2 ∷ [];
  short = true;
  spelt = true;
}

-- `param,NAME,VALUE,,`: a name of the file's version, and the value in its range
abbrev pub value_fields : Option ParamName → List ℕ → List NumberField
value_fields None text = []
value_fields (Some n) text = number_field text (least n) (greatest n) ∷ []

abbrev pub value_form : Version → FileRecord → Form
value_form version r = record {
  empty = field_of r 3 ∷ field_of r 4 ∷ [];
  known = is_some (name_of version (field_of r 1));
  numbers = value_fields (name_of version (field_of r 1)) (field_of r 2);
  short = true;
  spelt = true;
}

-- `node,ID,KEY,CHANNELS,COLD`: no number where there is no key slot
abbrev pub key_fields : List ℕ → List NumberField
key_fields text = if is_blank text then [] else number_field text 1 1023 ∷ []

abbrev pub node_form : FileRecord → Form
node_form r = record {
  empty = [];
  known = true;
  numbers = number_field (field_of r 1) 1 64 ∷ (key_fields (field_of r 2) ++ number_field (field_of r 4) 0 1 ∷ []);
  short = true;
  spelt = is_some (channels_of (field_of r 3));
}

-- `slot,SLOT,NODE,BASE,REPETITION`
abbrev pub slot_form : FileRecord → Form
slot_form r = record {
  empty = [];
  known = true;
  numbers = number_field (field_of r 1) 1 1023 ∷ number_field (field_of r 2) 1 64 ∷ number_field (field_of r 3) 0 63 ∷ number_field (field_of r 4) 1 64 ∷ [];
  short = true;
  spelt = true;
}

abbrev pub param_form : Version → FileRecord → Option Form
param_form version r =
    if bytes_eq (field_of r 0) (codes "version") then Some (version_form r)
    else if bytes_eq (field_of r 0) (codes "param") then Some (value_form version r)
    else if bytes_eq (field_of r 0) (codes "node") then Some (node_form r)
    else if bytes_eq (field_of r 0) (codes "slot") then Some (slot_form r)
    else None

-- a slot of a node that no earlier record names
abbrev pub has_unknown_node : Version → List FileRecord → Row → Bool
has_unknown_node version before row.Version = false
has_unknown_node version before (row.Param n v) = false
has_unknown_node version before (row.Node node) = false
has_unknown_node version before (row.Slot slot) = is_none (node_at version slot.node before)

-- a version that is not said by the first record; a coldstart node without a key slot; a slot whose base and repetition
-- do not go together
abbrev pub goes_not_together : List FileRecord → Row → Bool
goes_not_together before row.Version = is_not_first before
goes_not_together before (row.Param n v) = false
goes_not_together before (row.Node node) = is_keyless_starter node
goes_not_together before (row.Slot slot) = not (has_turn slot)

-- a second row of a name, of a node, of a slot
abbrev pub is_second_row : Version → List FileRecord → Row → Bool
is_second_row version before row.Version = false
is_second_row version before (row.Param n v) = is_some (value_at version (place n) before)
is_second_row version before (row.Node node) = is_some (node_at version node.id before)
is_second_row version before (row.Slot slot) = is_some (slot_at version slot.slot before)

-- whether a reason holds of a record of a file of a version after the records before it
abbrev pub param_holds_in : Version → List FileRecord → FileRecord → Reason → Bool
param_holds_in version before r reason.Shape = misses_form 5 r (param_form version r)
param_holds_in version before r reason.UnknownName = has_unknown_name (param_form version r)
param_holds_in version before r reason.NotNumber = has_no_number (param_form version r)
param_holds_in version before r reason.OutOfRange = is_out_of_range (param_form version r)
param_holds_in version before r reason.UnknownNode = row_passes (has_unknown_node version before) (param_row_of version r)
param_holds_in version before r reason.BadChannel = has_bad_channels (param_form version r)
param_holds_in version before r reason.Role = row_passes (goes_not_together before) (param_row_of version r)
param_holds_in version before r reason.Link = false
param_holds_in version before r reason.NotHex = false
param_holds_in version before r reason.Repeated = row_passes (is_second_row version before) (param_row_of version r)

-- whether a reason holds of a record after the records before it
abbrev pub param_holds : List FileRecord → FileRecord → Reason → Bool
param_holds before r why = param_holds_in (version_with before r) before r why
