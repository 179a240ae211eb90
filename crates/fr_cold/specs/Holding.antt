-- Which reasons hold of a record of a power file, as the description of the file names them.
use Rattle.std.specs.Prelude.{Bool, true, false, not, ◌||◌, List, [], ◌∷◌, Option, Some, None, is_some, codes, if◌then◌else◌}
use Rattle.std.specs.Str.{bytes_eq}
use Rattle.fr_base.specs.declared.reason.Reason.{Reason}
use Rattle.fr_base.specs.declared.reason.Reason.TheVariants as reason
use Rattle.fr_text.specs.Records.{FileRecord}
use Rattle.fr_text.specs.Fields.{field_of}
use Rattle.fr_text.specs.Forms.{Form, number_field, misses_form, has_unknown_name, has_no_number, is_out_of_range}
use Rattle.fr_text.specs.Least.{row_passes}
use Rattle.fr_cluster.specs.Values.{Values}
use Rattle.fr_cold.specs.Rows.{most_tick, power_row_of}
use Rattle.fr_cold.specs.Reasons.{cycles_at, is_out_of_turn, last_at}
use Rattle.fr_cluster.specs.Questions.{is_known, is_coldstart}
use Rattle.fr_cold.specs.declared.rows.Row.{Row}
use Rattle.fr_cold.specs.declared.rows.Row.TheVariants as row

-- `cycles,COUNT,`
abbrev pub cycles_form : FileRecord → Form
cycles_form r = record {
  empty = field_of r 2 ∷ [];
  known = true;
  numbers = number_field (field_of r 1) 1 1000 ∷ [];
  short = true;
  spelt = true;
}

-- `on,NODE,TIME` and `off,NODE,TIME`
abbrev pub switch_form : FileRecord → Form
switch_form r = record {
  empty = [];
  known = true;
  numbers = number_field (field_of r 1) 1 64 ∷ number_field (field_of r 2) 0 most_tick ∷ [];
  short = true;
  spelt = true;
}

abbrev pub power_form : FileRecord → Option Form
power_form r =
    if bytes_eq (field_of r 0) (codes "cycles") then Some (cycles_form r)
    else if bytes_eq (field_of r 0) (codes "on") then Some (switch_form r)
    else if bytes_eq (field_of r 0) (codes "off") then Some (switch_form r)
    else None

-- a node that is none of the parameters
abbrev pub power_names_stranger : Values → Row → Bool
power_names_stranger p (row.Cycles n) = false
power_names_stranger p (row.Switched s) = not (is_known p s.node)

-- a node that is no coldstart node, or a record out of the turn of its node
abbrev pub is_switch_misplaced : Values → List FileRecord → Row → Bool
is_switch_misplaced p before (row.Cycles n) = false
is_switch_misplaced p before (row.Switched s) = not (is_coldstart p s.node) || is_out_of_turn (last_at s.node before) s

-- a second row of the number of cycles
abbrev pub are_cycles_said_again : List FileRecord → Row → Bool
are_cycles_said_again before (row.Cycles n) = is_some (cycles_at before)
are_cycles_said_again before (row.Switched s) = false

-- whether a reason holds of a record after the records before it
abbrev pub power_holds : Values → List FileRecord → FileRecord → Reason → Bool
power_holds p before r reason.Shape = misses_form 3 r (power_form r)
power_holds p before r reason.UnknownName = has_unknown_name (power_form r)
power_holds p before r reason.NotNumber = has_no_number (power_form r)
power_holds p before r reason.OutOfRange = is_out_of_range (power_form r)
power_holds p before r reason.UnknownNode = row_passes (power_names_stranger p) (power_row_of r)
power_holds p before r reason.BadChannel = false
power_holds p before r reason.Role = row_passes (is_switch_misplaced p before) (power_row_of r)
power_holds p before r reason.Link = false
power_holds p before r reason.NotHex = false
power_holds p before r reason.Repeated = row_passes (are_cycles_said_again before) (power_row_of r)
