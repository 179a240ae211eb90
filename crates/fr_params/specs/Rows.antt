-- What a record of a parameter file says by itself.
use Rattle.std.specs.Prelude.{ℕ, pos, Bool, true, false, not, ◌==◌, ◌||◌, List, length, Option, Some, None, Result, Ok, Err, codes, if◌then◌else◌, ⊤}
use Rattle.std.specs.Str.{bytes_eq}
use Rattle.fr_cluster.specs.Ranges.{InRange, IsProperNode, IsProperSlot, least, greatest}
use Rattle.fr_base.specs.Number.{number_of, within}
use Rattle.fr_base.specs.declared.numbers.NumberFault.{NumberFault}
use Rattle.fr_base.specs.declared.reason.Reason.{Reason}
use Rattle.fr_base.specs.declared.reason.Reason.TheVariants as reason
use Rattle.fr_text.specs.Records.{FileRecord}
use Rattle.fr_text.specs.Fields.{natural_of, both_of, is_blank, or_reason, field_of}
use Rattle.fr_params.specs.Names.{name_of}
use Rattle.fr_cluster.specs.declared.names.ParamName.{ParamName}
use Rattle.fr_params.specs.declared.names.Version.{Version}
use Rattle.fr_params.specs.declared.rows.Row.{Row}
use Rattle.fr_params.specs.declared.rows.Row.TheVariants as row

-- the only version that a record can name: any other file is of version 1
abbrev pub version_row : List ℕ → Result Row Reason
version_row value = or_reason (λ z. Ok row.Version) (within (pos 2) (pos 2) (number_of value))

-- the value of a parameter, in its range
abbrev pub named_row : List ℕ → Option ParamName → Result Row Reason
named_row value None = Err reason.UnknownName
named_row value (Some n) = or_reason (λ v. Ok (row.Param n v)) (within (pos (least n)) (pos (greatest n)) (number_of value))

-- a name of the table of the file's version; one that only the other version has is not known
abbrev pub param_row : Version → List ℕ → List ℕ → Result Row Reason
param_row version word value = named_row value (name_of version word)

-- the key slot that a field names: none where it is empty
abbrev pub some_key : Result ℕ NumberFault → Result (Option ℕ) NumberFault
some_key (Ok n) = Ok (Some n)
some_key (Err fault) = Err fault

abbrev pub key_of : List ℕ → Result (Option ℕ) NumberFault
key_of text = if is_blank text then Ok None else some_key (natural_of 1 1023 text)

-- whether a field's channels have A, and whether they have B
abbrev pub channels_of : List ℕ → Option (Bool × Bool)
channels_of text =
    if bytes_eq text (codes "A") then Some (true, false)
    else if bytes_eq text (codes "B") then Some (false, true)
    else if bytes_eq text (codes "AB") then Some (true, true)
    else None

-- a node of these numbers on these channels
abbrev pub node_on : Option (Bool × Bool) → ℕ × (Option ℕ × ℕ) → Result Row Reason
node_on None numbers = Err reason.BadChannel
node_on (Some on) numbers = Ok (row.Node (record { id = numbers.0; key = numbers.1.0; on_a = on.0; on_b = on.1; coldstart = numbers.1.1 == 1 }))

abbrev pub param_node_row : List ℕ → List ℕ → List ℕ → List ℕ → Result Row Reason
param_node_row id key channels coldstart = or_reason (node_on (channels_of channels)) (both_of (natural_of 1 64 id) (both_of (key_of key) (natural_of 0 1 coldstart)))

-- a further slot of these numbers
abbrev pub slot_with : (ℕ × ℕ) × (ℕ × ℕ) → Result Row Reason
slot_with numbers = Ok (row.Slot (record { slot = numbers.0.0; node = numbers.0.1; base = numbers.1.0; repetition = numbers.1.1 }))

abbrev pub slot_row : List ℕ → List ℕ → List ℕ → List ℕ → Result Row Reason
slot_row slot node base repetition =
    or_reason slot_with (both_of (both_of (natural_of 1 1023 slot) (natural_of 1 64 node)) (both_of (natural_of 0 63 base) (natural_of 1 64 repetition)))

-- what a record of five fields says in a file of a version, by its kind; a `version` row leaves the last three empty, a
-- `param` row the last two
abbrev pub param_file_row : Version → List ℕ → List ℕ → List ℕ → List ℕ → List ℕ → Result Row Reason
param_file_row version kind first second third fourth =
    if bytes_eq kind (codes "version") then (if not (is_blank second) || not (is_blank third) || not (is_blank fourth) then Err reason.Shape else version_row first)
    else if bytes_eq kind (codes "param") then (if not (is_blank third) || not (is_blank fourth) then Err reason.Shape else param_row version first second)
    else if bytes_eq kind (codes "node") then param_node_row first second third fourth
    else if bytes_eq kind (codes "slot") then slot_row first second third fourth
    else Err reason.UnknownName

-- what a record says in a file of a version, or the least of the reasons that it shows by itself
unfoldable pub param_row_of : Version → FileRecord → Result Row Reason
param_row_of version fields =
    if length fields == 5 then param_file_row version (field_of fields 0) (field_of fields 1) (field_of fields 2) (field_of fields 3) (field_of fields 4)
    else Err reason.Shape

-- the numbers of a row lie in their ranges
abbrev pub IsProperParamRow : Row → Type 0
IsProperParamRow row.Version = ⊤
IsProperParamRow (row.Param n v) = InRange n v
IsProperParamRow (row.Node node) = IsProperNode node
IsProperParamRow (row.Slot slot) = IsProperSlot slot
