-- Why a record of a parameter file is refused after the records before it: what the earlier records say
-- is looked up in their list.
use Rattle.std.specs.Prelude.{ℕ, ℤ, Bool, true, false, not, ◌==◌, List, [], ◌∷◌, Option, Some, None, is_some, is_none, Result, Ok, Err, if◌then◌else◌}
use Rattle.fr_text.specs.Fields.{looked_up}
use Rattle.fr_cluster.specs.Ranges.{has_turn, is_keyless_starter}
use Rattle.fr_base.specs.declared.reason.Reason.{Reason}
use Rattle.fr_base.specs.declared.reason.Reason.TheVariants as reason
use Rattle.fr_text.specs.Records.{FileRecord}
use Rattle.fr_params.specs.Names.{place}
use Rattle.fr_params.specs.Rows.{param_row_of}
use Rattle.fr_params.specs.Versions.{version_with}
use Rattle.fr_params.specs.declared.names.Version.{Version}
use Rattle.fr_cluster.specs.declared.nodes.NodeSpec.{NodeSpec}
use Rattle.fr_cluster.specs.declared.nodes.SlotSpec.{SlotSpec}
use Rattle.fr_params.specs.declared.rows.Row.{Row}
use Rattle.fr_params.specs.declared.rows.Row.TheVariants as row

-- the value of the parameter at a place of the table, if a row says it
abbrev pub value_said : ℕ → Result Row Reason → Option ℤ
value_said k (Ok (row.Param n v)) = if place n == k then Some v else None
value_said k (Ok (row.Node node)) = None
value_said k (Ok (row.Slot slot)) = None
value_said k (Ok row.Version) = None
value_said k (Err why) = None

-- the node of a number, if a row says it
abbrev pub node_said : ℕ → Result Row Reason → Option NodeSpec
node_said k (Ok (row.Param n v)) = None
node_said k (Ok (row.Node node)) = if node.id == k then Some node else None
node_said k (Ok (row.Slot slot)) = None
node_said k (Ok row.Version) = None
node_said k (Err why) = None

-- the further slot of a number, if a row says it
abbrev pub slot_said : ℕ → Result Row Reason → Option SlotSpec
slot_said k (Ok (row.Param n v)) = None
slot_said k (Ok (row.Node node)) = None
slot_said k (Ok (row.Slot slot)) = if slot.slot == k then Some slot else None
slot_said k (Ok row.Version) = None
slot_said k (Err why) = None

-- what the records of a file of a version say of a place among all names, of a node's number, of a slot
abbrev pub value_at : Version → ℕ → List FileRecord → Option ℤ
value_at version k records = looked_up (λ r. value_said k (param_row_of version r)) records

abbrev pub node_at : Version → ℕ → List FileRecord → Option NodeSpec
node_at version k records = looked_up (λ r. node_said k (param_row_of version r)) records

abbrev pub slot_at : Version → ℕ → List FileRecord → Option SlotSpec
slot_at version k records = looked_up (λ r. slot_said k (param_row_of version r)) records

-- whether a record after these is not the first of its file
abbrev pub is_not_first : List FileRecord → Bool
is_not_first [] = false
is_not_first (first ∷ rest) = true

-- the least reason after these records of a file of a version, of what a record says or shows by itself
abbrev pub param_row_reason : Version → List FileRecord → Result Row Reason → Option Reason
param_row_reason version records (Err why) = Some why
param_row_reason version records (Ok row.Version) = if is_not_first records then Some reason.Role else None
param_row_reason version records (Ok (row.Param n v)) = if is_some (value_at version (place n) records) then Some reason.Repeated else None
param_row_reason version records (Ok (row.Node node)) =
    if is_keyless_starter node then Some reason.Role
    else if is_some (node_at version node.id records) then Some reason.Repeated
    else None
param_row_reason version records (Ok (row.Slot slot)) =
    if is_none (node_at version slot.node records) then Some reason.UnknownNode
    else if not (has_turn slot) then Some reason.Role
    else if is_some (slot_at version slot.slot records) then Some reason.Repeated
    else None

-- why a record is refused after the records before it, if it is: the first of them all says the version of the file
abbrev pub param_reason_after : List FileRecord → FileRecord → Option Reason
param_reason_after records r = param_row_reason (version_with records r) records (param_row_of (version_with records r) r)
