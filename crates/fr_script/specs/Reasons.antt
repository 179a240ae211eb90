-- Why a record of a script is refused after the records before it: what the earlier records say is looked up
-- in their list.
use Rattle.std.specs.Prelude.{ℕ, Bool, true, false, not, ◌==◌, ◌&&◌, ◌||◌, List, Option, Some, None, is_some, is_none, Result, Ok, Err, if◌then◌else◌}
use Rattle.std.specs.List.{list_any}
use Rattle.fr_base.specs.declared.channel.Channel.{Channel}
use Rattle.fr_base.specs.declared.channel.Channel.TheVariants as channel
use Rattle.fr_base.specs.declared.reason.Reason.{Reason}
use Rattle.fr_base.specs.declared.reason.Reason.TheVariants as reason
use Rattle.fr_text.specs.Records.{FileRecord}
use Rattle.fr_cluster.specs.Values.{Values}
use Rattle.fr_cluster.specs.declared.join.Join.{Join}
use Rattle.fr_cluster.specs.Questions.{is_common, node_of, own_key}
use Rattle.fr_text.specs.Fields.{is_channel, looked_up}
use Rattle.fr_script.specs.Deed.{is_after_frame, is_say}
use Rattle.fr_script.specs.Rows.{script_row_of}
use Rattle.fr_script.specs.declared.deeds.Passage.{Passage}
use Rattle.fr_script.specs.declared.deed.Deed.{Deed}
use Rattle.fr_script.specs.declared.rows.DeedRow.{DeedRow}
use Rattle.fr_script.specs.declared.rows.JoinRow.{JoinRow}
use Rattle.fr_script.specs.declared.rows.Row.{Row}
use Rattle.fr_script.specs.declared.rows.Row.TheVariants as row

-- whether a row names a node arbitrary
abbrev pub names : ℕ → Result Row Reason → Bool
names node (Ok (row.Arbitrary other)) = other == node
names node (Ok (row.Deed d)) = false
names node (Ok (row.Join j)) = false
names node (Err why) = false

-- whether a row is of another kind
abbrev pub is_deed_or_join : Result Row Reason → Bool
is_deed_or_join (Ok (row.Arbitrary node)) = false
is_deed_or_join (Ok (row.Deed d)) = true
is_deed_or_join (Ok (row.Join j)) = true
is_deed_or_join (Err why) = false

abbrev pub is_same_passage : Passage → Passage → Bool
is_same_passage a b = (a.sender == b.sender) && (a.receiver == b.receiver) && (a.cycle == b.cycle)

-- the deed of a passage on a channel, if a row says it
abbrev pub deed_said : Channel → Passage → Result Row Reason → Option Deed
deed_said ch passage (Ok (row.Arbitrary node)) = None
deed_said ch passage (Ok (row.Deed d)) = if is_channel ch d.channel && is_same_passage d.passage passage then d.deed else None
deed_said ch passage (Ok (row.Join j)) = None
deed_said ch passage (Err why) = None

-- how a node joins, if a row says it, and whether a row gives it as the reference of one that joins
abbrev pub join_said : ℕ → Result Row Reason → Option Join
join_said node (Ok (row.Arbitrary other)) = None
join_said node (Ok (row.Deed d)) = None
join_said node (Ok (row.Join j)) = if j.node == node then Some j.join else None
join_said node (Err why) = None

abbrev pub refers : ℕ → Result Row Reason → Bool
refers node (Ok (row.Arbitrary other)) = false
refers node (Ok (row.Deed d)) = false
refers node (Ok (row.Join j)) = j.join.reference == node
refers node (Err why) = false

-- whether the records name a node arbitrary, and whether one is of another kind
abbrev pub is_named_in : ℕ → List FileRecord → Bool
is_named_in node records = list_any (λ r. names node (script_row_of r)) records

abbrev pub has_acted : List FileRecord → Bool
has_acted records = list_any (λ r. is_deed_or_join (script_row_of r)) records

-- how a node joins the running cluster, as the records say
abbrev pub join_by : ℕ → List FileRecord → Option Join
join_by node records = looked_up (λ r. join_said node (script_row_of r)) records

-- and whether they give it as the reference of one that joins
abbrev pub is_reference : ℕ → List FileRecord → Bool
is_reference node records = list_any (λ r. refers node (script_row_of r)) records

-- the deed of a passage on a channel that the records say
abbrev pub deed_by : Channel → Passage → List FileRecord → Option Deed
deed_by ch passage records = looked_up (λ r. deed_said ch passage (script_row_of r)) records

-- a `say` row is of an arbitrary sender, and any other row of a correct one; the receiver is another node, and correct
abbrev pub is_misplaced : List FileRecord → Passage → Bool → Bool
is_misplaced records passage says =
    (passage.sender == passage.receiver)
    || is_named_in passage.receiver records
    || (if says then not (is_named_in passage.sender records) else is_named_in passage.sender records)

-- whether the cluster has both nodes of a passage
abbrev pub knows_both : Values → Passage → Bool
knows_both p passage = is_some (node_of p passage.sender) && is_some (node_of p passage.receiver)

-- the least reason after these records for which a node is not named
abbrev pub node_reason : Values → List FileRecord → ℕ → Option Reason
node_reason p records node =
    if is_none (node_of p node) then Some reason.UnknownNode
    else if is_none (own_key p node) || has_acted records then Some reason.Role
    else if is_named_in node records then Some reason.Repeated
    else None

-- and for which a deed is not taken
abbrev pub channel_reason : Values → List FileRecord → Passage → Option Deed → Option Channel → Option Reason
channel_reason p records passage what None = Some reason.BadChannel
channel_reason p records passage what (Some ch) =
    if is_misplaced records passage (is_say what) then Some reason.Role
    else if not (is_common p passage.sender passage.receiver ch) then Some reason.Link
    else if is_none what then Some reason.NotHex
    else if is_some (deed_by ch passage records) then Some reason.Repeated
    else None

abbrev pub deed_reason : Values → List FileRecord → DeedRow → Option Reason
deed_reason p records d =
    if is_after_frame p d.deed then Some reason.OutOfRange
    else if not (knows_both p d.passage) then Some reason.UnknownNode
    else channel_reason p records d.passage d.deed d.channel

-- whether the cluster has both nodes of a `join` row
abbrev pub knows_joining : Values → JoinRow → Bool
knows_joining p j = is_some (node_of p j.node) && is_some (node_of p j.join.reference)

-- a node joins another one; both are correct; the reference has a key slot and takes part from the first cycle on, so no node
-- joins that is a reference
abbrev pub may_not_join : Values → List FileRecord → JoinRow → Bool
may_not_join p records j =
    (j.node == j.join.reference)
    || is_named_in j.node records
    || is_named_in j.join.reference records
    || is_none (own_key p j.join.reference)
    || is_some (join_by j.join.reference records)
    || is_reference j.node records

-- whether both have a channel in common
abbrev pub share_channel : Values → JoinRow → Bool
share_channel p j = is_common p j.node j.join.reference channel.A || is_common p j.node j.join.reference channel.B

-- the least reason after these records for which a node does not join
abbrev pub join_reason : Values → List FileRecord → JoinRow → Option Reason
join_reason p records j =
    if not (knows_joining p j) then Some reason.UnknownNode
    else if may_not_join p records j then Some reason.Role
    else if not (share_channel p j) then Some reason.Link
    else if is_some (join_by j.node records) then Some reason.Repeated
    else None

-- the least reason after these records, of what a record says or shows by itself
abbrev pub script_row_reason : Values → List FileRecord → Result Row Reason → Option Reason
script_row_reason p records (Err why) = Some why
script_row_reason p records (Ok (row.Arbitrary node)) = node_reason p records node
script_row_reason p records (Ok (row.Deed d)) = deed_reason p records d
script_row_reason p records (Ok (row.Join j)) = join_reason p records j

-- why a record is refused after the records before it, if it is
abbrev pub script_reason_after : Values → List FileRecord → FileRecord → Option Reason
script_reason_after p records r = script_row_reason p records (script_row_of r)
