-- Why a record of a trace is refused after the records before it.
use Rattle.std.specs.Prelude.{ℕ, Bool, false, not, ◌==◌, ◌&&◌, ◌||◌, List, Option, Some, None, is_none, is_some, Result, Ok, Err, if◌then◌else◌}
use Rattle.std.specs.List.{list_any}
use Rattle.std.specs.Option.{option_map, option_map_or}
use Rattle.fr_base.specs.declared.channel.Channel.{Channel}
use Rattle.fr_base.specs.declared.channel.Channel.TheVariants as channel
use Rattle.fr_base.specs.declared.node_row.NodeRow.{NodeRow}
use Rattle.fr_base.specs.declared.reason.Reason.{Reason}
use Rattle.fr_base.specs.declared.reason.Reason.TheVariants as reason
use Rattle.fr_base.specs.Within.{lies_within}
use Rattle.fr_cluster.specs.Questions.{is_common, is_known, own_key}
use Rattle.fr_cluster.specs.Searches.{key_node_in}
use Rattle.fr_cluster.specs.Values.{Values}
use Rattle.fr_text.specs.Records.{FileRecord}
use Rattle.fr_trace.specs.Joins.{is_among, join_among}
use Rattle.fr_trace.specs.Order.{may_come}
use Rattle.fr_trace.specs.Rows.{trace_row_of}
use Rattle.fr_trace.specs.Said.{joins_at, named_at}
use Rattle.fr_trace.specs.declared.rows.HeardRow.{HeardRow}
use Rattle.fr_trace.specs.declared.rows.Row.{Row}
use Rattle.fr_trace.specs.declared.rows.Row.TheVariants as row
use Rattle.fr_trace.specs.declared.trace.TracedJoin.{TracedJoin}

-- whether a term of a node's cycle lies outside its limit
abbrev pub is_beyond : Values → NodeRow → Bool
is_beyond p clock = not (lies_within p.rate_limit clock.rate) || not (lies_within p.offset_limit clock.offset)

-- the node whose key slot a slot is
abbrev pub key_sender_of : Values → ℕ → Option ℕ
key_sender_of p slot = option_map (λ spec. spec.id) (key_node_in p.nodes slot)

-- whether a slot is the key slot of another node
abbrev pub is_of_other : Values → HeardRow → Bool
is_of_other p heard = option_map_or (λ sender. not (sender == heard.receiver)) (key_sender_of p heard.slot) false

-- whether its node and the receiver have a channel in common
abbrev pub is_linked : Values → HeardRow → Channel → Bool
is_linked p heard ch = option_map_or (λ sender. is_common p sender heard.receiver ch) (key_sender_of p heard.slot) false

-- the least reason for which a row that may come next, or not, is not taken
abbrev pub arbitrary_reason : Values → ℕ → Bool → Option Reason
arbitrary_reason p node comes =
    if not (is_known p node) then Some reason.UnknownNode
    else if is_none (own_key p node) || not comes then Some reason.Role
    else None

-- whether a node cannot join so, behind those that do: it is its own reference, either is arbitrary, the reference has no key
-- slot or joins itself, or the node is the reference of another
abbrev pub joins_wrongly : Values → List ℕ → List TracedJoin → TracedJoin → Bool
joins_wrongly p named joins j =
    (j.join.reference == j.node)
    || is_among named j.node
    || is_among named j.join.reference
    || is_none (own_key p j.join.reference)
    || is_some (join_among joins j.join.reference)
    || list_any (λ other. other.join.reference == j.node) joins

-- whether the cluster has the node and its reference, and whether they have a channel in common
abbrev pub knows_node_and_reference : Values → TracedJoin → Bool
knows_node_and_reference p j = is_known p j.node && is_known p j.join.reference

abbrev pub have_common : Values → TracedJoin → Bool
have_common p j = is_common p j.node j.join.reference channel.A || is_common p j.node j.join.reference channel.B

abbrev pub traced_join_reason : Values → List ℕ → List TracedJoin → TracedJoin → Bool → Option Reason
traced_join_reason p named joins j comes =
    if not (knows_node_and_reference p j) then Some reason.UnknownNode
    else if joins_wrongly p named joins j || not comes then Some reason.Role
    else if not (have_common p j) then Some reason.Link
    else None

abbrev pub clock_reason : Values → NodeRow → Bool → Option Reason
clock_reason p clock comes =
    if is_beyond p clock then Some reason.OutOfRange
    else if not (is_known p clock.node) then Some reason.UnknownNode
    else if not comes then Some reason.Role
    else None

-- that of a deviation of a known receiver, by its channel
abbrev pub traced_channel_reason : Values → HeardRow → Bool → Option Channel → Option Reason
traced_channel_reason p heard comes None = Some reason.BadChannel
traced_channel_reason p heard comes (Some ch) =
    if not (is_of_other p heard) || not comes then Some reason.Role
    else if not (is_linked p heard ch) then Some reason.Link
    else None

abbrev pub heard_reason : Values → HeardRow → Bool → Option Reason
heard_reason p heard comes = if not (is_known p heard.receiver) then Some reason.UnknownNode else traced_channel_reason p heard comes heard.channel

abbrev pub row_reason : Values → List ℕ → List TracedJoin → Row → Bool → Option Reason
row_reason p named joins (row.Run n) comes = if not comes then Some reason.Role else None
row_reason p named joins (row.Arbitrary node) comes = arbitrary_reason p node comes
row_reason p named joins (row.Join j) comes = traced_join_reason p named joins j comes
row_reason p named joins (row.Clock cycle clock) comes = clock_reason p clock comes
row_reason p named joins (row.Heard heard) comes = heard_reason p heard comes

-- the least reason after these records, of what a record says or shows by itself
abbrev pub trace_row_reason : Values → List FileRecord → Result Row Reason → Option Reason
trace_row_reason p before (Err why) = Some why
trace_row_reason p before (Ok said) = row_reason p (named_at before) (joins_at before) said (may_come p before said)

-- why a record is refused after the records before it, if it is
abbrev pub trace_reason_after : Values → List FileRecord → FileRecord → Option Reason
trace_reason_after p before r = trace_row_reason p before (trace_row_of r)
