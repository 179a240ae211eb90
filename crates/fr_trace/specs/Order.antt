-- Which row may come next in a trace, after the records so far: first that of the number of double cycles, then the
-- arbitrary nodes and those that join, each in ascending order, then for each cycle the nodes that take part in it, each with
-- its row and the deviations that it measured.
use Rattle.std.specs.Prelude.{ℕ, ◌+◌, ◌*◌, Bool, true, false, not, nat_le, nat_lt, ◌==◌, ◌&&◌, ◌||◌, List, [], find, Option, Some, None, is_none, is_some, if◌then◌else◌}
use Rattle.std.specs.Option.{option_map, option_map_or}
use Rattle.fr_base.specs.Rows.{channel_rank}
use Rattle.fr_base.specs.declared.channel.Channel.{Channel}
use Rattle.fr_base.specs.declared.node_row.NodeRow.{NodeRow}
use Rattle.fr_cluster.specs.Values.{Values}
use Rattle.fr_cluster.specs.declared.join.Join.{Join}
use Rattle.fr_cluster.specs.declared.nodes.NodeSpec.{NodeSpec}
use Rattle.fr_history.specs.History.{row_of}
use Rattle.fr_text.specs.Records.{FileRecord}
use Rattle.fr_trace.specs.Joins.{first_cycle, is_among, join_among, latest_rows}
use Rattle.fr_trace.specs.Said.{history_said, joins_at, last_row_at, named_at, record_said, traced_doubles_at}
use Rattle.fr_trace.specs.declared.order.Turn.{Turn}
use Rattle.fr_trace.specs.declared.rows.HeardRow.{HeardRow}
use Rattle.fr_trace.specs.declared.rows.Row.{Row}
use Rattle.fr_trace.specs.declared.rows.Row.TheVariants as row
use Rattle.fr_trace.specs.declared.trace.TracedJoin.{TracedJoin}

-- ---- the nodes that take part in a cycle, by the rows of the cycle before

-- whether a correct node stays: one that joins does where it took part before
abbrev pub stays_by : Option Join → ℕ → List NodeRow → ℕ → Bool
stays_by None cycle before node = true
stays_by (Some join) cycle before node = nat_lt (first_cycle join) cycle && is_some (row_of before node)

-- whether it may begin
abbrev pub begins_by : Option Join → ℕ → Bool
begins_by None cycle = false
begins_by (Some join) cycle = cycle == first_cycle join

-- whether a node must have a row in a cycle, and whether it may
abbrev pub must_stand : List ℕ → List TracedJoin → ℕ → List NodeRow → ℕ → Bool
must_stand named joins cycle before node = not (is_among named node) && stays_by (join_among joins node) cycle before node

abbrev pub may_stand : List ℕ → List TracedJoin → ℕ → List NodeRow → ℕ → Bool
may_stand named joins cycle before node =
    not (is_among named node) && (begins_by (join_among joins node) cycle || stays_by (join_among joins node) cycle before node)

-- the next node behind one that must have a row
abbrev pub is_due_after : List ℕ → List TracedJoin → ℕ → List NodeRow → ℕ → NodeSpec → Bool
is_due_after named joins cycle before node spec = nat_lt node spec.id && must_stand named joins cycle before spec.id

abbrev pub next_due_in : List NodeSpec → List ℕ → List TracedJoin → ℕ → List NodeRow → ℕ → Option ℕ
next_due_in nodes named joins cycle before node = option_map (λ spec. spec.id) (find (is_due_after named joins cycle before node) nodes)

abbrev pub next_due : Values → List ℕ → List TracedJoin → ℕ → List NodeRow → ℕ → Option ℕ
next_due p named joins cycle before node = next_due_in p.nodes named joins cycle before node

-- whether a node stands before another or is this one, where there is one
abbrev pub is_up_to : ℕ → Option ℕ → Bool
is_up_to node found = option_map_or (λ other. nat_le node other) found true

-- whether the row of a node may come in a cycle behind that of another: it may have one, and none is left out that must
abbrev pub may_stand_after : Values → List ℕ → List TracedJoin → ℕ → List NodeRow → ℕ → ℕ → Bool
may_stand_after p named joins cycle before other node =
    nat_lt other node && may_stand named joins cycle before node && is_up_to node (next_due p named joins cycle before other)

-- ---- the next row

-- the row of a node in a cycle may come behind the rows of another in the same cycle, or in the next one while there is one,
-- where no further row must come; no node has the number 0
abbrev pub may_turn : Values → ℕ → List ℕ → List TracedJoin → List NodeRow → List NodeRow → ℕ → ℕ → ℕ → ℕ → Bool
may_turn p doubles named joins before here cycle other next node =
    if next == cycle then may_stand_after p named joins cycle before other node
    else
    (next == cycle + 1) && nat_lt next (2 * doubles) && is_none (next_due p named joins cycle before other)
    && may_stand_after p named joins next here 0 node

-- the row of a node as the first of all cycles
abbrev pub may_open : Values → List ℕ → List TracedJoin → ℕ → ℕ → Bool
may_open p named joins cycle node = (cycle == 0) && may_stand_after p named joins 0 [] 0 node

-- behind the number of double cycles or an arbitrary node: an arbitrary node above the last one comes, or a node that joins,
-- or the first cycle
abbrev pub may_begin : Values → List ℕ → List TracedJoin → ℕ → Row → Bool
may_begin p named joins above (row.Run n) = false
may_begin p named joins above (row.Arbitrary node) = nat_lt above node
may_begin p named joins above (row.Join j) = true
may_begin p named joins above (row.Clock cycle clock) = may_open p named joins cycle clock.node
may_begin p named joins above (row.Heard heard) = false

-- behind a node that joins: one above it comes, or the first cycle
abbrev pub may_join : Values → List ℕ → List TracedJoin → ℕ → Row → Bool
may_join p named joins above (row.Run n) = false
may_join p named joins above (row.Arbitrary node) = false
may_join p named joins above (row.Join j) = nat_lt above j.node
may_join p named joins above (row.Clock cycle clock) = may_open p named joins cycle clock.node
may_join p named joins above (row.Heard heard) = false

-- the rank of a channel: one that is none is not asked for it
abbrev pub rank_of : Option Channel → ℕ
rank_of channel = option_map_or channel_rank channel 0

-- a deviation comes behind a place of its node: by slot, and then by channel
abbrev pub stands_after : Turn → HeardRow → Bool
stands_after turn heard = nat_lt turn.slot heard.slot || ((turn.slot == heard.slot) && nat_lt turn.rank (rank_of heard.channel))

-- behind a place in a cycle: a further deviation of its node, or the next row
abbrev pub may_go_on : Values → ℕ → List ℕ → List TracedJoin → List NodeRow → List NodeRow → ℕ → Turn → Row → Bool
may_go_on p doubles named joins before here cycle turn (row.Run n) = false
may_go_on p doubles named joins before here cycle turn (row.Arbitrary other) = false
may_go_on p doubles named joins before here cycle turn (row.Join j) = false
may_go_on p doubles named joins before here cycle turn (row.Clock next clock) = may_turn p doubles named joins before here cycle turn.node next clock.node
may_go_on p doubles named joins before here cycle turn (row.Heard heard) = (heard.cycle == cycle) && (heard.receiver == turn.node) && stands_after turn heard

-- the place of a node's row, and that of a deviation
abbrev pub clock_turn : NodeRow → Turn
clock_turn clock = record { node = clock.node; slot = 0; rank = 0 }

abbrev pub heard_turn : HeardRow → Turn
heard_turn heard = record { node = heard.receiver; slot = heard.slot; rank = rank_of heard.channel }

-- the first row is that of the number of double cycles
abbrev pub is_run : Row → Bool
is_run (row.Run n) = true
is_run (row.Arbitrary node) = false
is_run (row.Join j) = false
is_run (row.Clock cycle clock) = false
is_run (row.Heard heard) = false

-- whether a row may come behind the last one, by the rows of the cycle before and of the one that is under way
abbrev pub may_come_next : Values → ℕ → List ℕ → List TracedJoin → List NodeRow → List NodeRow → Option Row → Row → Bool
may_come_next p doubles named joins before here None next = is_run next
may_come_next p doubles named joins before here (Some (row.Run n)) next = may_begin p named joins 0 next
may_come_next p doubles named joins before here (Some (row.Arbitrary other)) next = may_begin p named joins other next
may_come_next p doubles named joins before here (Some (row.Join other)) next = may_join p named joins other.node next
may_come_next p doubles named joins before here (Some (row.Clock cycle clock)) next = may_go_on p doubles named joins before here cycle (clock_turn clock) next
may_come_next p doubles named joins before here (Some (row.Heard heard)) next = may_go_on p doubles named joins before here heard.cycle (heard_turn heard) next

-- ---- after the records so far

-- the number of double cycles, 0 where none is said
abbrev pub doubles_or_0 : Option ℕ → ℕ
doubles_or_0 doubles = option_map_or (λ n. n) doubles 0

-- the cycle of the last row, the first one before any
abbrev pub cycle_of : Option Row → ℕ
cycle_of None = 0
cycle_of (Some (row.Run n)) = 0
cycle_of (Some (row.Arbitrary node)) = 0
cycle_of (Some (row.Join j)) = 0
cycle_of (Some (row.Clock cycle clock)) = cycle
cycle_of (Some (row.Heard heard)) = heard.cycle

-- the rows of this cycle, and those of the cycle before
abbrev pub here_at : List FileRecord → List NodeRow
here_at records = (record_said records (cycle_of (last_row_at records))).rows

abbrev pub before_at : List FileRecord → List NodeRow
before_at records = latest_rows (history_said records (cycle_of (last_row_at records)))

-- whether a row may come next
abbrev pub may_come : Values → List FileRecord → Row → Bool
may_come p done next = may_come_next p (doubles_or_0 (traced_doubles_at done)) (named_at done) (joins_at done) (before_at done) (here_at done) (last_row_at done) next

-- whether no further row must come: the last one is in the last cycle, and no node behind it must have one; or none is in a
-- cycle, and no node must have one in the first
abbrev pub ends_at : Values → ℕ → List ℕ → List TracedJoin → List NodeRow → ℕ → ℕ → Bool
ends_at p doubles named joins before cycle node = (cycle + 1 == 2 * doubles) && is_none (next_due p named joins cycle before node)

abbrev pub ends_with : Values → ℕ → List ℕ → List TracedJoin → List NodeRow → Option Row → Bool
ends_with p doubles named joins before None = false
ends_with p doubles named joins before (Some (row.Run n)) = is_none (next_due p named joins 0 [] 0)
ends_with p doubles named joins before (Some (row.Arbitrary node)) = is_none (next_due p named joins 0 [] 0)
ends_with p doubles named joins before (Some (row.Join j)) = is_none (next_due p named joins 0 [] 0)
ends_with p doubles named joins before (Some (row.Clock cycle clock)) = ends_at p doubles named joins before cycle clock.node
ends_with p doubles named joins before (Some (row.Heard heard)) = ends_at p doubles named joins before heard.cycle heard.receiver
