-- A trace as a text, line by line.
use Rattle.std.specs.Prelude.{ℕ, ◌==◌, Bool, List, [], ◌∷◌, ◌++◌, Option, Some, None, codes, map, filter, if◌then◌else◌}
use Rattle.std.specs.Fmt.{decimal, signed_decimal}
use Rattle.std.specs.List.{flat_map}
use Rattle.fr_base.specs.Channels.{letter}
use Rattle.fr_base.specs.States.{state_text}
use Rattle.fr_base.specs.declared.dev.Dev.{Dev}
use Rattle.fr_base.specs.declared.node_row.NodeRow.{NodeRow}
use Rattle.fr_cluster.specs.Setting.{Setting}
use Rattle.fr_cluster.specs.declared.join.Join.{Join}
use Rattle.fr_cluster.specs.declared.nodes.NodeSpec.{NodeSpec}
use Rattle.fr_history.specs.History.{History, Record}
use Rattle.fr_text.specs.Pieces.{line}
use Rattle.fr_trace.specs.Items.{Item, Line, items_by, items_in, line_of}
use Rattle.fr_trace.specs.Trace.{TraceView}
use Rattle.fr_trace.specs.declared.trace.TracedJoin.{TracedJoin}

-- the number of double cycles
abbrev pub doubles_text : ℕ → List ℕ
doubles_text doubles = codes "run," ++ decimal doubles ++ codes ",,,,,,"

-- an arbitrary node
abbrev pub arbitrary_text : ℕ → List ℕ
arbitrary_text node = codes "arbitrary," ++ decimal node ++ codes ",,,,,,"

-- a node that joins: the node and its reference, and the double cycle in which it listens
abbrev pub join_text : TracedJoin → List ℕ
join_text j =
    codes "join," ++ decimal j.node ++ codes "," ++ decimal j.join.reference ++ codes "," ++ decimal j.join.double ++ codes ",,,,"

-- a node's cycle: the cycle and the node, the start and the length of a microtick in ticks, both terms in microticks, the state
abbrev pub clock_text : ℕ → NodeRow → List ℕ
clock_text cycle row =
    codes "cycle," ++ decimal cycle ++ codes "," ++ decimal row.node ++ codes "," ++ signed_decimal row.start
    ++ codes "," ++ signed_decimal row.length ++ codes "," ++ signed_decimal row.rate
    ++ codes "," ++ signed_decimal row.offset ++ codes "," ++ state_text row.state

-- a deviation: the cycle and the receiver, then the key slot and the channel, how many microticks, and two empty fields
abbrev pub dev_front : ℕ → ℕ → List ℕ
dev_front cycle receiver = codes "dev," ++ decimal cycle ++ codes "," ++ decimal receiver

abbrev pub dev_after : List ℕ → Dev → List ℕ
dev_after front dev =
    front ++ codes "," ++ decimal dev.slot ++ codes "," ++ letter dev.channel ++ codes "," ++ signed_decimal dev.value ++ codes "," ++ codes ","

abbrev pub dev_text : ℕ → Dev → List ℕ
dev_text cycle dev = dev_after (dev_front cycle dev.receiver) dev

-- the line of an item
abbrev pub line_text : Line → List ℕ
line_text (Line.CycleLine cycle row) = line (clock_text cycle row)
line_text (Line.DevLine cycle dev) = line (dev_text cycle dev)

-- the lines of some items
unfoldable pub items_text : List Item → List ℕ
items_text items = flat_map (λ item. line_text (line_of item)) items

-- the lines before the cycles
unfoldable pub head_text : ℕ → List ℕ → List TracedJoin → List ℕ
head_text doubles arbitrary joins =
    line (doubles_text doubles) ++ (flat_map (λ node. line (arbitrary_text node)) arbitrary ++ flat_map (λ j. line (join_text j)) joins)

-- the lines of the record that follows a history
abbrev pub cycle_text : History → Record → List ℕ
cycle_text h r = items_text (items_by h r r.rows)

-- the text of a trace
unfoldable pub text_of : TraceView → List ℕ
text_of t = head_text t.doubles t.arbitrary t.joins ++ items_text (items_in t.history)

-- ---- the trace of a run

-- the nodes that are arbitrary in a run, in ascending order
abbrev pub arbitrary_in : Setting → List ℕ
arbitrary_in x = map (λ node. node.id) (filter (λ node. x.is_arbitrary node.id) x.params.nodes)

-- those that join the running cluster, in ascending order
abbrev pub joined_by : ℕ → Option Join → List TracedJoin
joined_by node None = []
joined_by node (Some join) = record { node = node; join = join } ∷ []

abbrev pub joining_in : Setting → List TracedJoin
joining_in x = flat_map (λ node. joined_by node.id (x.join node.id)) x.params.nodes

-- the trace of a history of a run
abbrev pub trace_in : Setting → History → TraceView
trace_in x h = record { doubles = x.doubles; arbitrary = arbitrary_in x; joins = joining_in x; history = h }

-- ---- by parts

-- the lines of those of some nodes that are arbitrary
abbrev pub named_text : (ℕ → Bool) → List NodeSpec → List ℕ
named_text is_arbitrary nodes = flat_map (λ node. if is_arbitrary node.id then line (arbitrary_text node.id) else []) nodes

-- of those that join
abbrev pub join_line : ℕ → Option Join → List ℕ
join_line node None = []
join_line node (Some join) = line (join_text (record { node = node; join = join }))

abbrev pub joins_text : (ℕ → Option Join) → List NodeSpec → List ℕ
joins_text join nodes = flat_map (λ node. join_line node.id (join node.id)) nodes

-- the lines of those of some deviations that a node measured
abbrev pub devs_text : ℕ → ℕ → List Dev → List ℕ
devs_text cycle node devs = flat_map (λ dev. if dev.receiver == node then line (dev_text cycle dev) else []) devs

-- the line of a row and those of its node's deviations, for each row
abbrev pub clock_rows_text : ℕ → List Dev → List NodeRow → List ℕ
clock_rows_text cycle devs rows = flat_map (λ row. line (clock_text cycle row) ++ devs_text cycle row.node devs) rows
