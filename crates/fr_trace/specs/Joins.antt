-- Which nodes have a row in a cycle of a trace: each that is correct, and one that joins the running cluster from the cycle on
-- in which it may take part, or never.
use Rattle.std.specs.Prelude.{ℕ, ◌+◌, ◌*◌, Bool, true, not, nat_lt, ◌==◌, ◌&&◌, List, [], ◌∷◌, length, find, Option, Some, None, is_some, if◌then◌else◌}
use Rattle.std.specs.List.{list_any}
use Rattle.std.specs.Option.{option_map}
use Rattle.fr_base.specs.declared.node_row.NodeRow.{NodeRow}
use Rattle.fr_cluster.specs.declared.join.Join.{Join}
use Rattle.fr_history.specs.History.{History, Record, row_of}
use Rattle.fr_trace.specs.declared.trace.TracedJoin.{TracedJoin}

-- whether a node is among those that are named
abbrev pub is_among : List ℕ → ℕ → Bool
is_among named node = list_any (λ other. other == node) named

-- how a node joins, if it does
abbrev pub join_among : List TracedJoin → ℕ → Option Join
join_among joins node = option_map (λ j. j.join) (find (λ j. j.node == node) joins)

-- the cycle in which a node that joins may take part for the first time: it listens for one double cycle and follows for two
abbrev pub first_cycle : Join → ℕ
first_cycle join = 2 * join.double + 6

-- the rows of the last cycle of a history
abbrev pub latest_rows : History → List NodeRow
latest_rows [] = []
latest_rows (r ∷ h) = r.rows

-- whether a correct node has a row in the record behind a history: one that joins begins there or never, and stays
abbrev pub stands_in : Option Join → History → Record → ℕ → Bool
stands_in None h r node = true
stands_in (Some join) h r node =
    if length h == first_cycle join then is_some (row_of r.rows node)
    else nat_lt (first_cycle join) (length h) && is_some (row_of (latest_rows h) node)

-- the same of any node, by those that are named arbitrary and those that join
abbrev pub has_traced_row : List ℕ → List TracedJoin → History → Record → ℕ → Bool
has_traced_row named joins h r node = not (is_among named node) && stands_in (join_among joins node) h r node
