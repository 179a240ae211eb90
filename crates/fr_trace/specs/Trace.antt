-- A recorded trace as contracts see it.
use Rattle.std.specs.Prelude.{ℕ, Bool, List, Option, [], option_and_then}
use Rattle.std.specs.Option.{option_map_or}
use Rattle.fr_base.specs.declared.node_row.NodeRow.{NodeRow}
use Rattle.fr_cluster.specs.declared.join.Join.{Join}
use Rattle.fr_history.specs.History.{History, Record, record_at, row_of}
use Rattle.fr_trace.specs.Joins.{has_traced_row, is_among, join_among}
use Rattle.fr_trace.specs.declared.trace.TracedJoin.{TracedJoin}

-- The number of double cycles, the arbitrary nodes and those that join, each in ascending order, and the recorded cycles, the
-- latest first. A trace records no counts and no cuts: its records count nothing, and its rows tell no cut.
pub record TraceView : Type 0 where
  pub doubles : ℕ
  pub arbitrary : List ℕ
  pub joins : List TracedJoin
  pub history : History

-- whether a trace names a node arbitrary
abbrev pub is_named : TraceView → ℕ → Bool
is_named t node = is_among t.arbitrary node

-- how a node joins the running cluster, if a trace says so
abbrev pub traced_join_in : TraceView → ℕ → Option Join
traced_join_in t node = join_among t.joins node

-- whether a node has a row in the record behind a history
abbrev pub has_row_in : TraceView → History → Record → ℕ → Bool
has_row_in t h r node = has_traced_row t.arbitrary t.joins h r node

-- the row of a node in a cycle, if it is recorded
unfoldable pub row_at : History → ℕ → ℕ → Option NodeRow
row_at h cycle node = option_and_then (λ r. row_of r.rows node) (record_at h cycle)

-- the rows of a cycle
unfoldable pub rows_at : History → ℕ → List NodeRow
rows_at h cycle = option_map_or (λ r. r.rows) (record_at h cycle) []
