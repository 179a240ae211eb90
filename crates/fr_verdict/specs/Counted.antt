-- How many sync nodes a trace names arbitrary, and how many take part from the first cycle on.
use Rattle.std.specs.Prelude.{ℕ, ◌&&◌, Bool, List, count_by, is_some, if◌then◌else◌}
use Rattle.fr_cluster.specs.declared.nodes.NodeSpec.{NodeSpec}
use Rattle.fr_trace.specs.Trace.{TraceView, is_named}
use Rattle.fr_verdict.specs.Gaps.{is_lasting}

abbrev pub is_of_kind : TraceView → Bool → ℕ → Bool
is_of_kind t named node = if named then is_named t node else is_lasting t node

abbrev pub is_counted_in_trace : TraceView → Bool → NodeSpec → Bool
is_counted_in_trace t named node = is_some node.key && is_of_kind t named node.id

abbrev pub count_in : TraceView → Bool → List NodeSpec → ℕ
count_in t named nodes = count_by (is_counted_in_trace t named) nodes
