-- What is told of the nodes after the last cycle.
use Rattle.std.specs.Prelude.{◌≡◌, ℕ, ℤ, pos, List, [], ◌∷◌, map, Option, Some, None, length, if◌then◌else◌}
use Rattle.fr_base.specs.declared.node_row.NodeRow.{NodeRow}
use Rattle.fr_base.specs.declared.state.State.{State}
use Rattle.fr_cluster.specs.declared.nodes.NodeSpec.{NodeSpec}
use Rattle.fr_time.specs.Cycles.{is_odd}
use Rattle.fr_history.specs.History.{History, row_of}
use Rattle.fr_cluster.specs.Setting.{Setting}
use Rattle.fr_history.specs.Terms.{status_in}
use Rattle.fr_history.specs.Cycles.{Cycles, told_of}
use Rattle.fr_history.specs.Laws.{rate_of_next, start_of_next}
use Rattle.fr_history.specs.Standing.{kept_row_nodes}
use Rattle.fr_lines.specs.declared.clocks.Clock.{Clock}

-- the offset term of a row; 0 where there is none
abbrev pub offset_by : Option NodeRow → ℤ
offset_by None = pos 0
offset_by (Some row) = row.offset

-- the offset term of a node in the last odd cycle, in microticks; 0 where there was none
unfoldable pub last_offset_of : History → ℕ → ℤ
last_offset_of [] node = pos 0
last_offset_of (r ∷ h) node = if is_odd (length h) then offset_by (row_of r.rows node) else last_offset_of h node

-- a node behind some cycles: the state, the start and the rate term that hold for the next one
abbrev pub clock_of_next : Setting → Cycles → NodeSpec → Clock
clock_of_next x h node = record {
  node = node.id;
  state = (status_in x.params (told_of h) node.id).state;
  start = start_of_next x h node.id;
  rate = rate_of_next x h node.id;
  offset = last_offset_of (told_of h) node.id;
}

-- the clocks behind some cycles are these: of the nodes that had a row in the last one
abbrev pub AreClocksBehind : Setting → Cycles → List Clock → Type 0
AreClocksBehind x h clocks = clocks ≡ map (clock_of_next x h) (kept_row_nodes x h)

-- a node by its state, its start and its rate term, and the rows of the last odd cycle, which have its offset term
abbrev pub clock_behind : List NodeRow → ℕ → State → ℤ → ℤ → Clock
clock_behind odd node state start rate = record {
  node = node;
  state = state;
  start = start;
  rate = rate;
  offset = offset_by (row_of odd node);
}
