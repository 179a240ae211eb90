-- Nodes between cycles, in the midst of one, and at its end.
use Rattle.std.specs.Prelude.{◌≡◌, ℕ, ◌<◌, ◌≤◌, false, List, length, map, All, AllPairs, IsNone, IsSome}
use Rattle.fr_base.specs.declared.node_row.NodeRow.{NodeRow}
use Rattle.fr_drift.specs.Questions.{length_of}
use Rattle.fr_node.specs.Cycle.{ended, ended_row_of_node, in_cycle}
use Rattle.fr_node.specs.Fits.{NodeFits}
use Rattle.fr_node.specs.View.{NodeView}
use Rattle.fr_script.specs.View.{is_arbitrary}
use Rattle.fr_time.specs.Placed.{IsPlacedRow}
use Rattle.fr_time.specs.Position.{grid_for}
use Rattle.fr_air.specs.declared.files.RunInputs.{RunInputs}

-- a node of these files before this cycle of the run
pub record IsWaiting (f : RunInputs) (cycle : ℕ) (node : NodeView) : Type 0 where
  pub in_run : cycle < 200_000
  pub fits : NodeFits f.params node
  pub between : IsNone node.length
  pub correct : is_arbitrary f.script node.id ≡ false
  pub in_cycle : node.cycle ≡ cycle

-- a node with this cycle begun
abbrev pub begun_in : RunInputs → ℕ → NodeView → NodeView
begun_in f cycle node = in_cycle node (length_of f.drift node.id cycle)

-- a node of these files whose cycle is under way
pub record IsReady (f : RunInputs) (cycle : ℕ) (node : NodeView) : Type 0 where
  pub fits : NodeFits f.params node
  pub under_way : IsSome node.length
  pub correct : is_arbitrary f.script node.id ≡ false
  pub in_cycle : node.cycle ≡ cycle

-- nodes in ascending order
abbrev pub NodesAscend : List NodeView → Type 0
NodesAscend nodes = AllPairs (λ a b. a.id < b.id) nodes

-- nodes of these files in ascending order, at most as many as a cluster has
pub record AreListable (nodes : List NodeView) : Type 0 where
  pub ascending : NodesAscend nodes
  pub few : length nodes ≤ 64

-- nodes after the end of their cycle, and their rows of it
pub record HaveEnded (f : RunInputs) (before after : List NodeView) (rows : List NodeRow) : Type 0 where
  pub nodes_are : after ≡ map (ended f.params) before
  pub fit : All (NodeFits f.params) after
  pub rows_are : rows ≡ map (ended_row_of_node f.params) before
  pub placed : All (IsPlacedRow (grid_for f.params)) rows

-- a node, and nodes, whose cycle has begun
pub record HasBegun (f : RunInputs) (cycle : ℕ) (before after : NodeView) : Type 0 where
  pub node_is : after ≡ begun_in f cycle before
  pub ready : IsReady f cycle after

pub record HaveBegun (f : RunInputs) (cycle : ℕ) (before after : List NodeView) : Type 0 where
  pub nodes_are : after ≡ map (begun_in f cycle) before
  pub ready : All (IsReady f cycle) after
