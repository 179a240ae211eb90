-- What contracts see of a world.
use Rattle.std.specs.Prelude.{◌≡◌, ℕ, ◌+◌, ◌*◌, ◌≤◌, Bool, true, false, not, ◌&&◌, ◌||◌, List, [], ◌∷◌, All, Option, None, Some, IsSome, is_some, if◌then◌else◌}
use Rattle.std.specs.Option.{option_map}
use Rattle.fr_base.specs.Rows.{Roomy}
use Rattle.fr_base.specs.declared.cycle_row.CycleRow.{CycleRow}
use Rattle.fr_cluster.specs.Questions.{node_of}
use Rattle.fr_cluster.specs.Values.{Values}
use Rattle.fr_drift.specs.Files.{DriftFits}
use Rattle.fr_drift.specs.Questions.{doubles_of}
use Rattle.fr_drift.specs.View.{DriftView}
use Rattle.fr_script.specs.Files.{ScriptFits}
use Rattle.fr_script.specs.Promises.{NodesJoinProperly}
use Rattle.fr_script.specs.View.{ScriptView, is_arbitrary}
use Rattle.fr_node.specs.Fits.{NodeFits}
use Rattle.fr_node.specs.View.{NodeView, node_row_of}
use Rattle.fr_cluster.specs.declared.join.Join.{Join}
use Rattle.fr_cluster.specs.declared.nodes.NodeSpec.{NodeSpec}
use Rattle.fr_cluster.specs.Setting.{Setting, is_correct}
use Rattle.fr_history.specs.History.{row_of}
use Rattle.fr_history.specs.Recorded.{recorded}
use Rattle.fr_history.specs.Cycles.{Cycles}
use Rattle.fr_history.specs.Next.{cycles_of, next_cycle}
use Rattle.fr_history.specs.Standing.{has_row}
use Rattle.fr_history.specs.Unfollowed.{is_none}
use Rattle.fr_air.specs.Views.{node_of_next}
use Rattle.fr_coverage.specs.Decided.{setting_of}
use Rattle.fr_air.specs.Files.{setting_in}
use Rattle.fr_time.specs.Placed.{IsPlacedRow}
use Rattle.fr_time.specs.Position.{grid_for}
use Rattle.fr_base.specs.Counts.{AreAtMost}
use Rattle.fr_air.specs.Listening.{StartsEarly}
use Rattle.fr_air.specs.Listing.{HasRoom, ordered_keys}
use Rattle.fr_air.specs.Memory.{MemoryView, held_after, memory_with}
use Rattle.fr_world.specs.Stage.{StageView}
use Rattle.fr_world.specs.Standing.{followers_kept, listeners_kept, nodes_kept}
use Rattle.fr_air.specs.declared.files.RunInputs.{RunInputs}
use Rattle.fr_air.specs.Turns.{most_in_a_cycle}

-- A world: its three files, and how many cycles it has run. They determine its cycles, so that nothing else is seen.
pub record WorldView : Type 0 where
  pub params : Values
  pub drift : DriftView
  pub script : ScriptView
  pub cycles : ℕ

-- what decides its run
abbrev pub inputs_of : WorldView → RunInputs
inputs_of w = record { params = w.params; drift = w.drift; script = w.script }

-- the setting of a world
abbrev pub setting_after : WorldView → Setting
setting_after w = setting_of w.params w.drift w.script

-- the cycles that it has run
abbrev pub world_cycles : WorldView → Cycles
world_cycles w = cycles_of (setting_after w) w.cycles

-- whether a node followed in the last of some cycles
abbrev pub followed_last : Cycles → Bool
followed_last [] = false
followed_last (c ∷ h) = not (is_none c.followers)

-- whether a node is told of behind some cycles: it joins nobody, or had a row in the last one
abbrev pub is_told_after : Option Join → Cycles → ℕ → Bool
is_told_after None h node = true
is_told_after (Some join) [] node = false
is_told_after (Some join) (c ∷ h) node = is_some (row_of c.told.rows node)

abbrev pub is_told : Setting → Cycles → ℕ → Bool
is_told x h node = is_told_after (x.join node) h node

-- a row tells what is told of a cycle of the one lawful run, and its numbers are within limits
pub record IsRowOf (x : Setting) (cycle : ℕ) (row : CycleRow) : Type 0 where
  pub told : recorded row ≡ (next_cycle x (cycles_of x cycle)).told
  pub numbered : row.cycle ≡ cycle
  pub placed : All (IsPlacedRow (grid_for x.params)) row.rows
  pub few : AreAtMost most_in_a_cycle row.counts

-- the message memory of a world of these files after so many cycles
abbrev pub memory_after : RunInputs → ℕ → MemoryView
memory_after f cycles = memory_with f.params (held_after (setting_in f) (cycles_of (setting_in f) cycles))

-- the nodes, followers and listeners of a world are those of the run of so many cycles, what was sent in them stands in its
-- memory, its key slots are the cluster's, and the list of deviations has room for those of a cycle
pub record StandAfter (f : RunInputs) (cycles : ℕ) (keys : List ℕ) (stage : StageView) (devs : Roomy) : Type 0 where
  pub keys_are : keys ≡ ordered_keys f.params
  pub nodes_are : stage.nodes ≡ nodes_kept (setting_in f) (cycles_of (setting_in f) cycles)
  pub followers_are : stage.followers ≡ followers_kept (setting_in f) (cycles_of (setting_in f) cycles)
  pub listeners_are : stage.listeners ≡ listeners_kept (setting_in f) (cycles_of (setting_in f) cycles)
  pub fitting : All (NodeFits f.params) stage.nodes
  pub followers_fit : All (NodeFits f.params) stage.followers
  pub early : All (λ node. StartsEarly f cycles (node_row_of node)) stage.nodes
  pub remembers : stage.memory ≡ memory_after f cycles
  pub room : HasRoom keys devs

-- what holds of the parts of a world: the drift and the script fit the parameters, so that nodes join as a script may say it; its
-- stage stands after the cycles so far, and the row is that of the latest
pub record IsWorld (f : RunInputs) (keys : List ℕ) (stage : StageView) (row : CycleRow) (next : ℕ) : Type 0 where
  pub drift_fits : DriftFits f.params f.drift
  pub script_fits : ScriptFits f.params f.script
  pub joins : NodesJoinProperly f.params f.script
  pub stands : StandAfter f next keys stage row.devs
  pub in_run : next ≤ 2 * doubles_of f.drift
  pub latest : (earlier : ℕ) → next ≡ earlier + 1 → IsRowOf (setting_in f) earlier row

-- a node of the cluster may start where the drift fits
pub record CanStart (f : RunInputs) (spec : NodeSpec) : Type 0 where
  pub drift_fits : DriftFits f.params f.drift
  pub known : IsSome (node_of f.params spec.id)

-- whether a node takes part from cycle 0 on: it is correct, and joins nobody
abbrev pub is_fresh : Setting → ℕ → Bool
is_fresh x node = is_correct x node && has_row x [] node

-- the node before the run, as a list of one or none: none where it does not
abbrev pub fresh_of : RunInputs → NodeSpec → List NodeView
fresh_of f spec =
    if is_fresh (setting_in f) spec.id then node_of_next (setting_in f) [] false spec.id ∷ [] else []

-- nodes that fit and start early, of which these are all
pub record AreFresh (f : RunInputs) (fresh nodes : List NodeView) : Type 0 where
  pub nodes_are : nodes ≡ fresh
  pub fit : All (NodeFits f.params) nodes
  pub early : All (λ node. StartsEarly f 0 (node_row_of node)) nodes

-- a row is that of the last cycle of a world, if one was run
abbrev pub IsLastRowOf : WorldView → CycleRow → Type 0
IsLastRowOf w row = (earlier : ℕ) → w.cycles ≡ earlier + 1 → IsRowOf (setting_after w) earlier row

-- a world of these files before its first cycle
abbrev pub world_before : Values → DriftView → ScriptView → WorldView
world_before p d s = record { params = p; drift = d; script = s; cycles = 0 }

-- the node of a world by its number: none where it is arbitrary or unknown, or joins and had no row in the last cycle
abbrev pub node_seen : WorldView → ℕ → Option NodeView
node_seen w id =
    if is_arbitrary w.script id || not (is_told (setting_after w) (world_cycles w) id) then None
    else option_map (λ spec. node_of_next (setting_after w) (world_cycles w) false id) (node_of w.params id)

-- the message memory of a world after its cycles
abbrev pub memory_of : WorldView → MemoryView
memory_of w = memory_with w.params (held_after (setting_after w) (world_cycles w))
