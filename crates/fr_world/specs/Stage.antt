-- A cycle on its way through a world: the nodes and their rows, the followers, the listeners, the counts, and the
-- message memory.
use Rattle.std.specs.Prelude.{◌≡◌, ℕ, ◌+◌, ◌-◌, ◌*◌, ◌≤◌, List, [], All, length, map, Option}
use Rattle.fr_base.specs.Rows.{channel_rank}
use Rattle.fr_base.specs.Counts.{AreAtMost, no_counts}
use Rattle.fr_base.specs.declared.channel.Channel.{Channel}
use Rattle.fr_base.specs.declared.cycle_row.Counts.{Counts}
use Rattle.fr_base.specs.declared.node_row.NodeRow.{NodeRow}
use Rattle.fr_cluster.specs.Setting.{Setting}
use Rattle.fr_cluster.specs.Values.{amount}
use Rattle.fr_cluster.specs.declared.names.ParamName.TheVariants as name
use Rattle.fr_reception.specs.Offers.{Offer}
use Rattle.fr_node.specs.Cycle.{ended}
use Rattle.fr_node.specs.Listening.{ListenerView}
use Rattle.fr_node.specs.View.{NodeView, node_row_of}
use Rattle.fr_history.specs.Offers.{frame_in, offer_in}
use Rattle.fr_air.specs.Counting.{counted_frame, counted_offers}
use Rattle.fr_air.specs.Cycling.{begun_in, IsReady}
use Rattle.fr_air.specs.Files.{setting_in}
use Rattle.fr_air.specs.Hearing.{after_offer}
use Rattle.fr_air.specs.Memory.{MemoryView, memory_with, place_of_slot, with_sent}
use Rattle.fr_air.specs.Sending.{IsEarlyRow}
use Rattle.fr_air.specs.Turns.{AreReady, most_in_a_cycle}
use Rattle.fr_air.specs.Walk.{over_slots}
use Rattle.fr_air.specs.declared.files.RunInputs.{RunInputs}
use Rattle.fr_air.specs.declared.turn.Turn.{Turn}

-- The rows of the cycle before its corrections, the nodes that have one, those that follow and those that listen, the
-- counts so far, and what was sent.
pub record StageView : Type 0 where
  pub rows : List NodeRow
  pub nodes : List NodeView
  pub followers : List NodeView
  pub listeners : List ListenerView
  pub counts : Counts
  pub memory : MemoryView

-- before the first cycle
abbrev pub stage_before : List NodeView → MemoryView → StageView
stage_before nodes memory =
    record { rows = []; nodes = nodes; followers = []; listeners = []; counts = no_counts; memory = memory }

-- with the cycle of the nodes that have a row begun: each with its row, and nothing counted
abbrev pub begun_nodes : RunInputs → ℕ → StageView → StageView
begun_nodes f cycle stage = record stage {
  rows = map node_row_of (map (begun_in f cycle) stage.nodes);
  nodes = map (begun_in f cycle) stage.nodes;
  counts = no_counts;
}

-- with the cycle of the followers begun too
abbrev pub begun_stage : RunInputs → ℕ → StageView → StageView
begun_stage f cycle stage = record stage {
  rows = map node_row_of (map (begun_in f cycle) stage.nodes);
  nodes = map (begun_in f cycle) stage.nodes;
  followers = map (begun_in f cycle) stage.followers;
  counts = no_counts;
}

-- with a frame that is sent in a slot on a channel, if one is: it is counted, and stands in its cell
abbrev pub sent_on : ℕ → Channel → Option (List ℕ) → StageView → StageView
sent_on slot channel frame stage = record stage {
  counts = counted_frame channel frame stage.counts;
  memory = record stage.memory { held = with_sent (place_of_slot slot channel) frame stage.memory.held };
}

-- with a frame that is being said, or with none
abbrev pub saying : Option (List ℕ) → StageView → StageView
saying frame stage = record stage { memory = record stage.memory { said = frame } }

-- after each node that has a row has answered what it is offered
abbrev pub answered_by_nodes : Setting → ℕ → (NodeRow → Option Offer) → StageView → StageView
answered_by_nodes x cycle offer stage = record stage {
  nodes = map (λ node. after_offer x cycle node (offer (node_row_of node))) stage.nodes;
  counts = counted_offers x cycle offer stage.rows stage.counts;
}

-- and each follower too; the answers of followers are not counted
abbrev pub answered : Setting → ℕ → (NodeRow → Option Offer) → StageView → StageView
answered x cycle offer stage = record stage {
  nodes = map (λ node. after_offer x cycle node (offer (node_row_of node))) stage.nodes;
  followers = map (λ node. after_offer x cycle node (offer (node_row_of node))) stage.followers;
  counts = counted_offers x cycle offer stage.rows stage.counts;
}

-- after a slot on a channel
abbrev pub after_turn : Setting → ℕ → ℕ → Channel → StageView → StageView
after_turn x cycle slot channel stage =
    answered x cycle (λ receiver. offer_in x cycle stage.rows receiver slot channel) (sent_on slot channel (frame_in x cycle stage.rows slot channel) stage)

-- after so many slots of the cycle
abbrev pub heard_after : Setting → ℕ → ℕ → StageView → StageView
heard_after x cycle count stage = over_slots (after_turn x cycle) count stage

-- with its cycle ended
abbrev pub ended_stage : RunInputs → StageView → StageView
ended_stage f stage = record stage {
  nodes = map (ended f.params) stage.nodes;
  followers = map (ended f.params) stage.followers;
}

-- there is room for all nodes of a cluster in each list
pub record HasSpace (nodes followers listeners : ℕ) : Type 0 where
  pub for_nodes : 64 ≤ nodes
  pub for_followers : 64 ≤ followers
  pub for_listeners : 64 ≤ listeners

-- all nodes and all followers are ready
pub record AllReady (f : RunInputs) (cycle : ℕ) (stage : StageView) : Type 0 where
  pub nodes : All (IsReady f cycle) stage.nodes
  pub followers : All (IsReady f cycle) stage.followers

-- they are before a frame is offered to them, and their answers can be counted
pub record CanAnswer (f : RunInputs) (cycle : ℕ) (stage : StageView) : Type 0 where
  pub rows_are : stage.rows ≡ map node_row_of stage.nodes
  pub ready : AreReady f cycle most_in_a_cycle stage.nodes stage.counts
  pub followers_ready : All (IsReady f cycle) stage.followers
  pub few_followers : length stage.followers ≤ 64

-- The cycle is under way: each node is ready and has its row, each follower is ready, no number that was counted so far
-- is above this one, and nothing is being said.
pub record IsStage (f : RunInputs) (cycle most : ℕ) (stage : StageView) : Type 0 where
  pub rows_are : stage.rows ≡ map node_row_of stage.nodes
  pub ready : All (IsReady f cycle) stage.nodes
  pub early : All (IsEarlyRow f.params) stage.rows
  pub few_nodes : length stage.nodes ≤ 64
  pub followers_ready : All (IsReady f cycle) stage.followers
  pub few_followers : length stage.followers ≤ 64
  pub few : AreAtMost most stage.counts
  pub memory_is : stage.memory ≡ memory_with f.params stage.memory.held

-- no number that was counted before a turn is above this one: at most one frame and 64 answers are counted in each
abbrev pub most_before : Turn → ℕ
most_before turn = 130 * (turn.slot - 1) + 65 * channel_rank turn.channel

-- a stage before a turn of a static slot, and what it becomes by it
pub record IsBefore (f : RunInputs) (turn : Turn) (stage : StageView) : Type 0 where
  pub slot : turn.slot ≤ amount f.params name.gNumberOfStaticSlots
  pub is_stage : IsStage f turn.cycle (most_before turn) stage

pub record HearsTurn (f : RunInputs) (turn : Turn) (before after : StageView) : Type 0 where
  pub heard : after ≡ after_turn (setting_in f) turn.cycle turn.slot turn.channel before
  pub is_stage : IsStage f turn.cycle (most_before turn + 65) after
