-- What is asked of the nodes and the counts of a world before they hear what comes in a turn, and how they stand after it.
use Rattle.std.specs.Prelude.{◌≡◌, ℕ, ◌≤◌, List, All, length, map, Option, Some, IfSome}
use Rattle.std.specs.Option.{option_map}
use Rattle.fr_base.specs.declared.cycle_row.Counts.{Counts}
use Rattle.fr_base.specs.declared.node_row.NodeRow.{NodeRow}
use Rattle.fr_cluster.specs.Values.{amount}
use Rattle.fr_cluster.specs.declared.names.ParamName.TheVariants as name
use Rattle.fr_time.specs.Senders.{sender_of}
use Rattle.fr_time.specs.declared.senders.Sending.{Sending}
use Rattle.fr_reception.specs.Answers.{answer_of}
use Rattle.fr_reception.specs.Offers.{Offer}
use Rattle.fr_reception.specs.declared.heard.Heard.{Heard}
use Rattle.fr_reception.specs.Regular.{regular_frame}
use Rattle.fr_node.specs.Cycle.{after_hearing}
use Rattle.fr_node.specs.Fits.{CanReceive, NodeFits}
use Rattle.fr_node.specs.Receptions.{received_as}
use Rattle.fr_node.specs.declared.answers.Reception.{Reception}
use Rattle.fr_node.specs.View.{NodeView, node_row_of}
use Rattle.fr_air.specs.Counting.{counted_offer, counted_offers}
use Rattle.fr_air.specs.Cycling.{IsReady}
use Rattle.fr_air.specs.Files.{setting_in}
use Rattle.fr_air.specs.Hearing.{after_offer}
use Rattle.fr_air.specs.Memory.{MemoryView, frame_on, HasFrame}
use Rattle.fr_base.specs.Counts.{AreAtMost}
use Rattle.fr_air.specs.Sending.{offer_heard, IsDue, IsEarlyRow}
use Rattle.fr_frame.specs.Reading.{read_as}
use Rattle.fr_air.specs.declared.files.RunInputs.{RunInputs}
use Rattle.fr_air.specs.declared.turn.Air.{Air}
use Rattle.fr_air.specs.declared.turn.Turn.{Turn}

-- a node of these files can hear in a turn
pub record CanHear (f : RunInputs) (turn : Turn) (node : NodeView) : Type 0 where
  pub ready : IsReady f turn.cycle node
  pub receives : CanReceive f.params node turn.slot turn.channel

-- the sender of a static slot
pub record SendsInTurn (f : RunInputs) (turn : Turn) (sending : Sending) : Type 0 where
  pub static_slot : turn.slot ≤ amount f.params name.gNumberOfStaticSlots
  pub sends : sender_of f.params turn.slot turn.cycle ≡ Some sending

-- the frame that it sends, where nothing is done to it
abbrev pub frame_of_turn : RunInputs → Turn → Sending → List ℕ
frame_of_turn f turn sending = regular_frame f.params sending turn.slot turn.cycle turn.channel

-- a frame is sent in a turn of a static slot: its sender has this row, where it is correct, and it is due then
pub record IsSent (f : RunInputs) (air : Air) : Type 0 where
  pub static_slot : air.turn.now.slot ≤ amount f.params name.gNumberOfStaticSlots
  pub sends : option_map (λ sending. sending.node) (sender_of f.params air.turn.now.slot air.turn.now.cycle) ≡ Some air.sender.now.node
  pub row : IfSome air.sender.now.row (IsEarlyRow f.params)
  pub due : IfSome air.sender.now.row (λ row. IsDue f air.turn.now row air.due)

-- what is made of a frame in a turn, where it arrives in its slot
abbrev pub IsMadeOf : RunInputs → Turn → List ℕ → Reception → Type 0
IsMadeOf f turn frame reception = reception ≡ received_as f.params turn.cycle turn.slot (read_as turn.channel frame)

-- it stands in a cell of the memory, and it is known what is made of it
pub record IsOnAir (f : RunInputs) (air : Air) (memory : MemoryView) : Type 0 where
  pub sent : IsSent f air
  pub stands : HasFrame memory air.cell
  pub reception : IsMadeOf f air.turn.now (frame_on memory air.cell) air.reception.now

-- what of it a receiver is offered
abbrev pub offer_on : RunInputs → Air → MemoryView → NodeRow → Option Offer
offer_on f air memory receiver = offer_heard (setting_in f) air.turn.now air.sender.now.node air.sender.now.row (frame_on memory air.cell) receiver

-- a node after it
abbrev pub heard_on_air : RunInputs → Air → MemoryView → NodeView → NodeView
heard_on_air f air memory node =
    after_offer (setting_in f) air.turn.now.cycle node (offer_on f air memory (node_row_of node))

-- no number that was counted in a cycle is above this one
abbrev pub most_in_a_cycle : ℕ
most_in_a_cycle = 1_000_000

-- nor is it above this one while more of the cycle is added
abbrev pub most_adding : ℕ
most_adding = 2_000_000

-- all nodes are ready, and no number that was counted so far is above this one
pub record AreReady (f : RunInputs) (cycle most : ℕ) (nodes : List NodeView) (counts : Counts) : Type 0 where
  pub ready : All (IsReady f cycle) nodes
  pub few_nodes : length nodes ≤ 64
  pub few : AreAtMost most counts

-- a node after its answer to what is offered to it in a turn
pub record HasAnswered (f : RunInputs) (turn : Turn) (offer : Offer) (before node : NodeView) (heard : Heard) : Type 0 where
  pub answer : heard ≡ answer_of f.params before.cycle (node_row_of before) offer
  pub after : node ≡ after_hearing f.params before turn.slot turn.channel heard
  pub rest : node ≡ record before { table = node.table }
  pub fits : NodeFits f.params node

-- a node and the counts after an offer in a turn, or after none
pub record HasHeard (f : RunInputs) (turn : Turn) (offer : Option Offer) (before : NodeView) (counted : Counts) (node : NodeView) (counts : Counts) : Type 0 where
  pub node_is : node ≡ after_offer (setting_in f) turn.cycle before offer
  pub ready : IsReady f turn.cycle node
  pub counts_are : counts ≡ counted_offer (setting_in f) turn.cycle (node_row_of before) offer counted

-- all nodes and the counts after a frame was offered to each
pub record HaveHeard (f : RunInputs) (cycle : ℕ) (offer : NodeRow → Option Offer) (before : List NodeView) (counted : Counts) (after : List NodeView) (counts : Counts) : Type 0 where
  pub nodes_are : after ≡ map (λ node. after_offer (setting_in f) cycle node (offer (node_row_of node))) before
  pub ready : All (IsReady f cycle) after
  pub counts_are : counts ≡ counted_offers (setting_in f) cycle offer (map node_row_of before) counted

-- a row is this one, if there is one, and its instants can be computed
pub record IsRowFound (f : RunInputs) (found row : Option NodeRow) : Type 0 where
  pub row_is : row ≡ found
  pub early : IfSome row (IsEarlyRow f.params)
