use Rattle.std.proofs.Common.{◌≡◌, ◌++◌, map, take, drop}
use Rattle.std.specs.Prelude.{All}
use Rattle.fr_node.specs.View.{node_row_of}
use Rattle.fr_air.specs.Counting.{counted_offers}
use Rattle.fr_air.specs.Cycling.{IsReady}
use Rattle.fr_air.specs.Files.{setting_in}
use Rattle.fr_air.specs.Memory.{frame_on}
use Rattle.fr_air.specs.Sending.{after_offer_by}
use Rattle.fr_air.specs.Turns.{offer_on}
use Rattle.fr_air.proofs.offering.offer_to_all.Given as goal

-- the frame was offered to the nodes so far, and the others are as they were
abbrev pub invariant-loop-node : goal.invariant-loop-node
invariant-loop-node l =
    (l.nodes ≡ map (after_offer_by (setting_in l.files) l.air.turn.now l.air.sender.now (frame_on l.initial.memory l.air.cell)) (take l.node-index l.initial.nodes) ++ drop l.node-index l.initial.nodes)
    × All (IsReady l.files l.air.turn.now.cycle) l.nodes
    × (l.counts ≡ counted_offers (setting_in l.files) l.air.turn.now.cycle (offer_on l.files l.air l.initial.memory) (map node_row_of (take l.node-index l.initial.nodes)) l.initial.counts)
    × (l.memory ≡ l.initial.memory)
