-- What a node hears in the slots of a cycle, one after the other.
use Rattle.std.specs.Prelude.{ℕ, List, Option, Some, None}
use Rattle.fr_base.specs.declared.channel.Channel.{Channel}
use Rattle.fr_base.specs.declared.node_row.NodeRow.{NodeRow}
use Rattle.fr_reception.specs.Answers.{answer_of}
use Rattle.fr_reception.specs.Offers.{Offer}
use Rattle.fr_node.specs.Cycle.{after_hearing}
use Rattle.fr_node.specs.View.{NodeView, node_row_of}
use Rattle.fr_cluster.specs.Setting.{Setting}
use Rattle.fr_history.specs.Offers.{offer_in}
use Rattle.fr_air.specs.Walk.{after_both_channels, over_slots}

-- a node after its answer to what is offered to it, if something is
abbrev pub after_offer : Setting → ℕ → NodeView → Option Offer → NodeView
after_offer x cycle node None = node
after_offer x cycle node (Some offer) =
    after_hearing x.params node offer.slot offer.channel (answer_of x.params cycle (node_row_of node) offer)

-- after a slot on a channel, among these rows
abbrev pub after_channel : Setting → ℕ → List NodeRow → ℕ → Channel → NodeView → NodeView
after_channel x cycle rows slot channel node = after_offer x cycle node (offer_in x cycle rows (node_row_of node) slot channel)

-- after a slot on both channels
abbrev pub after_slot : Setting → ℕ → List NodeRow → ℕ → NodeView → NodeView
after_slot x cycle rows slot node = after_both_channels (after_channel x cycle rows) slot node

-- after so many slots of the cycle
abbrev pub after_slots : Setting → ℕ → List NodeRow → ℕ → NodeView → NodeView
after_slots x cycle rows count node = over_slots (after_channel x cycle rows) count node
