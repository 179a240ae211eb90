use Rattle.std.proofs.Common.{◌≡◌, ◌∙◌, ◌<◌, length, get_or, Option, refl, ap, sym, subst, arith}
use Rattle.std.proofs.lemmas.List.Elements.{All-set}
use Rattle.fr_base.specs.declared.node_row.NodeRow.{NodeRow}
use Rattle.fr_reception.specs.Offers.{Offer}
use Rattle.fr_node.specs.View.{NodeView, node_row_of}
use Rattle.fr_cluster.specs.Setting.{Setting}
use Rattle.fr_air.proofs.Loops.{at_most-nodes, counted-more, swept-more, swept-next}
use Rattle.fr_air.specs.Counting.{counted_offer, counted_offers}
use Rattle.fr_air.specs.Cycling.{IsReady}
use Rattle.fr_air.specs.Files.{setting_in}
use Rattle.fr_air.specs.Memory.{MemoryView, frame_on}
use Rattle.fr_air.specs.Sending.{after_offer_by}
use Rattle.fr_air.specs.Turns.{offer_on, HasHeard, IsOnAir}
use Rattle.fr_air.proofs.offering.offer_to_all.Goals as goal

pub loop-node-init : goal.loop-node-init
unfolding counted_offers
loop-node-init c = (refl, c.requires.ready.ready, refl, refl)

pub offer_to-requires-clause-air : goal.offer_to-requires-clause-air
offer_to-requires-clause-air c = subst (IsOnAir c.args.files.now c.args.air.now) (sym c.loop-node.invariant.3) c.requires.air

pub offer_to-requires-clause-few : goal.offer_to-requires-clause-few
offer_to-requires-clause-few c =
    let a = c.args in
    at_most-nodes (setting_in a.files.now) a.air.now.turn.now.cycle (offer_on a.files.now a.air.now a.memory.now) a.nodes.now c.loop-node.node-index 1000000 2000000 a.counts.now c.loop-node.counts
    c.requires.ready.few_nodes (omega arith) c.requires.ready.few c.loop-node.invariant.2

pub loop-node-preserved : goal.loop-node-preserved
loop-node-preserved c =
    let a = c.args in
    let t = a.air.now.turn.now in
    let i = c.loop-node.node-index in
    let node = c.node-item.result in
    let x : Setting = setting_in a.files.now in
    let was : NodeView = get_or c.loop-node.nodes i node in
    let P : MemoryView → Type 0 = λ memory. HasHeard a.files.now t (offer_on a.files.now a.air.now memory (node_row_of was)) was c.loop-node.counts c.offer_to.new.node c.offer_to.new.counts in
    let heard = subst P c.loop-node.invariant.3 c.offer_to.ensures.heard in
    let f : NodeView → NodeView = after_offer_by x t a.air.now.sender.now (frame_on a.memory.now a.air.now.cell) in
    let lt : i < length a.nodes.now = omega arith in
    let stepped : c.offer_to.new.node ≡ f node = heard.node_is ∙ ap f (sym c.node-item.is) in
    let o : NodeRow → Option Offer = offer_on a.files.now a.air.now a.memory.now in
    let counted : c.offer_to.new.counts ≡ counted_offer x t.cycle (node_row_of node) (o (node_row_of node)) c.loop-node.counts =
    heard.counts_are
    ∙ ap (λ (n : NodeView). counted_offer x t.cycle (node_row_of n) (o (node_row_of n)) c.loop-node.counts) (sym c.node-item.is) in (
      swept-more f a.nodes.now c.loop-node.nodes i node c.offer_to.new.node lt c.loop-node.invariant.0 c.node-item.is stepped,
      All-set (IsReady a.files.now t.cycle) c.loop-node.nodes i c.offer_to.new.node heard.ready c.loop-node.invariant.1,
      counted-more x t.cycle o a.nodes.now i node a.counts.now c.loop-node.counts c.offer_to.new.counts lt (swept-next f a.nodes.now c.loop-node.nodes i node lt c.loop-node.invariant.0 c.node-item.is) c.loop-node.invariant.2 counted,
      c.offer_to.ensures.stays ∙ c.loop-node.invariant.3,
    )
