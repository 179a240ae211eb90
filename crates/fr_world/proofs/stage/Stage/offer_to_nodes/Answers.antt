use Rattle.std.proofs.Common.{◌≡◌, ◌∙◌, List, Option, length, map, ap, sym, subst}
use Rattle.std.specs.Prelude.{IfSome}
use Rattle.std.specs.Vec.{with_items}
use Rattle.std.proofs.lemmas.List.{length-map, with_items_is}
use Rattle.fr_base.specs.declared.node_row.NodeRow.{NodeRow}
use Rattle.fr_cluster.specs.Setting.{Setting}
use Rattle.fr_reception.specs.Offers.{Offer}
use Rattle.fr_node.specs.View.{NodeView, node_row_of}
use Rattle.fr_air.specs.Counting.{counted_offers}
use Rattle.fr_air.specs.Hearing.{after_offer}
use Rattle.fr_air.specs.Files.{setting_in}
use Rattle.fr_air.specs.Reaching.{IsReach, SendsAmong}
use Rattle.fr_world.specs.Stage.{StageView, answered_by_nodes}
use Rattle.fr_air.specs.Turns.{offer_on, AreReady, IsOnAir}
use Rattle.fr_world.proofs.Stages.{made_stage, offered}
use Rattle.fr_world.proofs.stage.Stage.offer_to_nodes.Goals as goal

pub offer_in_reach-requires-clause-air : goal.offer_in_reach-requires-clause-air
offer_in_reach-requires-clause-air c = subst (λ (s : StageView). IsOnAir c.args.files.now c.args.air.now s.memory) (sym c.self.view_is) c.requires.air

pub offer_in_reach-requires-clause-ready : goal.offer_in_reach-requires-clause-ready
offer_in_reach-requires-clause-ready c =
    let a = c.args in
    let cycle = a.air.now.turn.now.cycle in
    subst (λ (nodes : List NodeView). AreReady a.files.now cycle 1000000 nodes c.self.inside.counts) (sym c.as_mut_slice.ensures.value)
    (subst (λ (s : StageView). AreReady a.files.now cycle 1000000 s.nodes s.counts) (sym c.self.view_is) c.requires.ready)

pub offer_in_reach-requires-clause-reach : goal.offer_in_reach-requires-clause-reach
offer_in_reach-requires-clause-reach c =
    let a = c.args in
    let m = c.self.inside in
    let P : StageView → Type 0 = λ s. IsReach a.files.now a.air.now.turn.now.cycle s.rows a.reach in
    let rows : m.rows ≡ map node_row_of m.nodes.items = subst (λ (s : StageView). s.rows ≡ map node_row_of s.nodes) (sym c.self.view_is) c.requires.rows in
    let Q : List NodeRow → Type 0 = λ rs. IsReach a.files.now a.air.now.turn.now.cycle rs a.reach in
    subst Q (rows ∙ ap (map node_row_of) (sym c.as_mut_slice.ensures.value)) (subst P (sym c.self.view_is) c.requires.reach)

pub offer_in_reach-requires-clause-sends : goal.offer_in_reach-requires-clause-sends
offer_in_reach-requires-clause-sends c =
    let a = c.args in
    let m = c.self.inside in
    let P : StageView → Type 0 = λ s. IfSome a.air.now.sender.now.row (SendsAmong a.files.now a.air.now s.rows) in
    let rows : m.rows ≡ map node_row_of m.nodes.items = subst (λ (s : StageView). s.rows ≡ map node_row_of s.nodes) (sym c.self.view_is) c.requires.rows in
    let Q : List NodeRow → Type 0 = λ rs. IfSome a.air.now.sender.now.row (SendsAmong a.files.now a.air.now rs) in
    subst Q (rows ∙ ap (map node_row_of) (sym c.as_mut_slice.ensures.value)) (subst P (sym c.self.view_is) c.requires.sends)

pub returns-clause-heard : goal.returns-clause-heard
returns-clause-heard c =
    let a = c.args in
    let m = c.self.inside in
    let x : Setting = setting_in a.files.now in
    let cycle = a.air.now.turn.now.cycle in
    let offer : NodeRow → Option Offer = offer_on a.files.now a.air.now m.memory in
    let rows : m.rows ≡ map node_row_of m.nodes.items = subst (λ (s : StageView). s.rows ≡ map node_row_of s.nodes) (sym c.self.view_is) c.requires.rows in
    let P : StageView → Type 0 = λ s. made_stage m.rows c.offer_in_reach.new.nodes m.followers.items m.listeners.items c.offer_in_reach.new.counts c.offer_in_reach.new.memory ≡ answered_by_nodes x cycle (offer_on a.files.now a.air.now s.memory) s in
    let heard = c.offer_in_reach.ensures.heard in
    let nodes : c.offer_in_reach.new.nodes ≡ map (λ node. after_offer x cycle node (offer (node_row_of node))) m.nodes.items =
    heard.nodes_are ∙ ap (map (λ (node : NodeView). after_offer x cycle node (offer (node_row_of node)))) c.as_mut_slice.ensures.value in
    let counts : c.offer_in_reach.new.counts ≡ counted_offers x cycle offer (map node_row_of m.nodes.items) m.counts =
    heard.counts_are ∙ ap (λ (ns : List NodeView). counted_offers x cycle offer (map node_row_of ns) m.counts) c.as_mut_slice.ensures.value in
    let f : NodeView → NodeView = λ node. after_offer x cycle node (offer (node_row_of node)) in
    let whole : (with_items m.nodes c.offer_in_reach.new.nodes).items ≡ c.offer_in_reach.new.nodes =
    with_items_is m.nodes c.offer_in_reach.new.nodes (ap length nodes ∙ length-map m.nodes.items f ∙ sym m.nodes.ok.0) in
    ap (λ (ns : List NodeView). made_stage m.rows ns m.followers.items m.listeners.items c.offer_in_reach.new.counts c.offer_in_reach.new.memory) whole
    ∙ subst P c.self.view_is
    (offered x cycle offer m.rows m.nodes.items c.offer_in_reach.new.nodes m.followers.items m.listeners.items m.counts c.offer_in_reach.new.counts m.memory c.offer_in_reach.new.memory rows nodes counts c.offer_in_reach.ensures.stays)
