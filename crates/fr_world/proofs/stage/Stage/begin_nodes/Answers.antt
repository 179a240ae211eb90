use Rattle.std.proofs.Common.{◌≡◌, ◌∙◌, List, length, map, ap, sym, subst}
use Rattle.std.specs.Vec.{with_items}
use Rattle.std.proofs.lemmas.List.{length-map, with_items_is}
use Rattle.fr_node.specs.View.{NodeView, node_row_of}
use Rattle.fr_air.specs.Cycling.{begun_in, AreListable}
use Rattle.fr_world.specs.Stage.{StageView, begun_nodes}
use Rattle.fr_air.proofs.OneCycle.{begun-listable}
use Rattle.fr_world.proofs.Stages.{begun-same, made_stage}
use Rattle.fr_world.proofs.stage.Stage.begin_nodes.Goals as goal

pub list_rows-requires-clause-nodes : goal.list_rows-requires-clause-nodes
list_rows-requires-clause-nodes c =
    let a = c.args in
    let m = c.self.inside in
    let nodes : c.begin_all.new.nodes ≡ map (begun_in a.files.now a.cycle) m.nodes.items = c.begin_all.ensures.nodes_are ∙ ap (map (begun_in a.files.now a.cycle)) c.as_mut_slice.ensures.value in
    let whole : (with_items m.nodes c.begin_all.new.nodes).items ≡ c.begin_all.new.nodes =
    with_items_is m.nodes c.begin_all.new.nodes (ap length nodes ∙ length-map m.nodes.items (begun_in a.files.now a.cycle) ∙ sym m.nodes.ok.0) in
    let listed : AreListable m.nodes.items = subst (λ (s : StageView). AreListable s.nodes) (sym c.self.view_is) c.requires.nodes in
    subst AreListable (sym (c.as_slice.ensures.value ∙ whole ∙ nodes)) (begun-listable a.files.now a.cycle m.nodes.items listed)

pub returns-clause-begun : goal.returns-clause-begun
returns-clause-begun c =
    let a = c.args in
    let m = c.self.inside in
    let nodes : c.begin_all.new.nodes ≡ map (begun_in a.files.now a.cycle) m.nodes.items = c.begin_all.ensures.nodes_are ∙ ap (map (begun_in a.files.now a.cycle)) c.as_mut_slice.ensures.value in
    let whole : (with_items m.nodes c.begin_all.new.nodes).items ≡ c.begin_all.new.nodes =
    with_items_is m.nodes c.begin_all.new.nodes (ap length nodes ∙ length-map m.nodes.items (begun_in a.files.now a.cycle) ∙ sym m.nodes.ok.0) in
    ap (λ (ns : List NodeView). made_stage c.list_rows.new.rows ns m.followers.items m.listeners.items c.none-self-inside.result m.memory) whole
    ∙ begun-same a.files.now a.cycle m.rows c.list_rows.new.rows m.nodes.items c.begin_all.new.nodes m.followers.items m.listeners.items m.counts c.none-self-inside.result m.memory nodes
    (c.list_rows.ensures.rows ∙ ap (map node_row_of) (c.as_slice.ensures.value ∙ whole)) c.none-self-inside.ensures
    ∙ ap (begun_nodes a.files.now a.cycle) c.self.view_is
