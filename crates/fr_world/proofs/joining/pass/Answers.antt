use Rattle.std.proofs.Common.{◌≡◌, ◌∙◌, ◌+◌, ◌++◌, List, take, drop, ap, sym, subst}
use Rattle.std.specs.Prelude.{All}
use Rattle.std.proofs.lemmas.List.{get_or_default}
use Rattle.fr_node.specs.Cycle.{as_joined}
use Rattle.fr_node.specs.Fits.{NodeFits}
use Rattle.fr_node.specs.View.{NodeView}
use Rattle.fr_air.specs.Placing.{put}
use Rattle.fr_world.proofs.Passed.{all-but, joins-fits, passed-gone, passed-goes, passed-joins, All-put}
use Rattle.fr_world.proofs.Sweeps.{All-at}
use Rattle.fr_world.specs.Succeeding.{goes_now, HasFollowed, Passes}
use Rattle.fr_world.proofs.joining.pass.Goals as goal

pub put-requires-clause-few : goal.put-requires-clause-few
put-requires-clause-few c =
    let a = c.args in
    joins-fits a.files.now a.double a.place a.followers.now.items a.nodes.now.items c.index.result.now c.requires.place c.index.ensures (sym c.joins.ensures ∙ c.if-joins.true) c.requires.few

pub returns-then-joins-clause-passes : goal.returns-then-joins-clause-passes
returns-then-joins-clause-passes c =
    let a = c.args in
    let followers : List NodeView = a.followers.now.items in
    let node : NodeView = c.index.result.now in
    let same : c.remove-node.result ≡ node = c.remove-node.ensures.value ∙ get_or_default followers a.place c.remove-node.result node c.requires.place ∙ sym c.index.ensures in
    let left : c.remove-node.new.self.items ≡ take a.place followers ++ drop (a.place + 1) followers = c.remove-node.ensures.by_index.2 in
    let placed : c.put.new.nodes.items ≡ put (λ n. n.id) (as_joined node) a.nodes.now.items =
    c.put.ensures.placed ∙ ap (λ (n : NodeView). put (λ m. m.id) n a.nodes.now.items) (c.join.ensures.value ∙ ap as_joined same) in
    let P : List NodeView → Type 0 = λ after. Passes a.files.now a.double a.place a.place followers a.nodes.now.items after c.put.new.nodes.items in
    let Q : List NodeView → Type 0 = λ after. Passes a.files.now a.double a.place a.place followers a.nodes.now.items (take a.place followers ++ drop (a.place + 1) followers) after in
    subst P (sym left) (subst Q (sym placed)
    (passed-joins a.files.now a.double a.place followers a.nodes.now.items node c.requires.place c.index.ensures (sym c.joins.ensures ∙ c.if-joins.true)))

pub returns-then-joins-clause-nodes : goal.returns-then-joins-clause-nodes
returns-then-joins-clause-nodes c =
    let a = c.args in
    let p = a.files.now.params in
    let followers : List NodeView = a.followers.now.items in
    let left : c.remove-node.new.self.items ≡ take a.place followers ++ drop (a.place + 1) followers = c.remove-node.ensures.by_index.2 in
    let fits : NodeFits p c.remove-node.result = All-at (NodeFits p) followers a.place c.remove-node.result c.requires.place c.remove-node.ensures.value c.requires.nodes.followers_fit in
    record {
      followed = subst (All HasFollowed) (sym left) (all-but HasFollowed followers a.place c.requires.nodes.followed);
      followers_fit = subst (All (NodeFits p)) (sym left) (all-but (NodeFits p) followers a.place c.requires.nodes.followers_fit);
      nodes_fit = subst (All (NodeFits p)) (sym c.put.ensures.placed) (All-put (NodeFits p) (λ (n : NodeView). n.id) c.join.new.self a.nodes.now.items (c.join.ensures.fits p fits) c.requires.nodes.nodes_fit);
    }

pub returns-then-goes_on-clause-passes : goal.returns-then-goes_on-clause-passes
returns-then-goes_on-clause-passes c =
    let a = c.args in
    let followers : List NodeView = a.followers.now.items in
    let node : NodeView = c.index.result.now in
    let same : c.index-2.result.now ≡ node = c.index-2.ensures ∙ get_or_default followers a.place c.index-2.result.now node c.requires.place ∙ sym c.index.ensures in
    passed-goes a.files.now a.double a.place followers a.nodes.now.items node c.requires.place c.index.ensures (sym c.joins.ensures ∙ c.if-joins.false)
    (ap (goes_now a.files.now a.double) (sym same) ∙ sym c.goes_on.ensures ∙ c.if-goes_on.true)

pub returns-clause-passes : goal.returns-clause-passes
returns-clause-passes c =
    let a = c.args in
    let followers : List NodeView = a.followers.now.items in
    let node : NodeView = c.index.result.now in
    let same : c.index-2.result.now ≡ node = c.index-2.ensures ∙ get_or_default followers a.place c.index-2.result.now node c.requires.place ∙ sym c.index.ensures in
    let left : c.remove-gone.new.self.items ≡ take a.place followers ++ drop (a.place + 1) followers = c.remove-gone.ensures.by_index.2 in
    let P : List NodeView → Type 0 = λ after. Passes a.files.now a.double a.place a.place followers a.nodes.now.items after a.nodes.now.items in
    subst P (sym left)
    (passed-gone a.files.now a.double a.place followers a.nodes.now.items node c.requires.place c.index.ensures (sym c.joins.ensures ∙ c.if-joins.false)
    (ap (goes_now a.files.now a.double) (sym same) ∙ sym c.goes_on.ensures ∙ c.if-goes_on.false))

pub returns-clause-nodes : goal.returns-clause-nodes
returns-clause-nodes c =
    let a = c.args in
    let p = a.files.now.params in
    let followers : List NodeView = a.followers.now.items in
    let left : c.remove-gone.new.self.items ≡ take a.place followers ++ drop (a.place + 1) followers = c.remove-gone.ensures.by_index.2 in
    record {
      followed = subst (All HasFollowed) (sym left) (all-but HasFollowed followers a.place c.requires.nodes.followed);
      followers_fit = subst (All (NodeFits p)) (sym left) (all-but (NodeFits p) followers a.place c.requires.nodes.followers_fit);
      nodes_fit = c.requires.nodes.nodes_fit;
    }
