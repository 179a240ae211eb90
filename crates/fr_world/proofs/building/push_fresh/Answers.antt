use Rattle.std.proofs.Common.{◌≡◌, ◌∙◌, ◌++◌, List, [], ◌∷◌, true, false, ap, refl, sym, subst}
use Rattle.std.specs.Prelude.{All}
use Rattle.std.proofs.lemmas.List.Elements.{All-push}
use Rattle.fr_cluster.specs.Setting.{Setting}
use Rattle.fr_node.specs.Fits.{NodeFits}
use Rattle.fr_node.specs.View.{NodeView, node_row_of}
use Rattle.fr_air.specs.Views.{node_of_next}
use Rattle.fr_air.specs.Files.{setting_in}
use Rattle.fr_air.specs.Listening.{StartsEarly}
use Rattle.fr_world.specs.World.{fresh_of, is_fresh}
use Rattle.fr_world.proofs.building.push_fresh.Goals as goal

pub returns-in_ok-push-clause-fresh : goal.returns-in_ok-push-clause-fresh
returns-in_ok-push-clause-fresh c =
    let f = c.args.files.now in
    let x : Setting = setting_in f in
    let spec = c.args.spec.now in
    let before = c.args.nodes.now.items in
    let fresh : is_fresh x spec.id ≡ true = cc in
    let one : fresh_of f spec ≡ node_of_next x [] false spec.id ∷ [] = rw fresh refl in
    let pushed = c.in_ok-push.ensures.items in
    let Fit : List NodeView → Type 0 = λ ns. All (NodeFits f.params) ns in
    let Early : List NodeView → Type 0 = λ ns. All (λ (node : NodeView). StartsEarly f 0 (node_row_of node)) ns in
    record {
      nodes_are = pushed ∙ ap (λ (n : NodeView). before ++ n ∷ []) c.fresh_node.ensures.node ∙ sym (ap (λ (ns : List NodeView). before ++ ns) one);
      fit = subst Fit (sym pushed) (All-push (NodeFits f.params) before c.fresh_node.result c.requires.fresh.fit c.fresh_node.ensures.fits);
      early = subst Early (sym pushed) (All-push (λ (node : NodeView). StartsEarly f 0 (node_row_of node)) before c.fresh_node.result c.requires.fresh.early c.fresh_node.ensures.early);
    }
