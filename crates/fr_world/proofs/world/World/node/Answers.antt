use Rattle.std.proofs.Common.{◌≡◌, ◌∙◌, List, ap, subst}
use Rattle.std.specs.Prelude.{find, ◌==◌}
use Rattle.std.specs.Option.{option_copied}
use Rattle.fr_history.specs.Next.{cycles_of}
use Rattle.fr_node.specs.View.{NodeView}
use Rattle.fr_world.proofs.NodeIn.{copied_between, node-between, node-found}
use Rattle.fr_air.specs.Files.{setting_in}
use Rattle.fr_world.specs.World.{node_seen, WorldView}
use Rattle.fr_world.proofs.world.World.node.Goals as goal

pub returns : goal.returns
returns c =
    let f = c.self.inside.files in
    let x = setting_in f in
    let P : WorldView → Type 0 = λ w. option_copied c.node_among.result ≡ node_seen w c.args.id in
    let value : option_copied c.node_among.result ≡ node_seen c.args.self.now c.args.id =
    subst P c.self.view_is
    (c.node_among.ensures
    ∙ ap (λ (nodes : List NodeView). find (λ node. node.id == c.args.id) nodes) (c.nodes.ensures ∙ c.self.invariant.stands.nodes_are)
    ∙ node-found x (cycles_of x c.self.inside.next) c.args.id (c.files_are_lawful.ensures c.self.inside.next)) in record {
      value = value;
      between = copied_between c.node_among.result (node_seen c.args.self.now c.args.id) value (node-between c.args.self.now c.args.id);
    }
