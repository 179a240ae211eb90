use Rattle.std.proofs.Common.{◌≡◌, ◌∙◌, List, sym, subst}
use Rattle.std.specs.Prelude.{All, IsNone}
use Rattle.fr_history.specs.Next.{cycles_of}
use Rattle.fr_node.specs.View.{NodeView}
use Rattle.fr_world.proofs.NodeIn.{all_between}
use Rattle.fr_air.specs.Files.{setting_in}
use Rattle.fr_history.specs.Standing.{kept_row_nodes}
use Rattle.fr_world.specs.Standing.{nodes_kept}
use Rattle.fr_world.specs.World.{setting_after, world_cycles, WorldView}
use Rattle.fr_world.proofs.world.World.nodes.Goals as goal

pub returns : goal.returns
returns c =
    let x = setting_in c.self.inside.files in
    let h = cycles_of x c.self.inside.next in
    let are : c.nodes.result.now ≡ nodes_kept x h = c.nodes.ensures ∙ c.self.invariant.stands.nodes_are in
    let P : WorldView → Type 0 = λ w. c.nodes.result.now ≡ nodes_kept (setting_after w) (world_cycles w) in
    let Q : List NodeView → Type 0 = All (λ node. IsNone node.length) in
    record { value = subst P c.self.view_is are; between = subst Q (sym are) (all_between x h (kept_row_nodes x h)) }
