use Rattle.std.proofs.Common.{◌≡◌, ◌∙◌, List, sym, subst}
use Rattle.std.specs.List.{insert}
use Rattle.fr_node.specs.View.{NodeView}
use Rattle.fr_air.specs.Placing.{put}
use Rattle.fr_world.proofs.joining.put.Goals as goal

pub returns-clause-placed : goal.returns-clause-placed
returns-clause-placed c =
    let a = c.args in
    let P : List NodeView → Type 0 = λ nodes. put (λ n. n.id) a.node nodes ≡ insert nodes c.place_of-place.result a.node in
    c.in-Ok.ensures.items ∙ sym (subst P c.as_slice.ensures.value (c.place_of-place.ensures.value a.node (sym c.id.ensures)))
