use Rattle.std.proofs.Common.{List, sym, subst}
use Rattle.std.specs.Prelude.{All}
use Rattle.fr_node.specs.View.{NodeView}
use Rattle.fr_air.specs.Cycling.{IsReady}
use Rattle.fr_world.specs.Stage.{StageView}
use Rattle.fr_world.proofs.stage.Stage.end_followers.Goals as goal

pub end_followers-requires : goal.end_followers-requires
end_followers-requires c =
    let a = c.args in
    let P : List NodeView → Type 0 = All (IsReady a.files.now a.cycle) in
    record { ready = subst P (sym c.as_mut_slice.ensures.value) (subst (λ (s : StageView). P s.followers) (sym c.self.view_is) c.requires) }
