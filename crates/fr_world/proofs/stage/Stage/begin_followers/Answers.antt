use Rattle.std.proofs.Common.{List, sym, subst}
use Rattle.std.specs.Prelude.{All}
use Rattle.fr_node.specs.View.{NodeView}
use Rattle.fr_air.specs.Cycling.{IsWaiting}
use Rattle.fr_world.specs.Stage.{StageView}
use Rattle.fr_world.proofs.stage.Stage.begin_followers.Goals as goal

pub begin_all-requires : goal.begin_all-requires
begin_all-requires c =
    let a = c.args in
    let P : List NodeView → Type 0 = All (IsWaiting a.files.now a.cycle) in
    record { waiting = subst P (sym c.as_mut_slice.ensures.value) (subst (λ (s : StageView). P s.followers) (sym c.self.view_is) c.requires) }
