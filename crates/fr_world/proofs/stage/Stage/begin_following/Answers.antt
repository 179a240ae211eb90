use Rattle.std.proofs.Common.{List, sym, subst}
use Rattle.std.specs.Prelude.{All}
use Rattle.fr_node.specs.Listening.{ListenerView}
use Rattle.fr_world.specs.Stage.{StageView}
use Rattle.fr_world.specs.Succeeding.{HasHeardBoth}
use Rattle.fr_world.proofs.stage.Stage.begin_following.Goals as goal

pub begin_following-requires-clause-heard : goal.begin_following-requires-clause-heard
begin_following-requires-clause-heard c =
    let a = c.args in
    let P : List ListenerView → Type 0 = All (HasHeardBoth a.files.now a.cycle) in
    subst P (sym c.as_slice.ensures.value) (subst (λ (s : StageView). P s.listeners) (sym c.self.view_is) c.requires.heard)
