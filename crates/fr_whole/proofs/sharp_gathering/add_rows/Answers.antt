use Rattle.std.proofs.Common.{◌∙◌, List, subst, sym}
use Rattle.std.specs.Prelude.{All}
use Rattle.fr_base.specs.declared.node_row.NodeRow.{NodeRow}
use Rattle.fr_time.specs.Placed.{IsPlacedRow}
use Rattle.fr_time.specs.Position.{grid_for}
use Rattle.fr_world.specs.World.{WorldView}
use Rattle.fr_report.proofs.Adding.{last_row}
use Rattle.fr_series.proofs.Worlds.{followed-next}
use Rattle.fr_whole.proofs.sharp_gathering.add_rows.Goals as goal

pub returns-clause-placed : goal.returns-clause-placed
returns-clause-placed c =
    let w : WorldView = c.args.world.now in
    let P : List NodeRow → Type 0 = λ rows. All (IsPlacedRow (grid_for w.params)) rows in
    subst P (sym c.assign.ensures) (last_row w c.add_next.new.world c.in-Some.row.now c.add_next.ensures.ran c.in-Some.ensures.row).placed

pub returns-clause-following : goal.returns-clause-following
returns-clause-following c = c.following.ensures ∙ followed-next c.args.world.now c.add_next.new.world c.add_next.ensures.ran
