use Rattle.std.proofs.Common.{◌≡◌, ◌+◌, List, subst, sym, ◌∙◌, rules}
use Rattle.std.specs.Prelude.{All}
use Rattle.fr_base.specs.declared.node_row.NodeRow.{NodeRow}
use Rattle.fr_time.specs.Placed.{IsPlacedRow}
use Rattle.fr_time.specs.Position.{grid_for}
use Rattle.fr_world.specs.World.{WorldView}
use Rattle.fr_series.proofs.Worlds.{followed-next}
use Rattle.fr_series.proofs.writing.next_rows.Goals as goal

pub returns-clause-placed : goal.returns-clause-placed
returns-clause-placed c =
    let P : List NodeRow → Type 0 = λ rows. All (IsPlacedRow (grid_for c.args.world.now.params)) rows in
    subst P (sym c.assign.ensures) c.in-Some.ensures.row.placed

pub returns-clause-following : goal.returns-clause-following
returns-clause-following c =
    let w : WorldView = c.args.world.now in
    let after : WorldView = c.cycle.follows.lender-at-none in
    let ran : after ≡ record w { cycles = w.cycles + 1 } = search rules in
    c.following.ensures ∙ followed-next w after ran
