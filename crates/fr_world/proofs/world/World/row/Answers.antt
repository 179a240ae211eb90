use Rattle.std.proofs.Common.{◌≡◌, ℕ, ◌+◌, subst}
use Rattle.fr_world.specs.World.{setting_after, IsRowOf, WorldView}
use Rattle.fr_world.proofs.world.World.row.Goals as goal

pub returns-else-self-eq0-clause-row : goal.returns-else-self-eq0-clause-row
returns-else-self-eq0-clause-row c =
    let P : WorldView → Type 0 = λ w. (earlier : ℕ) → w.cycles ≡ earlier + 1 → IsRowOf (setting_after w) earlier c.self.inside.row in
    subst P c.self.view_is c.self.invariant.latest
