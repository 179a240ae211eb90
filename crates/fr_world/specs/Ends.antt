-- What a call of `cycle` makes of a world: while its row is held (`the_row`) the world is lent, and then it is as
-- `IsCycled` says.
use Rattle.std.specs.Prelude.{◌≡◌, ◌+◌, ⊤, Option, Some, None}
use Rattle.std.specs.Borrow.{follows_so, Bor, Fml, MutBor}
use mathlib.Core.Option.{none}
use Rattle.fr_base.specs.declared.cycle_row.CycleRow.{CycleRow}
use Rattle.fr_world.specs.World.{WorldView}
use Rattle.fr_world.specs.contracts.world.World.{the_row}

-- it goes on by one cycle where it answers a row, and else nothing changes
abbrev pub IsCycled : WorldView → Option (Bor CycleRow) → WorldView → Type 0
IsCycled old None new = new ≡ old
IsCycled old (Some row) new = new ≡ record old { cycles = old.cycles + 1 }

abbrev pub LendsItsRow : MutBor WorldView → Option (Bor CycleRow) → Fml
LendsItsRow w result = follows_so the_row the_row w.ghost_name none (λ _ _. ⊤) (λ v. IsCycled w.now result v)
