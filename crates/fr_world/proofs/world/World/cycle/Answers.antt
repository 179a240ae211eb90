use Rattle.std.proofs.Common.{◌+◌, rules, refl, ap, subst}
use Rattle.std.specs.Prelude.{All}
use Rattle.fr_air.specs.Listening.{StartsEarly}
use Rattle.fr_world.specs.World.{inputs_of, setting_after, IsRowOf, WorldView}
use Rattle.fr_world.proofs.world.World.cycle.Goals as goal

pub returns : goal.returns
returns c =
    let P : WorldView → Type 0 = λ w. IsRowOf (setting_after w) w.cycles c.run_cycle.new.row in
    let done = c.run_cycle.ensures in
    let row : P c.args.self.now = subst P c.self.view_is done.row in
    let Q : WorldView → Type 0 = λ w. All (StartsEarly (inputs_of w) w.cycles) c.run_cycle.new.row.rows in
    let early : Q c.args.self.now = subst Q c.self.view_is done.early in
    let go_on : WorldView → WorldView = λ w. record w { cycles = w.cycles + 1 } in
    ((refl, λ w. tt, ap go_on c.self.view_is), record { ends = tt; over = search rules; row = row; early = early })
