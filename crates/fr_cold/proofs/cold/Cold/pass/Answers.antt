use Rattle.std.proofs.Common.{◌≡◌, ap, arith}
use Rattle.fr_cold.specs.Cold.{ColdView}
use Rattle.fr_cold.specs.Events.{ready_at}
use Rattle.fr_cold.proofs.Runs.{passed}
use Rattle.fr_cold.proofs.cold.Cold.pass.Goals as goal

pub invariant_of-self : goal.invariant_of-self
invariant_of-self c =
    let at_is : c.self.inside.at ≡ c.args.self.now.at = ap (λ (x : ColdView). x.at) c.self.view_is in
    let few = c.end_tick-end.ensures.few in
    let value = c.end_tick-end.ensures.value in
    let within = c.requires.within in (omega arith, omega arith)

pub returns-clause-stands : goal.returns-clause-stands
returns-clause-stands c =
    let at_is : c.self.inside.at ≡ c.args.self.now.at = ap (λ (x : ColdView). x.at) c.self.view_is in
    let within = c.requires.within in record {
      within = omega arith;
      states =
          passed c.args.params.now c.args.power.now c.self.inside.at c.move_all.new.table
          (c.move_all.ensures (ready_at c.args.params.now c.args.power.now c.self.inside.at) c.make_ready.ensures);
    }
