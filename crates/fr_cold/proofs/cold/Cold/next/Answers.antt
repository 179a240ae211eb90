use Rattle.std.proofs.Common.{◌≡◌, ◌∙◌, ◌≤◌, ap, arith}
use Rattle.fr_cold.specs.Cold.{ColdView}
use Rattle.fr_cold.specs.Questions.{macroticks_of_run}
use Rattle.fr_cold.proofs.Runs.{rest-over}
use Rattle.fr_cold.proofs.cold.Cold.next.Goals as goal

pub returns-clause-tells : goal.returns-clause-tells
returns-clause-tells c =
    let value = c.end_tick-end.ensures.value in
    let at_is : c.self.inside.at ≡ c.loop-self.self.at = ap (λ (x : ColdView). x.at) c.self.view_is in
    let within = c.loop-self.invariant.stands.within in
    let over : macroticks_of_run c.args.params.now c.args.power.now ≤ c.loop-self.self.at = omega arith in record {
      none = c.loop-self.invariant.same ∙ rest-over c.args.params.now c.args.power.now c.loop-self.self.at c.loop-self.self.told over;
      ended = omega arith;
    }
