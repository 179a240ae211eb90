use Rattle.std.proofs.Common.{◌≡◌, ◌-◌}
use Rattle.fr_cold.specs.Cold.{StandsForStartup, leads_left}
use Rattle.fr_cold.specs.Questions.{macroticks_of_run}
use Rattle.fr_cold.proofs.cold.Cold.next.Given as goal

abbrev pub invariant-loop-self : goal.invariant-loop-self
invariant-loop-self l = record {
  stands : StandsForStartup l.params l.power l.self;
  same : leads_left l.params l.power l.fn.self ≡ leads_left l.params l.power l.self;
}

abbrev pub decreases-loop-self : goal.decreases-loop-self
decreases-loop-self l = macroticks_of_run l.params l.power - l.self.at
