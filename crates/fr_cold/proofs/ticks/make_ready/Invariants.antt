use Rattle.std.proofs.Common.{◌≤◌}
use Rattle.fr_cold.specs.Cluster.{states_at}
use Rattle.fr_cold.specs.Questions.{switches_of}
use Rattle.fr_cold.specs.Events.{ready_at}
use Rattle.fr_cold.proofs.Steps.{AreDone}
use Rattle.fr_cold.proofs.ticks.make_ready.Given as goal

abbrev pub invariant-loop-number : goal.invariant-loop-number
invariant-loop-number l = record {
  from : 1 ≤ l.number;
  done : AreDone (ready_at l.params l.power l.tick) (states_at l.params (switches_of l.params l.power) l.tick) l.number l.table;
}
