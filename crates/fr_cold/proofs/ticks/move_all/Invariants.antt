use Rattle.std.proofs.Common.{◌≤◌}
use Rattle.fr_cold.specs.Cluster.{States, moved_states}
use Rattle.fr_cold.specs.Cold.{Agrees}
use Rattle.fr_cold.proofs.Steps.{AreDone}
use Rattle.fr_cold.proofs.ticks.move_all.Given as goal

abbrev pub invariant-loop-number : goal.invariant-loop-number
invariant-loop-number l = record {
  from : 1 ≤ l.number;
  done : (states : States) → Agrees l.fn.table states → AreDone (moved_states l.params l.tick states) states l.number l.table;
}
