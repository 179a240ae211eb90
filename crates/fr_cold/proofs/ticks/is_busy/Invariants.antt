use Rattle.std.proofs.Common.{◌≡◌, ◌≤◌, ◌-◌}
use Rattle.fr_cold.specs.Cluster.{States, is_busy}
use Rattle.fr_cold.specs.Cold.{Agrees}
use Rattle.fr_cold.proofs.ticks.is_busy.Given as goal

abbrev pub invariant-loop-number : goal.invariant-loop-number
invariant-loop-number l = record {
  from : 1 ≤ l.number;
  busy : (states : States) → Agrees l.table states → l.busy ≡ is_busy l.params l.tick states l.channel (l.number - 1);
}
