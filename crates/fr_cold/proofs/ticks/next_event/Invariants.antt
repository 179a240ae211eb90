use Rattle.std.proofs.Common.{◌≤◌}
use Rattle.fr_cold.specs.Events.{IsQuietUpTo}
use Rattle.fr_cold.proofs.ticks.next_event.Given as goal

abbrev pub invariant-loop-number : goal.invariant-loop-number
invariant-loop-number l = record {
  from : 1 ≤ l.number;
  low : l.tick ≤ l.next;
  high : l.next ≤ l.end;
  quiet : IsQuietUpTo l.params l.power l.table l.tick l.next l.number;
}
