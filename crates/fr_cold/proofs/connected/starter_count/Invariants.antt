use Rattle.std.proofs.Common.{◌≡◌, ◌≤◌, ◌<◌, ◌-◌}
use Rattle.fr_cold.specs.ColdText.{starters_up_to}
use Rattle.fr_cold.proofs.connected.starter_count.Given as goal

abbrev pub invariant-loop-number : goal.invariant-loop-number
invariant-loop-number l = record { from : 1 ≤ l.number; few : l.count < l.number; count : l.count ≡ starters_up_to l.params (l.number - 1) }
