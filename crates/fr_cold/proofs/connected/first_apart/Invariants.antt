use Rattle.std.proofs.Common.{◌≡◌, ◌≤◌, ◌-◌}
use Rattle.fr_cold.specs.ColdText.{first_pair_in}
use Rattle.fr_cold.proofs.connected.first_apart.Given as goal

abbrev pub invariant-loop-number : goal.invariant-loop-number
invariant-loop-number l = record { from : 1 ≤ l.number; asked : first_pair_in l.params 1 64 ≡ first_pair_in l.params l.number (65 - l.number) }
