use Rattle.std.proofs.Common.{◌≡◌, ◌≤◌, ◌-◌, suc}
use Rattle.fr_cold.specs.ColdText.{least_apart}
use Rattle.fr_cold.proofs.connected.apart_after.Given as goal

abbrev pub invariant-loop-number : goal.invariant-loop-number
invariant-loop-number l = record { from : 1 ≤ l.number; asked : least_apart l.params l.node (suc l.node) (64 - l.node) ≡ least_apart l.params l.node l.number (65 - l.number) }
