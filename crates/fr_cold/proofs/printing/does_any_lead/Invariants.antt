use Rattle.std.proofs.Common.{◌≡◌, ◌≤◌, ◌-◌}
use Rattle.fr_cold.specs.Cold.{state_in}
use Rattle.fr_cold.specs.ColdText.{does_any_lead}
use Rattle.fr_cold.proofs.printing.does_any_lead.Given as goal

abbrev pub invariant-loop-number : goal.invariant-loop-number
invariant-loop-number l = record { from : 1 ≤ l.number; any : l.any ≡ does_any_lead (state_in l.cold.states) (l.number - 1) }
