use Rattle.std.proofs.Common.{◌≡◌, ◌≤◌, ◌-◌, suc}
use Rattle.fr_cold.specs.Leads.{leads_at}
use Rattle.fr_cold.specs.Questions.{switches_of}
use Rattle.fr_cold.proofs.cold.Cold.beginner.Given as goal

abbrev pub invariant-loop-number : goal.invariant-loop-number
invariant-loop-number l = record {
  from : 1 ≤ l.number;
  asked : leads_at l.params (switches_of l.params l.power) l.self.at (suc l.self.told) (64 - l.self.told) ≡ leads_at l.params (switches_of l.params l.power) l.self.at l.number (65 - l.number);
}
