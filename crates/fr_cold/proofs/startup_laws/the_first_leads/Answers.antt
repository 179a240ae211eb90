use Rattle.fr_cold.proofs.Phases.{leads-alone}
use Rattle.fr_cold.proofs.startup_laws.the_first_leads.Goals as goal

pub returns : goal.returns
returns c = λ p switches at node sane starters joined stays first. leads-alone p switches at node sane starters joined stays first
