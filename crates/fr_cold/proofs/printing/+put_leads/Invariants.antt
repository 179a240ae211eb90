use Rattle.std.proofs.Common.{length}
use Rattle.fr_cold.specs.Cold.{leads_left}
use Rattle.fr_cold.proofs.printing.+put_leads.Given as goal

abbrev pub decreases-put_leads : goal.decreases-put_leads
decreases-put_leads g l = length (leads_left l.params.now l.power.now l.cold.now)
