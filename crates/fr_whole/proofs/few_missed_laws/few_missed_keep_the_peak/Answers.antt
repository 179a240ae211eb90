use Rattle.fr_whole.proofs.FewMissed.{few_missed_keep_the_peak, meeting_costs_no_more}
use Rattle.fr_whole.proofs.few_missed_laws.few_missed_keep_the_peak.Goals as goal

pub returns-clause-cost : goal.returns-clause-cost
returns-clause-cost c = meeting_costs_no_more

pub returns-clause-keep : goal.returns-clause-keep
returns-clause-keep c = few_missed_keep_the_peak c.histories_keep_through_losses.ensures.keep c.heard_numbers.ensures.later
