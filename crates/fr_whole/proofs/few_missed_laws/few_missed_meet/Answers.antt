use Rattle.fr_whole.proofs.FewMissed.{few_missed_meet, one_more_may_part}
use Rattle.fr_whole.proofs.few_missed_laws.few_missed_meet.Goals as goal

pub returns-clause-meet : goal.returns-clause-meet
returns-clause-meet c = few_missed_meet

pub returns-clause-part : goal.returns-clause-part
returns-clause-part c = one_more_may_part
