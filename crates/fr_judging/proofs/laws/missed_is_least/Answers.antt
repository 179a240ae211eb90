use Rattle.fr_judging.proofs.LeastMissed.{fewer_missed_contradict_lem, missed_is_least_lem, none_missed_suffices_lem, whatever_missed_contradicts_lem}
use Rattle.fr_judging.proofs.laws.missed_is_least.Goals as goal

pub returns-clause-fewer : goal.returns-clause-fewer
returns-clause-fewer c = fewer_missed_contradict_lem

pub returns-clause-least : goal.returns-clause-least
returns-clause-least c = missed_is_least_lem

pub returns-clause-none : goal.returns-clause-none
returns-clause-none c = none_missed_suffices_lem

pub returns-clause-whatever : goal.returns-clause-whatever
returns-clause-whatever c = whatever_missed_contradicts_lem
