use Rattle.fr_precision.proofs.BoundLemmas.{key_slots_act_early, older_checks_suffice, sharp_checks_reach, sharp_checks_suffice_lem}
use Rattle.fr_precision.proofs.bounds.sharp_checks_suffice.Goals as goal

pub returns-clause-suffice : goal.returns-clause-suffice
returns-clause-suffice c = sharp_checks_suffice_lem

pub returns-clause-older : goal.returns-clause-older
returns-clause-older c = older_checks_suffice

pub returns-clause-early : goal.returns-clause-early
returns-clause-early c = key_slots_act_early

pub returns-clause-reach : goal.returns-clause-reach
returns-clause-reach c = sharp_checks_reach
