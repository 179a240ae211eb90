use Rattle.fr_promise.proofs.JoinBounds.{older_join_checks_suffice, sharp_join_checks_suffice_lem}
use Rattle.fr_promise.proofs.joining.sharp_join_checks_suffice.Goals as goal

pub returns-clause-suffice : goal.returns-clause-suffice
returns-clause-suffice c = sharp_join_checks_suffice_lem

pub returns-clause-older : goal.returns-clause-older
returns-clause-older c = older_join_checks_suffice
