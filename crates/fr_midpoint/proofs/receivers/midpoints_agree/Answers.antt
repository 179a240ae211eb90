use Rattle.fr_midpoint.proofs.SaidLemmas.{one_between_lem, two_alone_lem, two_apart_lem}
use Rattle.fr_midpoint.proofs.receivers.midpoints_agree.Goals as goal

pub returns-clause-apart : goal.returns-clause-apart
returns-clause-apart c = two_apart_lem

pub returns-clause-alone : goal.returns-clause-alone
returns-clause-alone c = two_alone_lem

pub returns-clause-between : goal.returns-clause-between
returns-clause-between c = one_between_lem
