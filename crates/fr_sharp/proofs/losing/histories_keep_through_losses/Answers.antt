use Rattle.fr_sharp.proofs.BearingKinds.{through_is_apart}
use Rattle.fr_sharp.proofs.RowsHear.{rows_hear}
use Rattle.fr_sharp.proofs.LossLemmas.{sharp_after_two_whole}
use Rattle.fr_sharp.proofs.LostHistories.{histories_keep_through_losses_lem}
use Rattle.fr_sharp.proofs.losing.histories_keep_through_losses.Goals as goal

pub returns-clause-keep : goal.returns-clause-keep
returns-clause-keep c = histories_keep_through_losses_lem rows_hear c.losses_last.ensures.keep c.losses_last.ensures.apart c.heard_numbers.ensures.goes

pub returns-clause-again : goal.returns-clause-again
returns-clause-again c = sharp_after_two_whole

pub returns-clause-apart : goal.returns-clause-apart
returns-clause-apart c = through_is_apart
