use Rattle.fr_seen.proofs.CompletenessLate.{far_odd_macroticks_are_told}
use Rattle.fr_seen.proofs.CompletenessMacroticks.{far_macroticks_are_told as far_macroticks_are_told_lem}
use Rattle.fr_seen.proofs.CompletenessOver.{far_senders_are_told as far_senders_are_told_lem}
use Rattle.fr_seen.proofs.completeness.far_senders_are_told.Goals as goal

pub returns-clause-corners : goal.returns-clause-corners
returns-clause-corners c = far_senders_are_told_lem

pub returns-clause-macroticks : goal.returns-clause-macroticks
returns-clause-macroticks c = far_macroticks_are_told_lem

pub returns-clause-odd_macroticks : goal.returns-clause-odd_macroticks
returns-clause-odd_macroticks c = far_odd_macroticks_are_told
