use Rattle.fr_seen.proofs.CompletenessOddWithin.{near_odd_senders_are_within}
use Rattle.fr_seen.proofs.CompletenessWithin.{near_senders_are_within as near_senders_are_within_lem}
use Rattle.fr_seen.proofs.completeness.near_senders_are_within.Goals as goal

pub returns-clause-even : goal.returns-clause-even
returns-clause-even c = near_senders_are_within_lem

pub returns-clause-odd : goal.returns-clause-odd
returns-clause-odd c = near_odd_senders_are_within
