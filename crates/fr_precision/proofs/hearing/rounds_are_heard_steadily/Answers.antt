use Rattle.fr_precision.proofs.HearingLemmas.{hearers_keep_senders, hears_all_steadily}
use Rattle.fr_precision.proofs.RoundLemmas.{rounds_are_sharp, rounds_in_reach_are_sharp}
use Rattle.fr_precision.proofs.hearing.rounds_are_heard_steadily.Goals as goal

pub returns-clause-all : goal.returns-clause-all
returns-clause-all c = hears_all_steadily

pub returns-clause-keep : goal.returns-clause-keep
returns-clause-keep c = hearers_keep_senders

pub returns-clause-reach : goal.returns-clause-reach
returns-clause-reach c = rounds_in_reach_are_sharp

pub returns-clause-double : goal.returns-clause-double
returns-clause-double c = rounds_are_sharp
