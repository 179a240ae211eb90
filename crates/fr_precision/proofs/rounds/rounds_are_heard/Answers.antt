use Rattle.fr_precision.proofs.Values.{hearers_keep_one, hears_all}
use Rattle.fr_precision.proofs.rounds.rounds_are_heard.Goals as goal

pub returns-clause-all : goal.returns-clause-all
returns-clause-all c = hears_all

pub returns-clause-keep : goal.returns-clause-keep
returns-clause-keep c = hearers_keep_one
