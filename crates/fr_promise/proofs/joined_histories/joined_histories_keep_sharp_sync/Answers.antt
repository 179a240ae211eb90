use Rattle.fr_promise.proofs.FirstRates.{first_rates_last_so}
use Rattle.fr_promise.proofs.JoinedCycles.{joined_histories_keep_sharp_precision}
use Rattle.fr_promise.proofs.JoinedListeners.{joined_listeners_join, joined_listeners_join_up_to}
use Rattle.fr_promise.proofs.JoinedRuns.{first_rates_last_on, joined_histories_keep_sharp_sync}
use Rattle.fr_promise.proofs.joined_histories.joined_histories_keep_sharp_sync.Goals as goal

pub returns-clause-keep : goal.returns-clause-keep
returns-clause-keep c = joined_histories_keep_sharp_sync

pub returns-clause-on : goal.returns-clause-on
returns-clause-on c = first_rates_last_on

pub returns-clause-lasts : goal.returns-clause-lasts
returns-clause-lasts c = first_rates_last_so

pub returns-clause-cycles : goal.returns-clause-cycles
returns-clause-cycles c = joined_histories_keep_sharp_precision

pub returns-clause-join : goal.returns-clause-join
returns-clause-join c = joined_listeners_join

pub returns-clause-join_up_to : goal.returns-clause-join_up_to
returns-clause-join_up_to c = joined_listeners_join_up_to
