use Rattle.fr_whole.proofs.Observed.{observe_status}
use Rattle.fr_whole.proofs.status_laws.an_observation_has_one_status.Goals as goal

pub returns : goal.returns
returns c = observe_status c.one_answer.ensures c.some_answer.ensures c.one_answer-2.ensures c.some_answer-2.ensures c.an_observed_text_is_so.ensures
