use Rattle.fr_report.proofs.MadeStatus.{make_status}
use Rattle.fr_report.proofs.status_laws.a_made_run_has_one_status.Goals as goal

pub returns : goal.returns
returns c = make_status c.some_answer.ensures c.some_answer-2.ensures c.a_seed_decides_one_cluster.ensures.drift c.a_seed_decides_one_cluster.ensures.script c.a_run_is_lawful.ensures.text
