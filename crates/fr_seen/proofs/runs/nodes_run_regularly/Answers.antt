use Rattle.fr_seen.proofs.RunLaws.{nodes_go_on, nodes_have_both_rows, nodes_run_regularly}
use Rattle.fr_seen.proofs.runs.nodes_run_regularly.Goals as goal

pub returns-clause-regular : goal.returns-clause-regular
returns-clause-regular c = nodes_run_regularly

pub returns-clause-both : goal.returns-clause-both
returns-clause-both c = nodes_have_both_rows

pub returns-clause-on : goal.returns-clause-on
returns-clause-on c = nodes_go_on
