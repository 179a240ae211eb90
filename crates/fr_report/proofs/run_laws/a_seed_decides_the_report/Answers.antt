use Rattle.fr_report.proofs.ReportDecided.{one_made_report}
use Rattle.fr_report.proofs.run_laws.a_seed_decides_the_report.Goals as goal

pub returns : goal.returns
returns c = one_made_report c.a_seed_decides_one_cluster.ensures.one c.files_decide_one_run.ensures.only
