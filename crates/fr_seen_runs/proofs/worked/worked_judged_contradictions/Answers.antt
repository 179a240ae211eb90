use Rattle.std.proofs.Common.{refl}
use Rattle.fr_seen_runs.proofs.WorkedFaults.{none_stated}
use Rattle.fr_seen_runs.proofs.WorkedJudged.{judged_log_is, judged_offset_is_told, lost_log_is, missed_log_is}
use Rattle.fr_seen_runs.proofs.WorkedJudgedRun.{judged_run_is}
use Rattle.fr_seen_runs.specs.WorkedFaults.{late_log, offset_told}
use Rattle.fr_seen_runs.specs.WorkedJudged.{judged_cluster}
use Rattle.fr_seen_runs.proofs.worked.worked_judged_contradictions.Goals as goal

pub returns-clause-plain : goal.returns-clause-plain
returns-clause-plain c = judged_log_is

pub returns-clause-run : goal.returns-clause-run
returns-clause-run c = judged_run_is c.one_lawful_run.ensures.lawful

pub returns-clause-missed : goal.returns-clause-missed
returns-clause-missed c = missed_log_is

pub returns-clause-offset : goal.returns-clause-offset
returns-clause-offset c = judged_offset_is_told

pub returns-clause-lost : goal.returns-clause-lost
returns-clause-lost c = lost_log_is

pub returns-clause-of_none : goal.returns-clause-of_none
returns-clause-of_none c = none_stated c.no_run_is_contradicted.ensures.sync judged_cluster (late_log 250) offset_told refl judged_offset_is_told.verdict
