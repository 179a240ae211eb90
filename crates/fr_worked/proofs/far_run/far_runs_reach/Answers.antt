use Rattle.fr_worked.proofs.FarNumbers.{far_skews_are_near}
use Rattle.fr_worked.proofs.FarWorked.{worked_far_runs, worked_older_far_run}
use Rattle.fr_worked.proofs.RunFar.{far_runs_reach_sharply}
use Rattle.fr_worked.proofs.RunFarOlder.{far_runs_reach_older}
use Rattle.fr_worked.proofs.far_run.far_runs_reach.Goals as goal

pub returns-clause-sharply : goal.returns-clause-sharply
returns-clause-sharply c = far_runs_reach_sharply c.one_lawful_run.ensures.lawful c.one_lawful_run.ensures.long

pub returns-clause-near : goal.returns-clause-near
returns-clause-near c = far_skews_are_near

pub returns-clause-older : goal.returns-clause-older
returns-clause-older c = far_runs_reach_older c.one_lawful_run.ensures.lawful c.one_lawful_run.ensures.long

pub returns-clause-met : goal.returns-clause-met
returns-clause-met c = worked_far_runs

pub returns-clause-older_met : goal.returns-clause-older_met
returns-clause-older_met c = worked_older_far_run
