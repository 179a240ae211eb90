use Rattle.fr_worked.proofs.FarFound.{some_run_comes_near, some_run_comes_near_sharply}
use Rattle.fr_worked.proofs.far_run.each_cluster_has_a_far_run.Goals as goal

pub returns-clause-older : goal.returns-clause-older
returns-clause-older c = some_run_comes_near c.one_lawful_run.ensures.lawful c.one_lawful_run.ensures.long

pub returns-clause-sharply : goal.returns-clause-sharply
returns-clause-sharply c = some_run_comes_near_sharply c.one_lawful_run.ensures.lawful c.one_lawful_run.ensures.long
