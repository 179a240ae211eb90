use Rattle.fr_worked.proofs.JoinedKept.{is_lawful, is_unfollowed_run, keeps_together}
use Rattle.fr_worked.proofs.laws.a_joined_run_keeps_together.Goals as goal

pub returns-clause-unfollowed : goal.returns-clause-unfollowed
returns-clause-unfollowed c = is_unfollowed_run (is_lawful c.one_lawful_run.ensures.lawful c.a_joined_run.ensures.cycles)

pub returns-clause-together : goal.returns-clause-together
returns-clause-together c = keeps_together (is_lawful c.one_lawful_run.ensures.lawful c.a_joined_run.ensures.cycles)
