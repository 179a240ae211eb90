use Rattle.fr_worked.proofs.Begun.{is_unfollowed_sync}
use Rattle.fr_worked.proofs.JoinedKept.{is_fed, is_lawful, is_run, keeps_up}
use Rattle.fr_worked.proofs.laws.a_joined_run_keeps_up.Goals as goal

pub returns-clause-run : goal.returns-clause-run
returns-clause-run c = is_run (is_lawful c.one_lawful_run.ensures.lawful c.a_joined_run.ensures.cycles)

pub returns-clause-fed : goal.returns-clause-fed
returns-clause-fed c = is_fed c.gatherings_are_fed.ensures.cycles (is_lawful c.one_lawful_run.ensures.lawful c.a_joined_run.ensures.cycles)

pub returns-clause-unfollowed : goal.returns-clause-unfollowed
returns-clause-unfollowed c = is_unfollowed_sync

pub returns-clause-keeps : goal.returns-clause-keeps
returns-clause-keeps c = keeps_up c.gatherings_are_fed.ensures.cycles (is_lawful c.one_lawful_run.ensures.lawful c.a_joined_run.ensures.cycles)
