use Rattle.fr_runs.proofs.FirstStart.{first_start_is_near, first_start_is_natural}
use Rattle.fr_runs.proofs.listening.first_starts_are_near.Goals as goal

pub returns-clause-near : goal.returns-clause-near
returns-clause-near c = first_start_is_near

pub returns-clause-natural : goal.returns-clause-natural
returns-clause-natural c = first_start_is_natural
