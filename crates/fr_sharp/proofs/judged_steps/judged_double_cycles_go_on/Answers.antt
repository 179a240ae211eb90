use Rattle.fr_sharp.proofs.JudgedLaws.{judged_goes_on_lem, known_is_met_lem, sharp_sync_is_known_lem, stated_runs_are_known_lem, unfollowed_goes_on_lem}
use Rattle.fr_sharp.proofs.judged_steps.judged_double_cycles_go_on.Goals as goal

pub returns-clause-steps : goal.returns-clause-steps
returns-clause-steps c = judged_goes_on_lem

pub returns-clause-unfollowed : goal.returns-clause-unfollowed
returns-clause-unfollowed c = unfollowed_goes_on_lem

pub returns-clause-met : goal.returns-clause-met
returns-clause-met c = known_is_met_lem

pub returns-clause-synced : goal.returns-clause-synced
returns-clause-synced c = sharp_sync_is_known_lem

pub returns-clause-stated : goal.returns-clause-stated
returns-clause-stated c = stated_runs_are_known_lem
