use Rattle.fr_worked.proofs.JoiningLossesKeep.{joining_files_keep, joining_files_lose}
use Rattle.fr_worked.proofs.joining_losses.joining_files_lose_frames.Goals as goal

pub returns-clause-covered : goal.returns-clause-covered
returns-clause-covered c = joining_files_lose c.one_lawful_run.ensures.lawful c.one_lawful_run.ensures.long

pub returns-clause-keeps : goal.returns-clause-keeps
returns-clause-keeps c = joining_files_keep c.one_lawful_run.ensures.only c.joined_files_keep_through_losses.ensures.keep
