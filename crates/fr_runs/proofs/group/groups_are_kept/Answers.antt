use Rattle.fr_runs.proofs.Grouped.{groups_are_kept_lem}
use Rattle.fr_runs.proofs.group.groups_are_kept.Goals as goal

pub returns : goal.returns
returns c = groups_are_kept_lem
