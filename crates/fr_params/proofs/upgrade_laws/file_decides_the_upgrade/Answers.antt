use Rattle.fr_params.proofs.UpgradeDecided.{one_upgrade}
use Rattle.fr_params.proofs.upgrade_laws.file_decides_the_upgrade.Goals as goal

pub returns : goal.returns
returns c = one_upgrade c.one_answer.ensures
