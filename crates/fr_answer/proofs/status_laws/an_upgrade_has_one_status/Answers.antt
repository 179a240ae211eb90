use Rattle.fr_answer.proofs.ParameterStatus.{upgrade_status}
use Rattle.fr_answer.proofs.status_laws.an_upgrade_has_one_status.Goals as goal

pub returns : goal.returns
returns c = upgrade_status c.one_answer.ensures c.some_answer.ensures c.files_are_upgraded.ensures
