use Rattle.fr_params.proofs.Again.{all-upgraded}
use Rattle.fr_params.proofs.upgraded_texts.files_are_upgraded.Goals as goal

pub returns : goal.returns
returns c = all-upgraded c.one_answer.ensures c.accepted_are_sane.ensures
