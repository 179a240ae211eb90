use Rattle.fr_params.proofs.Sane.{accepted-sane}
use Rattle.fr_params.proofs.upgraded_texts.accepted_are_sane.Goals as goal

pub returns : goal.returns
returns c = accepted-sane c.an_accepted_file_is_assembled.ensures
