use Rattle.fr_params.proofs.UpgradedAccepted.{texts-accepted}
use Rattle.fr_params.proofs.upgraded_texts.texts_are_accepted.Goals as goal

pub returns : goal.returns
returns c = texts-accepted
