use Rattle.fr_params.proofs.Channels.{accepted-on}
use Rattle.fr_params.proofs.upgraded_texts.accepted_are_on_channels.Goals as goal

pub returns : goal.returns
returns c = accepted-on
