use Rattle.fr_sightings.proofs.Silence.{silence_lasts}
use Rattle.fr_sightings.proofs.laws.silence_ends_all.Goals as goal

pub returns : goal.returns
returns c = silence_lasts
