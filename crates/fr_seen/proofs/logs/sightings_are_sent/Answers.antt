use Rattle.fr_seen.proofs.SightingLaws.{sightings_are_sent}
use Rattle.fr_seen.proofs.logs.sightings_are_sent.Goals as goal

pub returns : goal.returns
returns c = sightings_are_sent
