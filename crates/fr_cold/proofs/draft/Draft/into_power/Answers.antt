use Rattle.fr_cold.proofs.Making.{stands-made}
use Rattle.fr_cold.proofs.draft.Draft.into_power.Goals as goal

pub returns : goal.returns
returns c = λ records h. stands-made c.args.cycles c.args.self records h c.requires.told
