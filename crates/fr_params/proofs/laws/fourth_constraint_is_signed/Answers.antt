use Rattle.fr_params.proofs.Fourth.{fourth-signed}
use Rattle.fr_params.proofs.laws.fourth_constraint_is_signed.Goals as goal

pub returns : goal.returns
returns c = fourth-signed
