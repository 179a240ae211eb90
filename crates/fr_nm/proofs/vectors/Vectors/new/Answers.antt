use Rattle.fr_nm.proofs.Standing.{stands-nil}
use Rattle.fr_nm.proofs.vectors.Vectors.new.Goals as goal

pub returns-clause-stands : goal.returns-clause-stands
returns-clause-stands c = stands-nil c.args.width c.new.result.entries c.new.ensures.empty
