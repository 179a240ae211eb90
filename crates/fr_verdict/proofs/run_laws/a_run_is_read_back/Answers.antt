use Rattle.fr_verdict.proofs.RunFits.{runs-are-read-back, runs-fit}
use Rattle.fr_verdict.proofs.run_laws.a_run_is_read_back.Goals as goal

pub returns-clause-fit : goal.returns-clause-fit
returns-clause-fit c = runs-fit

pub returns-clause-read : goal.returns-clause-read
returns-clause-read c = runs-are-read-back
