use Rattle.fr_check.proofs.Judging.{breach_told}
use Rattle.fr_check.proofs.checking.check.Goals as goal

pub returns-in-Err-clause-answer : goal.returns-in-Err-clause-answer
returns-in-Err-clause-answer c = breach_told c.args.params.now c.args.trace.now c.in-Err.breach c.in-Err.ensures.found
