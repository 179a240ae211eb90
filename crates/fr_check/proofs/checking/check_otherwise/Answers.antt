use Rattle.std.proofs.Common.{inl}
use Rattle.fr_verdict.proofs.Finding.{found_breach_is_first}
use Rattle.fr_check.proofs.checking.check_otherwise.Goals as goal

pub returns-in-Err-clause-refused : goal.returns-in-Err-clause-refused
returns-in-Err-clause-refused c = inl (found_breach_is_first c.args.params.now c.args.trace.now c.in-Err.breach c.in-Err.ensures.found)
