use Rattle.fr_call_tests.proofs.Accepted.{length-taken}
use Rattle.fr_call_tests.proofs.adding.lengthened.Goals as goal

pub set_length-requires-clause-taken : goal.set_length-requires-clause-taken
set_length-requires-clause-taken g = length-taken g.in_ok-params.params g.even-drift.result g.in_ok-params.ensures g.even-drift.ensures.stands
