use Rattle.fr_call_tests.proofs.Accepted.{delay-taken}
use Rattle.fr_call_tests.proofs.adding.delayed.Goals as goal

pub set_delay-requires-clause-taken : goal.set_delay-requires-clause-taken
set_delay-requires-clause-taken g = delay-taken g.in_ok-params.params g.even-drift.result g.in_ok-params.ensures g.even-drift.ensures.stands
