use Rattle.fr_call_tests.proofs.Accepted.{start-taken}
use Rattle.fr_call_tests.proofs.adding.started.Goals as goal

pub set_start-requires-clause-taken : goal.set_start-requires-clause-taken
set_start-requires-clause-taken g = start-taken g.in_ok-params.params g.even-drift.result g.in_ok-params.ensures g.even-drift.ensures.stands
