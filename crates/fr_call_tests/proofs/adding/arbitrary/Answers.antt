use Rattle.fr_call_tests.proofs.Accepted.{arbitrary-taken}
use Rattle.fr_call_tests.proofs.adding.arbitrary.Goals as goal

pub add_arbitrary-requires : goal.add_arbitrary-requires
add_arbitrary-requires g = arbitrary-taken g.in_ok-params.params g.empty-script.result g.in_ok-params.ensures g.empty-script.ensures.stands
