use Rattle.std.proofs.Common.{[]}
use Rattle.fr_call_tests.proofs.Accepted.{arbitrary-taken, say-taken}
use Rattle.fr_call_tests.proofs.adding.saying.Goals as goal

pub add_arbitrary-requires : goal.add_arbitrary-requires
add_arbitrary-requires g = arbitrary-taken g.in_ok-params.params g.empty-script.result g.in_ok-params.ensures g.empty-script.ensures.stands

pub add_say-requires-clause-taken : goal.add_say-requires-clause-taken
add_say-requires-clause-taken g =
    say-taken g.in_ok-params.params g.add_arbitrary.new.self g.in_ok-params.ensures (g.in_ok-add_arbitrary.ensures.adds.stands [] g.empty-script.ensures.stands)
