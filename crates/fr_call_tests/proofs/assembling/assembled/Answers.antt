use Rattle.fr_call_tests.proofs.Assembled.{few-accepted}
use Rattle.fr_call_tests.proofs.assembling.assembled.Goals as goal

pub assemble-requires : goal.assemble-requires
assemble-requires c = rw (c.nodes.ensures, c.slots.ensures) few-accepted
