use Rattle.std.proofs.Common.{arith}
use Rattle.std.proofs.lemmas.Bool.Decides.{nat_tests}
use Rattle.fr_node.proofs.Placing.{begun_by, not_ended_by}
use Rattle.fr_node.proofs.quotients.lies_between.Goals as goal

pub returns-then-begin-micros-clause-begun : goal.returns-then-begin-micros-clause-begun
returns-then-begin-micros-clause-begun c _ =
    begun_by c.args.begin c.args.micros c.args.macros c.args.length c.args.ticks c.requires.some (grind (arith, nat_tests, c.if-begin-micros.true))

pub returns-then-begin-micros-clause-not_ended : goal.returns-then-begin-micros-clause-not_ended
returns-then-begin-micros-clause-not_ended c less =
    not_ended_by c.args.end c.args.micros c.args.macros c.args.length c.args.ticks c.requires.some c.requires.long (grind (arith, nat_tests, less))
