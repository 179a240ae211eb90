use Rattle.std.proofs.Common.{arith, ◌≤◌, ◌*◌}
use Rattle.std.proofs.lemmas.Bool.Decides.{nat_tests}
use Rattle.fr_node.proofs.Placing.{nearly}
use Rattle.fr_node.proofs.quotients.quotient.Goals as goal

pub returns-then-rest-lt4294967296-clause-value : goal.returns-then-rest-lt4294967296-clause-value
returns-then-rest-lt4294967296-clause-value c =
    let before : c.args.near * c.args.length ≤ c.args.ticks = grind (arith, nat_tests, c.if-ticks-before.false) in
    omega (arith, c.from.ensures, nearly c.args.near c.args.length c.args.ticks c.requires.some before)
