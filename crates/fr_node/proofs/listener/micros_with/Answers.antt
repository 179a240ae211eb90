use Rattle.std.proofs.Common.{arith}
use Rattle.std.proofs.lemmas.Int.{ints}
use Rattle.fr_cluster.specs.declared.names.ParamName.TheVariants as name
use Rattle.fr_node.proofs.listener.micros_with.Goals as goal

pub added-requires-clause-rate : goal.added-requires-clause-rate
added-requires-clause-rate c =
    let limit = c.sane.ensures.ranges name.pRateCorrectionOut in
    record { low = omega (arith, ints, limit.1, c.requires.low); high = omega (arith, ints, limit.1, c.requires.high) }
