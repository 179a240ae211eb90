use Rattle.std.proofs.Common.{arith}
use Rattle.std.proofs.lemmas.Int.{ints, to_z-of_z}
use Rattle.fr_drift.proofs.draft.is_rate.Goals as goal
use Rattle.fr_drift.proofs.draft.is_rate.Goals.{then-rate-limit, else-rate-limit}

pub returns : goal.returns
returns c =
    let low = c.value-limit.ensures.range.0 in
    let high = c.value-limit.ensures.range.1 in
    let value = c.value-limit.ensures.value in
    elim c.if-rate-limit.branch [ then-rate-limit w ↦ grind (arith, ints, to_z-of_z) | else-rate-limit w ↦ grind (arith, ints, to_z-of_z) ]
