use Rattle.std.proofs.Common.{rules}
use Rattle.fr_air.proofs.HeldDelays.{kept-none}
use Rattle.fr_air.proofs.kept.KeptDrift.plain.Goals as goal

pub invariant_of-result : goal.invariant_of-result
invariant_of-result c = kept-none c.args.drift c.in_ok-delays.delays.items (c.in_ok-delays.ensures.items_if_clones_equal (λ y is. search rules))
