use Rattle.fr_precision.proofs.AlikeLemmas.{alike_spreads_shrink, alike_rounds_shrink}
use Rattle.fr_precision.proofs.sharp_step.alike_spreads_shrink.Goals as goal

pub returns-clause-shrink : goal.returns-clause-shrink
returns-clause-shrink c = alike_spreads_shrink

pub returns-clause-rounds : goal.returns-clause-rounds
returns-clause-rounds c = alike_rounds_shrink
