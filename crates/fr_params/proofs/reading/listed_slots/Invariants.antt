use Rattle.std.proofs.Common.{◌≡◌}
use Rattle.fr_params.specs.Draft.{entry}
use Rattle.fr_params.specs.Lists.{listed}
use Rattle.fr_params.proofs.reading.listed_slots.Given as goal

-- the list so far has what stands at the numbers so far
abbrev pub invariant-loop-earlier : goal.invariant-loop-earlier
invariant-loop-earlier l = l.items.items ≡ listed l.earlier (entry l.slots)
