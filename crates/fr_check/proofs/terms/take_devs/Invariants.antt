use Rattle.std.proofs.Common.{take}
use Rattle.fr_check.specs.Measured.{TakesIn, look_among}
use Rattle.fr_check.proofs.terms.take_devs.Given as goal

-- the deviations so far are taken in
abbrev pub invariant-loop-dev : goal.invariant-loop-dev
invariant-loop-dev l = TakesIn l.odd (look_among l.params (take l.dev-index l.devs) l.node) l.initial.table l.table
