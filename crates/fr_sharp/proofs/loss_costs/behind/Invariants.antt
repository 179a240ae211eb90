use Rattle.std.proofs.Common.{◌≡◌}
use Rattle.fr_precision.specs.Among.{lost_spread}
use Rattle.fr_sharp.proofs.LossNumbers.{never}
use Rattle.fr_sharp.proofs.loss_costs.behind.Given as goal

-- that of this double cycle, where something was lost in each before it
abbrev pub invariant-loop-double : goal.invariant-loop-double
invariant-loop-double l = record {
  spread : l.spread.spread ≡ lost_spread l.params l.flutter never l._double;
  passed : l.spread.passed ≡ l._double;
}
