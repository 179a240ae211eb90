use Rattle.std.proofs.Common.{◌≡◌, ℕ, ◌<◌}
use Rattle.fr_precision.specs.Among.{lost_spread}
use Rattle.fr_sharp.proofs.LossNumbers.{never, Bears}
use Rattle.fr_sharp.proofs.loss_costs.longest_loss.Given as goal

-- that of this double cycle, and the limits bear each number before it
abbrev pub invariant-loop-count : goal.invariant-loop-count
invariant-loop-count l = record {
  spread : l.spread.spread ≡ lost_spread l.params l.flutter never l.count;
  passed : l.spread.passed ≡ l.count;
  all : (k : ℕ) → k < l.count → Bears l.params l.flutter k;
}
