use Rattle.std.proofs.Common.{◌≡◌, ◌+◌, ◌*◌, ◌≤◌}
use Rattle.fr_precision.specs.Lengths.{strayed_after}
use Rattle.fr_promise.specs.SharpJoining.{group_spread_through}
use Rattle.fr_sharp.specs.LossRuns.{is_borne_of, losses_by, near_passed}
use Rattle.fr_traffic.specs.Reaching.{whole_in}
use Rattle.fr_sharp.specs.LossSteps.{most_lost}
use Rattle.fr_sharp.specs.SharpStatement.{has_arbitrary}
use Rattle.fr_traffic.specs.Traffic.{heard_in, some_keep, traffic_in}
use Rattle.fr_sharp.proofs.losses_of_runs.run_losses.Given as goal

-- the spread of this double cycle by what was heard before it, and what was lost there
abbrev pub invariant-loop-passed : goal.invariant-loop-passed
invariant-loop-passed l = record {
  spread :
      l.spread.spread
      ≡ group_spread_through (has_arbitrary l.params l.script) l.params l.flutter (λ m. heard_in (traffic_in l.params l.script) (l.from + m)) l.passed;
  passed : l.spread.passed ≡ l.passed;
  losses :
      l.losses
      ≡ losses_by (has_arbitrary l.params l.script) l.params l.from l.flutter (whole_in l.params l.script) (heard_in (traffic_in l.params l.script))
      (is_borne_of l.params l.script l.from l.flutter) (near_passed l.params l.script l.from l.flutter) l.passed;
  strayed : l.strayed ≡ strayed_after l.params l.flutter (λ m. some_keep (traffic_in l.params l.script) (l.from + m)) l.passed;
  little : l.strayed ≤ l.passed * 2_000_000_000;
  few : l.losses.doubles ≤ l.passed;
  most : l.losses.reach ≤ most_lost;
}
