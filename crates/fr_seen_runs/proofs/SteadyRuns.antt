-- Of a run all of whose frames are carried no sender is missed.
use Rattle.std.proofs.Common.{ℕ, ◌≤◌, [], arith}
use Rattle.fr_seen.specs.Contradictions.{SteadyRunsMissNone}

pub steady_runs_miss_none : SteadyRunsMissNone
steady_runs_miss_none x flutter double lost node steady short correct = record {
  missed = [];
  few = none lost;
  carried = λ sender slot linked sent. steady.links double (none double) short sender node slot linked;
}
  where
    none : (n : ℕ) → 0 ≤ n
    none n = omega arith
