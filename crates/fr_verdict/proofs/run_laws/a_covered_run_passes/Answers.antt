use Rattle.fr_verdict.proofs.CoveredRuns.{covered-runs-keep-arrivals, covered-runs-pass}
use Rattle.fr_verdict.proofs.run_laws.a_covered_run_passes.Goals as goal

pub returns-clause-arrivals : goal.returns-clause-arrivals
returns-clause-arrivals c = covered-runs-keep-arrivals

pub returns-clause-passes : goal.returns-clause-passes
returns-clause-passes c = covered-runs-pass
