-- The trace of a covered run passes, whoever joins: it breaks no law and has no gap; and its verdict tells what is told of the run.
use Rattle.std.specs.Prelude.{◌≡◌, ℕ, ◌*◌, ◌<◌, ◌≤◌, pos, true, false, length, Contains, Option, None, Some}
use Rattle.fr_cluster.specs.Sane.{IsSane}
use Rattle.fr_cluster.specs.Setting.{Setting}
use Rattle.fr_cluster.specs.Values.{Values}
use Rattle.fr_cluster.specs.declared.nodes.NodeSpec.{NodeSpec}
use Rattle.fr_skew.specs.declared.peak.Peak.{Peak}
use Rattle.fr_history.specs.Cycles.{Cycles, told_of}
use Rattle.fr_history.specs.Lawful.{IsLawful}
use Rattle.fr_history.specs.Skew.{greatest_skew_of}
use Rattle.fr_history.specs.Unfollowed.{first_unfollowed_sync_of}
use Rattle.fr_runs.specs.Stated.{IsCoveredRun}
use Rattle.fr_trace.specs.Trace.{TraceView}
use Rattle.fr_verdict.specs.Answer.{IsVerdict}
use Rattle.fr_verdict.specs.Breach.{IsLawfulTrace}
use Rattle.fr_verdict.specs.Gaps.{IsCoveredTrace}
use Rattle.fr_verdict.specs.Runs.{KeepsArrivals, trace_of_run}
use Rattle.fr_verdict.specs.Sync.{may_follow}
use Rattle.fr_verdict.specs.declared.unlawful.Verdict.{Verdict}

-- all cycles of a covered run
pub record AreCyclesOfCovered (x : Setting) (h : Cycles) : Type 0 where
  pub stated : IsCoveredRun x
  pub lawful : IsLawful x h
  pub whole : length h ≡ 2 * x.doubles

-- its delays and microticks keep within the bounds of the parameters
abbrev pub CoveredRunsKeepArrivals : Type 0
CoveredRunsKeepArrivals = (x : Setting) (h : Cycles) → AreCyclesOfCovered x h → KeepsArrivals x h

-- a trace breaks no law and has no gap
pub record IsPassing (p : Values) (t : TraceView) : Type 0 where
  pub lawful : IsLawfulTrace p t
  pub covered : IsCoveredTrace p t

-- so it is with the trace of such a run
abbrev pub CoveredRunsPass : Type 0
CoveredRunsPass = (x : Setting) (h : Cycles) → AreCyclesOfCovered x h → IsPassing x.params (trace_of_run x h)

-- ---- the verdict

-- it tells the greatest skew of a run, and its first place
pub record TellsGreatest (x : Setting) (h : Cycles) (v : Verdict) : Type 0 where
  pub place : Peak
  pub greatest : greatest_skew_of x.params (told_of h) ≡ Some place
  pub skew : v.skew ≡ place.skew
  pub cycle : v.cycle ≡ place.cycle
  pub macrotick : v.macrotick ≡ pos place.macrotick

abbrev pub VerdictsTellGreatest : Type 0
VerdictsTellGreatest = (x : Setting) (h : Cycles) (v : Verdict) → IsVerdict x.params (trace_of_run x h) v → TellsGreatest x h v

-- the first double cycle of a trace, from one on, in which no node may follow by what the trace tells of those that
-- join
pub record IsFirstClear (t : TraceView) (from double : ℕ) : Type 0 where
  pub later : from ≤ double
  pub inside : double < t.doubles
  pub clear : may_follow t double ≡ false
  pub first : (k : ℕ) → from ≤ k → k < double → may_follow t k ≡ true

-- which double cycle a trace tells where a run tells one in sync in which none follows: the first clear one of the
-- trace from there on, or none where a node may follow in each of these; and none where the run tells none
abbrev pub IsSyncByTrace : TraceView → Option ℕ → Option ℕ → Type 0
IsSyncByTrace t None told = told ≡ None
IsSyncByTrace t (Some from) None = (k : ℕ) → from ≤ k → k < t.doubles → may_follow t k ≡ true
IsSyncByTrace t (Some from) (Some double) = IsFirstClear t from double

-- so does the verdict of the trace of a covered run
abbrev pub VerdictsTellSync : Type 0
VerdictsTellSync =
    (x : Setting) (h : Cycles) (v : Verdict) → AreCyclesOfCovered x h → IsVerdict x.params (trace_of_run x h) v
    → IsSyncByTrace (trace_of_run x h) (first_unfollowed_sync_of x.params h) v.synced

-- and where none of its nodes joins it tells the first double cycle in sync of the run
abbrev pub VerdictsTellSyncAlone : Type 0
VerdictsTellSyncAlone =
    (x : Setting) (h : Cycles) (v : Verdict) → ((node : NodeSpec) → Contains x.params.nodes node → x.join node.id ≡ None)
    → IsSane x.params → IsLawful x h → IsVerdict x.params (trace_of_run x h) v
    → v.synced ≡ first_unfollowed_sync_of x.params h
