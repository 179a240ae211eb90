-- What the check of a trace answers.
use Rattle.std.specs.Prelude.{◌≡◌, ◌⊎◌, ℕ, pos, Option, Some, None, Result, Ok, Err}
use Rattle.fr_cluster.specs.Sane.{IsSane}
use Rattle.fr_cluster.specs.Values.{Values}
use Rattle.fr_coverage.specs.declared.gap.Gap.{Gap}
use Rattle.fr_history.specs.Skew.{IsGreatestSkew}
use Rattle.fr_trace.specs.Lasting.{IsTrace}
use Rattle.fr_trace.specs.Trace.{TraceView}
use Rattle.fr_verdict.specs.Breach.{IsFirstBreach, IsLawfulTrace}
use Rattle.fr_verdict.specs.Gaps.{IsCoveredTrace, IsFirstTraceGap}
use Rattle.fr_verdict.specs.Sync.{IsFirstSynced, IsSyncedAt}
use Rattle.fr_verdict.specs.declared.unlawful.Unlawful.{Unlawful}
use Rattle.fr_verdict.specs.declared.unlawful.Unlawful.TheVariants as unlawful
use Rattle.fr_verdict.specs.declared.unlawful.Verdict.{Verdict}

-- the first double cycle in sync, in which no node may follow, or that there is none
abbrev pub IsSyncedFrom : Values → TraceView → Option ℕ → Type 0
IsSyncedFrom p t None = (double : ℕ) → IsSyncedAt p t double → ⊥
IsSyncedFrom p t (Some double) = IsFirstSynced p t double

-- the verdict of a lawful trace without a gap: the first double cycle in sync, and the greatest skew with its first place
pub record IsVerdict (p : Values) (t : TraceView) (v : Verdict) : Type 0 where
  pub lawful : IsLawfulTrace p t
  pub covered : IsCoveredTrace p t
  pub synced : IsSyncedFrom p t v.synced
  pub macrotick : ℕ
  pub is_macrotick : v.macrotick ≡ pos macrotick
  pub skew : IsGreatestSkew p t.history v.skew v.cycle macrotick

-- the first gap of a lawful trace
pub record IsUncovered (p : Values) (t : TraceView) (u : Unlawful) : Type 0 where
  pub lawful : IsLawfulTrace p t
  pub gap : Gap
  pub first : IsFirstTraceGap p t gap
  pub told : u ≡ unlawful.Uncovered gap

-- the answer: a verdict, the first breach, or the first gap
abbrev pub IsJudgement : Values → TraceView → Result Verdict Unlawful → Type 0
IsJudgement p t (Ok v) = IsVerdict p t v
IsJudgement p t (Err u) = IsFirstBreach p t u ⊎ IsUncovered p t u

-- a trace has one answer at most, and one at least
abbrev pub OneAnswer : Type 0
OneAnswer = (p : Values) (t : TraceView) (a b : Result Verdict Unlawful) → IsJudgement p t a → IsJudgement p t b → a ≡ b

abbrev pub SomeAnswer : Type 0
SomeAnswer = (p : Values) (t : TraceView) → IsSane p → IsTrace t → (a : Result Verdict Unlawful) × IsJudgement p t a
