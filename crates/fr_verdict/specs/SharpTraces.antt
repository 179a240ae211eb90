-- A recorded trace that no node joins: its deviations flutter by no more than both errors of an arrival, so from a double cycle in
-- sharp sync on it keeps the sharper precision, for as many double cycles as the rate limit holds the walk. Frames are not asked
-- to come within their slots: the fourth and the fifth check are not used.
use Rattle.std.specs.Prelude.{◌≡◌, ◌<◌, ◌≤◌, ◌+◌, ◌*◌, ℕ, ℤ, pos, ◌≤ℤ◌, Bool, true, false, [], ◌∷◌, ◌++◌, length, All, Contains, Some}
use Rattle.fr_base.specs.declared.state.State.TheVariants.{Active}
use Rattle.fr_cluster.specs.Sane.{IsSane}
use Rattle.fr_cluster.specs.Values.{Values, amount}
use Rattle.fr_cluster.specs.declared.names.ParamName.TheVariants as name
use Rattle.fr_cluster.specs.declared.nodes.NodeSpec.{NodeSpec}
use Rattle.fr_time.specs.Cycles.{even_cycle, odd_cycle}
use Rattle.fr_bound.specs.Bounds.{arrival_error, lambda_of, pi_of}
use Rattle.fr_precision.specs.Round.{sync_count}
use Rattle.fr_coverage.specs.declared.gap.Gap.{Gap}
use Rattle.fr_history.specs.History.{History, Record, record_at}
use Rattle.fr_history.specs.Skew.{skew_at}
use Rattle.fr_history.specs.Terms.{status_in}
use Rattle.fr_runs.specs.Links.{cycle_in}
use Rattle.fr_trace.specs.Fits.{TraceFits}
use Rattle.fr_trace.specs.Lasting.{IsTrace}
use Rattle.fr_trace.specs.Trace.{TraceView, is_named}
use Rattle.fr_verdict.specs.Answer.{IsVerdict}
use Rattle.fr_verdict.specs.Breach.{IsLawfulTrace}
use Rattle.fr_verdict.specs.Gaps.{has_rows, is_heard, is_pair, IsTraceGap, IsTracedChangeGap, IsTracedCheckGap, IsTracedCountGap, IsTracedLengthGap}
use Rattle.fr_verdict.specs.Precision.{AreTermsWithin}
use Rattle.fr_verdict.specs.Sync.{IsFirstSynced}
use Rattle.fr_verdict.specs.declared.unlawful.Verdict.{Verdict}
use Rattle.fr_precision.specs.Lengths.{walked_after}
use Rattle.fr_bound.specs.SharpBounds.{sharp_near, sharp_precision}
use Rattle.fr_bound.specs.SharpChecks.{sharp_holds_of}
use Rattle.fr_precision.specs.SharpRun.{lengths_from, starts_from, WalkLastsAfter, WalkLastsUpTo}
use Rattle.fr_bound.specs.SharpSpreads.{sharply_apart_in, sharply_near_in}
use Rattle.fr_bound.specs.SharpSpreads.{IsSharplySettled}
use Rattle.fr_precision.specs.SharpSettling.{sharp_spread_after}
use Rattle.fr_precision.specs.SharpStep.{AreSharp, IsInSharpSync}

-- the flutter of recorded deviations, in ticks: both errors of an arrival
abbrev pub recorded_flutter : Values → ℕ
recorded_flutter p = 2 * arrival_error p

-- whether a trace may name sync nodes arbitrary
abbrev pub MayNameArbitrary : Bool → Values → TraceView → Type 0
MayNameArbitrary false p t = sync_count p (is_named t) ≡ 0
MayNameArbitrary true p t = Unit {0}

-- in a double cycle each correct node has deviations of each other correct sync node in both cycles on one channel, if both have
-- rows there
abbrev pub ArePairsHeard : Values → TraceView → ℕ → Type 0
ArePairsHeard p t k =
    (sender receiver : NodeSpec) → Contains p.nodes sender → Contains p.nodes receiver → is_pair t sender receiver ≡ true
    → has_rows t.history k sender ≡ true → has_rows t.history k receiver ≡ true → is_heard t sender receiver k ≡ true

-- a lawful trace that no node joins: its correct sync nodes outweigh the arbitrary ones, its microticks and their changes keep
-- within bounds, and from a double cycle on all pairs are heard
pub record IsSteadyTrace (beside : Bool) (p : Values) (t : TraceView) (double : ℕ) : Type 0 where
  pub sane : IsSane p
  pub trace : IsTrace t
  pub fits : TraceFits p t
  pub none_joins : t.joins ≡ []
  pub arbitrary : MayNameArbitrary beside p t
  pub lawful : IsLawfulTrace p t
  pub counts : (g : Gap) → IsTracedCountGap p t g → ⊥
  pub lengths : (g : Gap) → IsTracedLengthGap p t g → ⊥
  pub changes : (g : Gap) → IsTracedChangeGap p t g → ⊥
  pub heard : (k : ℕ) → double ≤ k → k < t.doubles → ArePairsHeard p t k

-- a lawful trace without a gap but of the older checks is such a one, from its first double cycle in sync on
abbrev pub CheckedTracesAreSteady : Type 0
CheckedTracesAreSteady =
    (beside : Bool) (p : Values) (t : TraceView) (synced double : ℕ)
    → IsSane p → IsTrace t → TraceFits p t → t.joins ≡ [] → MayNameArbitrary beside p t → IsLawfulTrace p t
    → ((g : Gap) → IsTraceGap p t g → IsTracedCheckGap p g) → IsFirstSynced p t synced → synced ≤ double
    → IsSteadyTrace beside p t double

-- of the sharper checks the second and the third hold
pub record TracedChecksHold (beside : Bool) (p : Values) : Type 0 where
  pub second : sharp_holds_of 2 (recorded_flutter p) (sharp_near beside p (recorded_flutter p)) p ≡ true
  pub third : sharp_holds_of 3 (recorded_flutter p) (sharp_near beside p (recorded_flutter p)) p ≡ true

-- recorded rows are in sharp sync in a double cycle, both of whose records are there, with even lengths at most so far beyond
-- their range, in ticks
pub record IsRecordedInSharpSync (beside : Bool) (p : Values) (beyond : ℤ) (h : History) (double : ℕ) : Type 0 where
  pub even : Record
  pub odd : Record
  pub has_even : record_at h (even_cycle double) ≡ Some even
  pub has_odd : record_at h (odd_cycle double) ≡ Some odd
  pub in_sync : IsInSharpSync beside p (recorded_flutter p) beyond even.rows odd.rows

-- behind a double cycle no term by its recorded deviations is cut or missing, and each node with a row is active
pub record RecordsEndWell (p : Values) (h : History) (even odd : Record) : Type 0 where
  pub within : All (AreTermsWithin p (even ∷ h) odd) odd.rows
  pub active : All (λ row. (status_in p (odd ∷ even ∷ h) row.node).state ≡ Active) odd.rows

-- in a double cycle no corresponding macroticks lie further apart than this, in ticks, and it ends well
pub record RecordsKeepApart (p : Values) (t : TraceView) (double apart : ℕ) : Type 0 where
  pub skew :
      (macrotick : ℕ) (is_odd : Bool) → macrotick < amount p name.gMacroPerCycle
      → skew_at p t.history (cycle_in is_odd double) macrotick ≤ℤ pos apart
  pub ends :
      (later h : History) (even odd : Record) → t.history ≡ later ++ odd ∷ even ∷ h → length h ≡ 2 * double
      → RecordsEndWell p h even odd

-- so many double cycles after one a trace is in sharp sync, behind the last in which the walk lasts too; and while it lasts, no
-- macroticks lie further apart than the sharper precision
pub record StaysRecordedInSharpSync (beside : Bool) (p : Values) (t : TraceView) (double passed : ℕ) : Type 0 where
  pub synced :
      WalkLastsUpTo p (recorded_flutter p) passed
      → IsRecordedInSharpSync beside p (walked_after p (recorded_flutter p) passed) t.history (double + passed)
  pub keeps :
      WalkLastsAfter p (recorded_flutter p) passed
      → RecordsKeepApart p t (double + passed) (sharp_precision beside p (recorded_flutter p))

-- from a double cycle in sharp sync on, with lengths in their range, a trace is so in each later one
abbrev pub TracesKeepSharpSync : Type 0
TracesKeepSharpSync =
    (beside : Bool) (p : Values) (t : TraceView) (double : ℕ)
    → IsSteadyTrace beside p t double → TracedChecksHold beside p → IsRecordedInSharpSync beside p (pos 0) t.history double
    → (passed : ℕ) → double + passed < t.doubles → StaysRecordedInSharpSync beside p t double passed

-- ---- by the cycle, where lengths do not walk

-- from a double cycle on a trace is in sharp sync in each one to its end, with lengths in their range, and each ends well; no
-- corresponding macroticks lie further apart than the sharper precision, in ticks, and each node with a row is active
pub record KeepsSharpClocks (beside : Bool) (p : Values) (t : TraceView) (double : ℕ) : Type 0 where
  pub synced : (k : ℕ) → double ≤ k → k < t.doubles → IsRecordedInSharpSync beside p (pos 0) t.history k
  pub skew :
      (cycle macrotick : ℕ) → 2 * double ≤ cycle → cycle < length t.history → macrotick < amount p name.gMacroPerCycle
      → skew_at p t.history cycle macrotick ≤ℤ pos (sharp_precision beside p (recorded_flutter p))
  pub active :
      (cycle : ℕ) (r : Record) → 2 * double ≤ cycle → record_at t.history cycle ≡ Some r
      → All (λ row. row.state ≡ Active) r.rows
  pub ends :
      (k : ℕ) (later h : History) (even odd : Record) → double ≤ k → t.history ≡ later ++ odd ∷ even ∷ h → length h ≡ 2 * k
      → RecordsEndWell p h even odd

-- where the first check holds too it is so from a double cycle in sharp sync on
abbrev pub TracesKeepSharpPrecision : Type 0
TracesKeepSharpPrecision =
    (beside : Bool) (p : Values) (t : TraceView) (double : ℕ)
    → IsSteadyTrace beside p t double
    → sharp_holds_of 1 (recorded_flutter p) (sharp_near beside p (recorded_flutter p)) p ≡ true → TracedChecksHold beside p
    → IsRecordedInSharpSync beside p (pos 0) t.history double → KeepsSharpClocks beside p t double

-- ---- from sync in the older sense

-- a trace that passes, so under the older checks, is in sharp sync as many double cycles after its first one in sync as the spreads
-- from the older pi and lambda take to come to rest, and keeps the sharper precision from there to its end
abbrev pub PassingTracesComeSharp : Type 0
PassingTracesComeSharp =
    (beside : Bool) (p : Values) (t : TraceView) (v : Verdict) (double rest : ℕ)
    → IsSane p → IsTrace t → TraceFits p t → t.joins ≡ [] → MayNameArbitrary beside p t
    → IsVerdict p t v → v.synced ≡ Some double
    → IsSharplySettled beside p (recorded_flutter p) (sharp_spread_after beside p (recorded_flutter p) (pi_of p) (lambda_of p) rest)
    → double + rest < t.doubles → KeepsSharpClocks beside p t (double + rest)

-- ---- from stated numbers

-- recorded rows lie so near in a double cycle, both of whose records are there: all nodes are active in it, and starts and even
-- lengths lie within these numbers, the lengths at most so far beyond their range, in ticks
pub record IsRecordedNear (p : Values) (starts lengths : ℕ) (beyond : ℤ) (h : History) (double : ℕ) : Type 0 where
  pub even : Record
  pub odd : Record
  pub has_even : record_at h (even_cycle double) ≡ Some even
  pub has_odd : record_at h (odd_cycle double) ≡ Some odd
  pub active_even : All (λ row. row.state ≡ Active) even.rows
  pub active_odd : All (λ row. row.state ≡ Active) odd.rows
  pub near : AreSharp p starts lengths beyond even.rows

-- the second and the third check hold, with a reach for the whole way from these numbers, in ticks
pub record TracedWayHolds (beside : Bool) (p : Values) (start rate reach : ℕ) : Type 0 where
  pub second : sharp_holds_of 2 (recorded_flutter p) reach p ≡ true
  pub third : sharp_holds_of 3 (recorded_flutter p) reach p ≡ true
  pub fits : (k : ℕ) → sharply_near_in p (sharp_spread_after beside p (recorded_flutter p) start rate k) ≤ reach

-- so many double cycles after one a trace keeps to the spreads, behind the last in which the walk lasts too, and when they have
-- come to rest it is in sharp sync
pub record SettlesRecorded (beside : Bool) (p : Values) (t : TraceView) (start rate double passed : ℕ) : Type 0 where
  pub near :
      WalkLastsUpTo p (recorded_flutter p) passed
      → IsRecordedNear p (starts_from beside p (recorded_flutter p) start rate passed) (lengths_from beside p (recorded_flutter p) start rate passed)
      (walked_after p (recorded_flutter p) passed)
      t.history (double + passed)
  pub keeps :
      WalkLastsAfter p (recorded_flutter p) passed
      → RecordsKeepApart p t (double + passed) (sharply_apart_in p (sharp_spread_after beside p (recorded_flutter p) start rate passed))
  pub reached :
      (rest : ℕ) → rest ≤ passed
      → IsSharplySettled beside p (recorded_flutter p) (sharp_spread_after beside p (recorded_flutter p) start rate rest)
      → StaysRecordedInSharpSync beside p t double passed

-- from a double cycle whose rows lie within stated numbers on it is so, with lengths in their range at first
abbrev pub TracesSettleSharply : Type 0
TracesSettleSharply =
    (beside : Bool) (p : Values) (t : TraceView) (start rate reach double : ℕ)
    → IsSteadyTrace beside p t double → TracedWayHolds beside p start rate reach
    → IsRecordedNear p start rate (pos 0) t.history double
    → (passed : ℕ) → double + passed < t.doubles → SettlesRecorded beside p t start rate double passed
