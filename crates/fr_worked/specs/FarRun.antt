-- Runs whose skew comes near a precision, the sharper or the older one, in their one double cycle: one node begins at 0 with the
-- shorter microticks, and all others begin so many ticks later with the longer ones. A cluster that allows such a run has one.
use Rattle.std.specs.Prelude.{◌≡◌, ◌≢◌, ◌==◌, ◌+◌, ◌*◌, ◌≤◌, ◌≤ℤ◌, ◌+ℤ◌, ◌-ℤ◌, ◌*ℤ◌, ℕ, ℤ, pos, Bool, false, ◌&&◌, if◌then◌else◌, Contains, None, Some}
use Rattle.fr_base.specs.Event.Event.{Regular}
use Rattle.fr_base.specs.declared.channel.Channel.{Channel}
use Rattle.fr_cluster.specs.Questions.{compensation_of}
use Rattle.fr_cluster.specs.Sane.{IsSane}
use Rattle.fr_cluster.specs.Setting.{Setting, correct_nodes, is_correct}
use Rattle.fr_cluster.specs.Values.{Values, amount}
use Rattle.fr_cluster.specs.declared.names.ParamName.TheVariants as name
use Rattle.fr_cluster.specs.declared.nodes.NodeSpec.{NodeSpec}
use Rattle.fr_midpoint.specs.Receivers.{AreFew}
use Rattle.fr_time.specs.Position.{even_position, grid_for}
use Rattle.fr_bound.specs.Bounds.{cycle_change, lambda_of, longest_micro, nominal, pi_of, precision_of, shortest_micro}
use Rattle.fr_bound.specs.Checks.{AllChecksHold}
use Rattle.fr_precision.specs.Round.{sync_count}
use Rattle.fr_history.specs.Cycles.{told_of}
use Rattle.fr_history.specs.Lawful.{IsLawful}
use Rattle.fr_history.specs.Skew.{skew_at}
use Rattle.fr_history.specs.Unfollowed.{RowsAreInSyncAt}
use Rattle.fr_runs.specs.Links.{IsLinked, Share}
use Rattle.fr_runs.specs.Stated.{all_cycles, IsCoveredRun}
use Rattle.fr_runs.specs.Supplied.{stays_on}
use Rattle.fr_worked.specs.DrivenRun.{driven_cluster}
use Rattle.fr_bound.specs.SharpBounds.{sharp_lambda, sharp_pi, sharp_precision}
use Rattle.fr_runs.specs.SharpHistories.{IsInSharpSyncAt, IsSteadyRun}
use Rattle.fr_runs.specs.SteadyRuns.{MayHaveArbitrary}
use Rattle.fr_sharp.specs.WorkedRun.{steady_cluster, OfBytes, Said}

-- the cluster, which nodes are arbitrary, and what these say; the node that begins first; by how many ticks all others begin
-- later; and the microticks of that node and of the others, in ticks
pub record Far : Type 0 where
  pub params : Values
  pub is_arbitrary : ℕ → Bool
  pub said : Said
  pub first : ℕ
  pub later : ℕ
  pub short : ℤ
  pub long : ℤ

-- one double cycle of it, without rate corrections, and with the nominal delay of each frame
abbrev pub far_apart_run : Far → Setting
far_apart_run f = record {
  params = f.params;
  doubles = 1;
  start = λ id. if id == f.first then pos 0 else pos f.later;
  rate = λ id. pos 0;
  microtick = λ id cycle. if id == f.first then f.short else f.long;
  delay = λ sender receiver channel cycle. compensation_of f.params channel *ℤ pos nominal;
  is_arbitrary = f.is_arbitrary;
  event =
      λ cycle sender receiver channel.
      if f.is_arbitrary sender then f.said cycle sender receiver channel else Regular;
  join = λ _. None;
}

-- it is such a run: any two nodes share a channel, few nodes are arbitrary, the microticks keep within their bound, the starts
-- lie no further apart than so many ticks, and the lengths of the first cycles neither
pub record IsFar (f : Far) (starts lengths : ℕ) : Type 0 where
  pub sane : IsSane f.params
  pub bytes : OfBytes f.said
  pub few :
      AreFew (sync_count f.params (λ node. is_correct (far_apart_run f) node && stays_on (far_apart_run f) node))
      (sync_count f.params f.is_arbitrary)
  pub shares :
      (sender receiver : NodeSpec) (slot : ℕ)
      → IsLinked (far_apart_run f) sender receiver slot → (channel : Channel) × Share sender receiver channel
  pub least : pos (shortest_micro f.params) ≤ℤ f.short
  pub order : f.short ≤ℤ f.long
  pub most : f.long ≤ℤ pos (longest_micro f.params)
  pub starts_fit : f.later ≤ starts
  pub lengths_fit : ((f.params.micros *ℤ f.long) -ℤ (f.params.micros *ℤ f.short)) ≤ℤ pos lengths

-- and it has the node that begins first, and another one
pub record HasTwo (f : Far) : Type 0 where
  pub one : NodeSpec
  pub other : NodeSpec
  pub here : Contains (correct_nodes (far_apart_run f)) one
  pub there : Contains (correct_nodes (far_apart_run f)) other
  pub first : one.id ≡ f.first
  pub differ : other.id ≢ f.first

-- where the offset correction starts, in microticks from the start of a cycle
abbrev pub correction_place : Values → ℤ
correction_place p = even_position (grid_for p) (pos 0) p.correction

-- how far the others lie behind the first node where the offset correction of the second cycle starts, in ticks
abbrev pub far_skew : Far → ℤ
far_skew f =
    (pos f.later +ℤ ((f.params.micros *ℤ f.long) +ℤ (correction_place f.params *ℤ f.long)))
    -ℤ ((f.params.micros *ℤ f.short) +ℤ (correction_place f.params *ℤ f.short))

-- its skew there is that, or more
abbrev pub ReachesFar : Far → Type 0
ReachesFar f = far_skew f ≤ℤ skew_at f.params (told_of (all_cycles (far_apart_run f))) 1 (amount f.params name.gOffsetCorrectionStart)

-- with starts and lengths as sharp sync takes them it is a steady run, and in sharp sync in its first double cycle
abbrev pub FarRunsReachSharply : Type 0
FarRunsReachSharply =
    (beside : Bool) (f : Far)
    → IsFar f (sharp_pi beside f.params 0) (sharp_lambda beside f.params 0) → MayHaveArbitrary beside (far_apart_run f) → HasTwo f
    → IsSteadyRun beside (far_apart_run f) 0 (all_cycles (far_apart_run f))
    × IsInSharpSyncAt beside f.params 0 (pos 0) (all_cycles (far_apart_run f)) 0 × ReachesFar f

-- with starts and lengths as sync takes them, and where the checks hold, it is a covered run, and in sync in its first double
-- cycle
abbrev pub FarRunsReach : Type 0
FarRunsReach =
    (f : Far) → IsFar f (pi_of f.params) (lambda_of f.params) → AllChecksHold f.params → HasTwo f
    → IsCoveredRun (far_apart_run f) × RowsAreInSyncAt f.params (all_cycles (far_apart_run f)) 0 × ReachesFar f

-- where the others begin as late as that, and their microticks are as much longer as lengths allow, the skew is the starts and
-- twice the lengths, which is a precision but for two microticks and what cycles change, but for the share of the lengths
-- behind the start of the offset correction, two ticks for each microtick of a cycle, and that one difference; times the
-- macroticks of a cycle
abbrev pub FarSkewsAreNear : Type 0
FarSkewsAreNear =
    (f : Far) (lengths more : ℕ)
    → IsSane f.params → f.long ≡ f.short +ℤ pos more
    → amount f.params name.pMicroPerCycle * more ≤ lengths
    → lengths ≤ amount f.params name.pMicroPerCycle * more + amount f.params name.pMicroPerCycle
    → (f.params.macros *ℤ (pos f.later +ℤ (pos lengths +ℤ pos lengths)))
    ≤ℤ (
    ((f.params.macros *ℤ far_skew f) +ℤ ((f.params.macros -ℤ f.params.correction) *ℤ pos lengths))
    +ℤ (f.params.macros *ℤ ((f.params.micros +ℤ f.params.micros) +ℤ pos more))
    )

-- ---- of any parameters such a run

-- how far the skew may stay below a precision, in ticks times the macroticks of a cycle, where lengths lie so far apart: by their share
-- behind the start of the offset correction; and by two ticks for each microtick of a cycle, by as much as two microticks may differ,
-- by two microticks, and by what cycles change
abbrev pub left_below : Values → ℕ → ℕ → ℤ
left_below p lengths changes =
    ((p.macros -ℤ p.correction) *ℤ pos lengths)
    +ℤ (p.macros *ℤ ((p.micros +ℤ p.micros) +ℤ pos (2 * amount p name.xRateBound + 2 * longest_micro p + changes)))

-- the skew of a run comes so near to a precision, in ticks, where the offset correction of its second cycle starts
abbrev pub ComesNear : Setting → ℕ → ℤ → Type 0
ComesNear x precision left =
    (x.params.macros *ℤ pos precision)
    ≤ℤ ((x.params.macros *ℤ skew_at x.params (told_of (all_cycles x)) 1 (amount x.params name.gOffsetCorrectionStart)) +ℤ left)

-- a cluster may have such a run: it has two nodes, a node shares a channel with each that has a key slot, and microticks may differ by
-- so much that lengths lie so far apart, in ticks
pub record AllowsFar (p : Values) (lengths : ℕ) : Type 0 where
  pub one : NodeSpec
  pub other : NodeSpec
  pub here : Contains p.nodes one
  pub there : Contains p.nodes other
  pub differ : other.id ≢ one.id
  pub shares :
      (sender receiver : NodeSpec) (slot : ℕ) → Contains p.nodes sender → Contains p.nodes receiver
      → sender.key ≡ Some slot → sender.id ≢ receiver.id → (channel : Channel) × Share sender receiver channel
  pub fits : lengths ≤ amount p name.pMicroPerCycle * (2 * amount p name.xRateBound) + amount p name.pMicroPerCycle

-- so it has one: a covered lawful run, in sync in its first double cycle, that comes near the older precision where the older checks
-- hold
pub record HasFarRun (p : Values) : Type 0 where
  pub run : Setting
  pub params : run.params ≡ p
  pub covered : IsCoveredRun run
  pub lawful : IsLawful run (all_cycles run)
  pub synced : RowsAreInSyncAt run.params (all_cycles run) 0
  pub near : ComesNear run (precision_of run.params) (left_below run.params (lambda_of run.params) 0)

abbrev pub SomeRunComesNear : Type 0
SomeRunComesNear = (p : Values) → IsSane p → AllChecksHold p → AllowsFar p (lambda_of p) → HasFarRun p

-- and a steady one, in sharp sync in its first double cycle, that comes near the sharper precision, whatever the checks say
pub record HasSharpFarRun (beside : Bool) (p : Values) : Type 0 where
  pub run : Setting
  pub params : run.params ≡ p
  pub steady : IsSteadyRun beside run 0 (all_cycles run)
  pub synced : IsInSharpSyncAt beside run.params 0 (pos 0) (all_cycles run) 0
  pub near :
      ComesNear run (sharp_precision beside run.params 0)
      (left_below run.params (sharp_lambda beside run.params 0) (2 * cycle_change run.params))

abbrev pub SomeRunComesNearSharply : Type 0
SomeRunComesNearSharply =
    (beside : Bool) (p : Values) → IsSane p → AllowsFar p (sharp_lambda beside p 0) → HasSharpFarRun beside p

-- ---- worked: the steady cluster, without an arbitrary node and beside node 4 as one

abbrev pub worked_far : Said → Bool → Far
worked_far said beside = record {
  params = steady_cluster;
  is_arbitrary = λ id. beside && (id == 4);
  said = said;
  first = 1;
  later = if beside then 69_007_688 else 20_002_398;
  short = pos 999_900;
  long = if beside then pos 999_970 else pos 999_935;
}

-- it is such a run, of 93 and 97 hundredths of the sharper precision
abbrev pub WorkedFarRuns : Type 0
WorkedFarRuns =
    (said : Said) (beside : Bool) → OfBytes said
    → IsFar (worked_far said beside) (sharp_pi beside steady_cluster 0) (sharp_lambda beside steady_cluster 0)
    × MayHaveArbitrary beside (far_apart_run (worked_far said beside)) × HasTwo (worked_far said beside)
    × (far_skew (worked_far said beside) ≡ (if beside then pos 96_622_618 else pos 33_809_863))

-- and a cluster that meets the older checks
abbrev pub older_far : Said → Far
older_far said = record {
  params = driven_cluster;
  is_arbitrary = λ id. false;
  said = said;
  first = 1;
  later = 190_043_200;
  short = pos 999_800;
  long = pos 999_950;
}

-- it is such a run, of 98 hundredths of the older precision
abbrev pub WorkedOlderFarRun : Type 0
WorkedOlderFarRun =
    (said : Said)
    → OfBytes said
    → IsFar (older_far said) (pi_of driven_cluster) (lambda_of driven_cluster) × AllChecksHold driven_cluster
    × HasTwo (older_far said) × (far_skew (older_far said) ≡ pos 249_443_200) × (precision_of driven_cluster ≡ 252_057_200)
