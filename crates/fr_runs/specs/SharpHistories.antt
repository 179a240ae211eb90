-- A lawful history of a run that no node joins and whose delays flutter little: where it is in sharp sync it stays so, for as
-- many double cycles as the rate limit holds the walk.
use Rattle.std.specs.Prelude.{◌≡◌, ◌<◌, ◌≤◌, ◌+◌, ◌-◌, ◌*◌, ℕ, suc, ℤ, pos, ◌+ℤ◌, ◌≤ℤ◌, nat_le, if◌then◌else◌, Bool, true, false, List, [], ◌∷◌, length, map, All, Contains, Some, IsSome}
use Rattle.fr_base.specs.declared.state.Outcome.TheVariants.{Within}
use Rattle.fr_base.specs.declared.state.State.TheVariants.{Active}
use Rattle.fr_cluster.specs.Setting.{IsSetting, Setting, correct_nodes}
use Rattle.fr_cluster.specs.Values.{Values, amount}
use Rattle.fr_cluster.specs.declared.names.ParamName.TheVariants as name
use Rattle.fr_cluster.specs.declared.nodes.NodeSpec.{NodeSpec}
use Rattle.fr_time.specs.Cycles.{even_cycle, odd_cycle}
use Rattle.fr_bound.specs.Checks.{holds_of}
use Rattle.fr_precision.specs.Offsets.{LimitSuffices}
use Rattle.fr_precision.specs.Reception.{LeavesRoom}
use Rattle.fr_precision.specs.Round.{senders_of}
use Rattle.fr_precision.specs.Rows.{Sender}
use Rattle.fr_precision.specs.Step.{Member}
use Rattle.fr_history.specs.Cycles.{Cycle, Cycles, cycle_at, some_joins, told_of}
use Rattle.fr_history.specs.Lawful.{IsLawful}
use Rattle.fr_history.specs.Skew.{skew_at}
use Rattle.fr_history.specs.Terms.{status_in}
use Rattle.fr_runs.specs.Gathered.{round_at}
use Rattle.fr_runs.specs.Links.{cycle_in}
use Rattle.fr_runs.specs.Numbers.{offset_term_told, rate_term_told}
use Rattle.fr_runs.specs.Rounds.{IsDoubleOf}
use Rattle.fr_runs.specs.Stated.{all_cycles}
use Rattle.fr_precision.specs.Lengths.{walked_after}
use Rattle.fr_bound.specs.SharpBounds.{last_action, near_by, rate_walk, sharp_near, sharp_precision}
use Rattle.fr_bound.specs.SharpChecks.{sharp_holds_of, RateSuffices, SharpChecksHold}
use Rattle.fr_precision.specs.SharpRun.{AreSharpDoubles, WalkLastsAfter, WalkLastsUpTo}
use Rattle.fr_precision.specs.SharpStep.{AreSharp, IsInSharpSync}
use Rattle.fr_runs.specs.SteadyRuns.{row_members, IsSteadyFrom, IsTimedFrom, MayHaveArbitrary}
use Rattle.fr_bound.specs.declared.judging.Known.{Known}
use Rattle.fr_history.specs.History.{row_of}

-- a whole lawful history of a run that no node joins, in which frames may be lost, and what is stated of the run besides its checks,
-- from a double cycle on
pub record IsStatedRunFrom (x : Setting) (from flutter : ℕ) (h : Cycles) : Type 0 where
  pub covered : IsTimedFrom x from flutter
  pub none_joins : some_joins x ≡ false
  pub lawful : IsLawful x h
  pub whole : length h ≡ 2 * x.doubles

abbrev pub IsStatedRun : Setting → ℕ → Cycles → Type 0
IsStatedRun x flutter h = IsStatedRunFrom x 0 flutter h

-- a whole lawful history of a run that nodes may join, in which frames may be lost, and what is stated of the run besides its checks,
-- from a double cycle on
pub record IsLawfulStatedRunFrom (x : Setting) (from flutter : ℕ) (h : Cycles) : Type 0 where
  pub covered : IsTimedFrom x from flutter
  pub lawful : IsLawful x h
  pub whole : length h ≡ 2 * x.doubles

abbrev pub IsLawfulStatedRun : Setting → ℕ → Cycles → Type 0
IsLawfulStatedRun x flutter h = IsLawfulStatedRunFrom x 0 flutter h

-- one in which all is heard, with or without arbitrary sync nodes
pub record IsSteadyRunFrom (beside : Bool) (x : Setting) (from flutter : ℕ) (h : Cycles) : Type 0 where
  pub covered : IsSteadyFrom x from flutter
  pub arbitrary : MayHaveArbitrary beside x
  pub none_joins : some_joins x ≡ false
  pub lawful : IsLawful x h
  pub whole : length h ≡ 2 * x.doubles

abbrev pub IsSteadyRun : Bool → Setting → ℕ → Cycles → Type 0
IsSteadyRun beside x flutter h = IsSteadyRunFrom beside x 0 flutter h

-- ---- its double cycles, as nodes of the step

-- the first cycles of some, so many of them
unfoldable pub first_cycles : Cycles → ℕ → Cycles
first_cycles [] count = []
first_cycles (c ∷ h) count = if nat_le (length (c ∷ h)) count then c ∷ h else first_cycles h count

-- the nodes and the senders of the double cycle with which some cycles end
abbrev pub last_members : Setting → Cycles → List Member
last_members x [] = []
last_members x (odd ∷ []) = []
last_members x (odd ∷ even ∷ earlier) = row_members x earlier even odd

abbrev pub last_senders : Setting → Cycles → List Sender
last_senders x [] = []
last_senders x (odd ∷ []) = []
last_senders x (odd ∷ even ∷ earlier) = senders_of (round_at x earlier even odd)

-- those of a double cycle by its number
abbrev pub members_at : Setting → Cycles → ℕ → List Member
members_at x h double = last_members x (first_cycles h (2 * double + 2))

abbrev pub senders_at : Setting → Cycles → ℕ → List Sender
senders_at x h double = last_senders x (first_cycles h (2 * double + 2))

-- the nodes have its rows, and the senders are those of its round
abbrev pub HistoriesHaveMembers : Type 0
HistoriesHaveMembers =
    (beside : Bool) (x : Setting) (from flutter : ℕ) (h : Cycles) (double : ℕ) (earlier : Cycles) (even odd : Cycle)
    → IsSteadyRunFrom beside x from flutter h → from ≤ double → IsDoubleOf h double earlier even odd
    → (map (λ node. node.even) (members_at x h double) ≡ even.told.rows)
    × (map (λ node. node.odd) (members_at x h double) ≡ odd.told.rows)
    × (senders_at x h double ≡ senders_of (round_at x earlier even odd))

-- all nodes are active in both cycles of a double cycle
abbrev pub BeginsActive : Cycles → ℕ → Type 0
BeginsActive h double =
    (earlier : Cycles) (even odd : Cycle) → IsDoubleOf h double earlier even odd
    → All (λ row. row.state ≡ Active) even.told.rows × All (λ row. row.state ≡ Active) odd.told.rows

-- from such a double cycle on they are as the law of many double cycles asks for, with any numbers for starts and even lengths
-- that a reach takes in, in ticks, for which the offset limit suffices and slots leave room
abbrev pub HistoriesAreSharpDoubles : Type 0
HistoriesAreSharpDoubles =
    (beside : Bool) (x : Setting) (from flutter : ℕ) (h : Cycles) (double : ℕ) (starts lengths : ℕ → ℕ) (reach : ℕ)
    → IsSteadyRunFrom beside x from flutter h → from ≤ double → holds_of 2 x.params ≡ true → LimitSuffices x.params (pos reach) → LeavesRoom x.params (pos reach)
    → ((k : ℕ) → double + k < x.doubles → near_by x.params (starts k) (lengths k) ≤ reach) → BeginsActive h double
    → AreSharpDoubles beside x.params flutter (x.doubles - double) starts lengths (λ k. senders_at x h (double + k))
    (λ k. members_at x h (double + k))
    (pos (last_action x.params))

-- ---- sharp sync

-- a history is in sharp sync in a double cycle, both of whose cycles it has, with even lengths at most so far beyond their range,
-- in ticks
pub record IsInSharpSyncAt (beside : Bool) (p : Values) (flutter : ℕ) (beyond : ℤ) (h : Cycles) (double : ℕ) : Type 0 where
  pub even : Cycle
  pub odd : Cycle
  pub has_even : cycle_at h (even_cycle double) ≡ Some even
  pub has_odd : cycle_at h (odd_cycle double) ≡ Some odd
  pub in_sync : IsInSharpSync beside p flutter beyond even.told.rows odd.told.rows

-- how a double cycle ends, behind earlier cycles: no term that a node computes there is cut or missing, no row of it tells a cut,
-- and each node is active behind it
pub record EndsWell (x : Setting) (earlier : Cycles) (even odd : Cycle) : Type 0 where
  pub offset_within :
      (node : NodeSpec) → Contains (correct_nodes x) node → (offset_term_told x even odd node).outcome ≡ Within
  pub rate_within : (node : NodeSpec) → Contains (correct_nodes x) node → (rate_term_told x even odd node).outcome ≡ Within
  pub uncut_even : All (λ row. row.cut ≡ 0) even.told.rows
  pub uncut_odd : All (λ row. row.cut ≡ 0) odd.told.rows
  pub active :
      (node : NodeSpec) → Contains (correct_nodes x) node
      → (status_in x.params (told_of (odd ∷ even ∷ earlier)) node.id).state ≡ Active

-- in a double cycle no corresponding macroticks lie further apart than this, in ticks, and it ends well
pub record KeepsApart (x : Setting) (h : Cycles) (double apart : ℕ) : Type 0 where
  pub skew :
      (macrotick : ℕ) (is_odd : Bool) → macrotick < amount x.params name.gMacroPerCycle
      → skew_at x.params (told_of h) (cycle_in is_odd double) macrotick ≤ℤ pos apart
  pub ends : (earlier : Cycles) (even odd : Cycle) → IsDoubleOf h double earlier even odd → EndsWell x earlier even odd

-- under the checks but the first, and where the rate limit suffices for how far lengths lie beyond their range, before the walk of
-- a double cycle and after it: one in sharp sync keeps within the sharper precision and ends well, and the next one is in sharp
-- sync, with lengths no further beyond than the walk takes them
abbrev pub HistoriesStepSharply : Type 0
HistoriesStepSharply =
    (beside : Bool) (x : Setting) (from flutter : ℕ) (h : Cycles) (double : ℕ) (beyond next : ℤ)
    → IsSteadyRunFrom beside x from flutter h → from ≤ double → SharpChecksHold flutter (sharp_near beside x.params flutter) x.params
    → RateSuffices x.params beyond → RateSuffices x.params (beyond +ℤ rate_walk x.params flutter)
    → pos 0 ≤ℤ next → (beyond +ℤ rate_walk x.params flutter) ≤ℤ next → IsInSharpSyncAt beside x.params flutter beyond h double
    → KeepsApart x h double (sharp_precision beside x.params flutter)
    × (suc double < x.doubles → IsInSharpSyncAt beside x.params flutter next h (suc double))

-- so many double cycles after one a history is in sharp sync, behind the last in which the walk lasts too; and while it lasts,
-- no macroticks lie further apart than the sharper precision
pub record StaysInSharpSyncAt (beside : Bool) (x : Setting) (flutter : ℕ) (h : Cycles) (double passed : ℕ) : Type 0 where
  pub synced :
      WalkLastsUpTo x.params flutter passed
      → IsInSharpSyncAt beside x.params flutter (walked_after x.params flutter passed) h (double + passed)
  pub keeps : WalkLastsAfter x.params flutter passed → KeepsApart x h (double + passed) (sharp_precision beside x.params flutter)

-- from a double cycle in sharp sync on, with lengths in their range, it is so in each later one, under the checks but the first
abbrev pub HistoriesKeepSharpSync : Type 0
HistoriesKeepSharpSync =
    (beside : Bool) (x : Setting) (from flutter : ℕ) (h : Cycles) (double : ℕ)
    → IsSteadyRunFrom beside x from flutter h → from ≤ double → SharpChecksHold flutter (sharp_near beside x.params flutter) x.params
    → IsInSharpSyncAt beside x.params flutter (pos 0) h double
    → (passed : ℕ) → double + passed < x.doubles → StaysInSharpSyncAt beside x flutter h double passed

-- ---- the same by the cycle, where lengths do not walk

-- from a double cycle on no corresponding macroticks lie further apart than this, in ticks; each node is active in each cycle, and
-- behind the last one; and no row tells a cut
pub record CyclesKeepApart (x : Setting) (h : Cycles) (double apart : ℕ) : Type 0 where
  pub skew :
      (cycle macrotick : ℕ) → 2 * double ≤ cycle → cycle < length h → macrotick < amount x.params name.gMacroPerCycle
      → skew_at x.params (told_of h) cycle macrotick ≤ℤ pos apart
  pub active :
      (cycle : ℕ) (c : Cycle) → 2 * double ≤ cycle → cycle_at h cycle ≡ Some c → All (λ row. row.state ≡ Active) c.told.rows
  pub uncut : (cycle : ℕ) (c : Cycle) → 2 * double ≤ cycle → cycle_at h cycle ≡ Some c → All (λ row. row.cut ≡ 0) c.told.rows
  pub after : (node : NodeSpec) → Contains (correct_nodes x) node → (status_in x.params (told_of h) node.id).state ≡ Active

-- from a double cycle on a history is in sharp sync in each one to the end, with lengths at most so far beyond their range, and each
-- ends well; and no macroticks lie further apart than the sharper precision
pub record KeepsSharpPrecision (beside : Bool) (x : Setting) (flutter : ℕ) (beyond : ℤ) (h : Cycles) (double : ℕ) : Type 0 where
  pub synced : (k : ℕ) → double ≤ k → k < x.doubles → IsInSharpSyncAt beside x.params flutter beyond h k
  pub ends :
      (k : ℕ) (earlier : Cycles) (even odd : Cycle) → double ≤ k → k < x.doubles → IsDoubleOf h k earlier even odd
      → EndsWell x earlier even odd
  pub cycles : CyclesKeepApart x h double (sharp_precision beside x.params flutter)

-- under all five checks it is so from a double cycle in sharp sync on, with lengths in their range
abbrev pub HistoriesKeepSharpPrecision : Type 0
HistoriesKeepSharpPrecision =
    (beside : Bool) (x : Setting) (from flutter : ℕ) (h : Cycles) (double : ℕ)
    → IsSteadyRunFrom beside x from flutter h → from ≤ double
    → ((k : ℕ) → 1 ≤ k → k ≤ 5 → sharp_holds_of k flutter (sharp_near beside x.params flutter) x.params ≡ true)
    → IsInSharpSyncAt beside x.params flutter (pos 0) h double → KeepsSharpPrecision beside x flutter (pos 0) h double

-- all cycles of a run that is stated so are such a history
abbrev pub StatedRunsAreSteady : Type 0
StatedRunsAreSteady =
    (beside : Bool) (x : Setting) (from flutter : ℕ)
    → IsSetting x → IsSteadyFrom x from flutter → MayHaveArbitrary beside x → some_joins x ≡ false
    → IsSteadyRunFrom beside x from flutter (all_cycles x)

-- so much is known of a double cycle of a history, both of whose cycles it has: all nodes are active in both, starts and even lengths
-- lie no further apart, and these no further beyond their range
pub record IsKnownAt (x : Setting) (h : Cycles) (double : ℕ) (known : Known) : Type 0 where
  pub even : Cycle
  pub odd : Cycle
  pub has_even : cycle_at h (even_cycle double) ≡ Some even
  pub has_odd : cycle_at h (odd_cycle double) ≡ Some odd
  pub active_even : All (λ row. row.state ≡ Active) even.told.rows
  pub active_odd : All (λ row. row.state ≡ Active) odd.told.rows
  pub rows : AreSharp x.params known.spread.starts known.spread.lengths (pos known.beyond) even.told.rows

-- each correct node has a row in a double cycle: in its even cycle, and so in both
abbrev pub EachHasRow : Setting → Cycles → ℕ → Type 0
EachHasRow x h double =
    (node : NodeSpec) → Contains (correct_nodes x) node → (earlier : Cycles) (even odd : Cycle)
    → IsDoubleOf h double earlier even odd → IsSome (row_of even.told.rows node.id)
