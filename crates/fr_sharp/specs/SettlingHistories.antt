-- How a lawful history of a run that no node joins comes into sharp sync: from stated numbers, and from sync in the older sense.
use Rattle.std.specs.Prelude.{◌≡◌, ◌<◌, ◌≤◌, ◌+◌, ◌*◌, ◌+ℤ◌, ◌-ℤ◌, ◌*ℤ◌, ℕ, ℤ, pos, Bool, false, length, Contains, None, Some}
use Rattle.fr_base.specs.Within.{IsWithin}
use Rattle.fr_cluster.specs.Setting.{Setting, correct_nodes}
use Rattle.fr_cluster.specs.declared.nodes.NodeSpec.{NodeSpec}
use Rattle.fr_bound.specs.Bounds.{arrival_error, lambda_of, pi_of, precision_of}
use Rattle.fr_history.specs.Cycles.{Cycle, Cycles, cycle_at, some_joins}
use Rattle.fr_history.specs.Lawful.{IsLawful}
use Rattle.fr_history.specs.Unfollowed.{RowsAreInSyncAt}
use Rattle.fr_runs.specs.Supplied.{IsCoveredByFiles}
use Rattle.fr_runs.specs.Flutter.{FluttersWithin}
use Rattle.fr_precision.specs.Lengths.{walked_after, IsAboutCycle}
use Rattle.fr_bound.specs.SharpBounds.{sharp_lambda, sharp_pi, walk_lasts}
use Rattle.fr_bound.specs.SharpChecks.{SharpChecksHold}
use Rattle.fr_runs.specs.SharpHistories.{BeginsActive, IsInSharpSyncAt, IsSteadyRun, IsStatedRun, KeepsApart, StaysInSharpSyncAt}
use Rattle.fr_precision.specs.SharpRun.{lengths_from, starts_from, WalkLastsAfter, WalkLastsUpTo}
use Rattle.fr_bound.specs.SharpSpreads.{sharply_apart_in, sharply_near_in}
use Rattle.fr_bound.specs.SharpSpreads.{IsSharplySettled}
use Rattle.fr_precision.specs.SharpSettling.{sharp_spread_after}
use Rattle.fr_precision.specs.SharpStep.{AreSharp}
use Rattle.fr_runs.specs.SteadyRuns.{MayHaveArbitrary}

-- ---- from stated numbers

-- a history whose starts and even lengths lie within stated numbers in a double cycle, in ticks, with lengths in their range; all
-- nodes are active in it, as they are in the first one in any case; and the checks but the first hold with a reach for the whole way
pub record BeginsSharply (beside : Bool) (x : Setting) (flutter start rate reach : ℕ) (h : Cycles) (double : ℕ) : Type 0 where
  pub run : IsSteadyRun beside x flutter h
  pub checks : SharpChecksHold flutter reach x.params
  pub near : (k : ℕ) → double + k < x.doubles → sharply_near_in x.params (sharp_spread_after beside x.params flutter start rate k) ≤ reach
  pub active : 1 ≤ double → BeginsActive h double
  pub first : (even : Cycle) → cycle_at h (2 * double) ≡ Some even → AreSharp x.params start rate (pos 0) even.told.rows

-- so many double cycles later, behind the last in which the walk lasts too, they lie within the spread by its number; and while the
-- walk lasts, no macroticks lie further apart than the spread says
pub record KeepsToSpreadsAt (beside : Bool) (x : Setting) (flutter start rate : ℕ) (h : Cycles) (double passed : ℕ) : Type 0 where
  pub begins :
      WalkLastsUpTo x.params flutter passed → (even : Cycle) → cycle_at h (2 * (double + passed)) ≡ Some even
      → AreSharp x.params (starts_from beside x.params flutter start rate passed) (lengths_from beside x.params flutter start rate passed)
      (walked_after x.params flutter passed) even.told.rows
  pub keeps :
      WalkLastsAfter x.params flutter passed
      → KeepsApart x h (double + passed) (sharply_apart_in x.params (sharp_spread_after beside x.params flutter start rate passed))

abbrev pub HistoriesKeepToSpreads : Type 0
HistoriesKeepToSpreads =
    (beside : Bool) (x : Setting) (flutter start rate reach : ℕ) (h : Cycles) (double : ℕ)
    → BeginsSharply beside x flutter start rate reach h double
    → (passed : ℕ) → double + passed < x.doubles → KeepsToSpreadsAt beside x flutter start rate h double passed

-- and from the double cycle on in which the spreads have come to rest it is in sharp sync
abbrev pub HistoriesReachSharpSync : Type 0
HistoriesReachSharpSync =
    (beside : Bool) (x : Setting) (flutter start rate reach : ℕ) (h : Cycles) (double rest : ℕ)
    → BeginsSharply beside x flutter start rate reach h double
    → IsSharplySettled beside x.params flutter (sharp_spread_after beside x.params flutter start rate rest)
    → (passed : ℕ) → rest ≤ passed → double + passed < x.doubles → StaysInSharpSyncAt beside x flutter h double passed

-- the nodes of such a history are active in the first double cycle
abbrev pub HistoriesBeginActive : Type 0
HistoriesBeginActive = (beside : Bool) (x : Setting) (flutter : ℕ) (h : Cycles) → IsSteadyRun beside x flutter h → BeginsActive h 0

-- ---- what is stated of cycle 0

-- the length of a node's cycle 0, in ticks
abbrev pub first_length : Setting → ℕ → ℤ
first_length x node = (x.params.micros +ℤ x.rate node) *ℤ x.microtick node 0

-- the starts of correct nodes lie within stated numbers, in ticks, and so do the lengths of their cycle 0, each in its range
pub record AreStatedNear (x : Setting) (start rate : ℕ) : Type 0 where
  pub starts :
      (one other : NodeSpec) → Contains (correct_nodes x) one → Contains (correct_nodes x) other
      → IsWithin (pos start) (x.start one.id -ℤ x.start other.id)
  pub lengths :
      (one other : NodeSpec) → Contains (correct_nodes x) one → Contains (correct_nodes x) other
      → IsWithin (pos rate) (first_length x one.id -ℤ first_length x other.id)
  pub about : (node : NodeSpec) → Contains (correct_nodes x) node → IsAboutCycle x.params (pos 0) (first_length x node.id)

-- then the rows of cycle 0 do
abbrev pub StatedStartsAreSharp : Type 0
StatedStartsAreSharp =
    (beside : Bool) (x : Setting) (flutter start rate : ℕ) (h : Cycles) (even : Cycle)
    → IsSteadyRun beside x flutter h → AreStatedNear x start rate → cycle_at h 0 ≡ Some even
    → AreSharp x.params start rate (pos 0) even.told.rows

-- and with the sharper pi and lambda for these numbers a history that has a double cycle is in sharp sync in the first one
abbrev pub StatedRunsBeginInSharpSync : Type 0
StatedRunsBeginInSharpSync =
    (beside : Bool) (x : Setting) (flutter : ℕ) (h : Cycles)
    → IsSteadyRun beside x flutter h → AreStatedNear x (sharp_pi beside x.params flutter) (sharp_lambda beside x.params flutter)
    → 1 ≤ x.doubles → IsInSharpSyncAt beside x.params flutter (pos 0) h 0

-- so it is where frames may be lost
abbrev pub TimedRunsBeginInSharpSync : Type 0
TimedRunsBeginInSharpSync =
    (beside : Bool) (x : Setting) (flutter : ℕ) (h : Cycles)
    → IsStatedRun x flutter h → AreStatedNear x (sharp_pi beside x.params flutter) (sharp_lambda beside x.params flutter)
    → 1 ≤ x.doubles → IsInSharpSyncAt beside x.params flutter (pos 0) h 0

-- ---- from sync in the older sense

-- a whole lawful history of a run that no node joins and that is covered in the older sense, whose delays flutter by no more than
-- this, and this is no more than twice the error of an arrival; and one of its double cycles is in sync in the older sense
pub record IsOlderRun (beside : Bool) (x : Setting) (flutter : ℕ) (h : Cycles) (double : ℕ) : Type 0 where
  pub covered : IsCoveredByFiles x
  pub flutters : FluttersWithin x 0 flutter
  pub little : flutter ≤ 2 * arrival_error x.params
  pub arbitrary : MayHaveArbitrary beside x
  pub none_joins : some_joins x ≡ false
  pub lawful : IsLawful x h
  pub whole : length h ≡ 2 * x.doubles
  pub synced : RowsAreInSyncAt x.params h double

-- then the lengths do not walk, it keeps to the spreads from the older pi and lambda, with no macroticks further apart than the
-- older precision; and when the spreads have come to rest it is in sharp sync
pub record SettlesFromSync (beside : Bool) (x : Setting) (flutter : ℕ) (h : Cycles) (double passed : ℕ) : Type 0 where
  pub still : walk_lasts x.params flutter ≡ None
  pub spreads : KeepsToSpreadsAt beside x flutter (pi_of x.params) (lambda_of x.params) h double passed
  pub older : KeepsApart x h (double + passed) (precision_of x.params)
  pub reached :
      (rest : ℕ) → rest ≤ passed
      → IsSharplySettled beside x.params flutter (sharp_spread_after beside x.params flutter (pi_of x.params) (lambda_of x.params) rest)
      → StaysInSharpSyncAt beside x flutter h double passed

abbrev pub OlderHistoriesSettle : Type 0
OlderHistoriesSettle =
    (beside : Bool) (x : Setting) (flutter : ℕ) (h : Cycles) (double : ℕ)
    → IsOlderRun beside x flutter h double → (passed : ℕ) → double + passed < x.doubles → SettlesFromSync beside x flutter h double passed
