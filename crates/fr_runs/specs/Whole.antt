-- Whole lawful runs: what they keep from a double cycle in sync on in which none follows, and who joins.
use Rattle.std.specs.Prelude.{◌≡◌, true, ◌<◌, ◌≤◌, ◌+◌, ◌*◌, ℕ, ◌∷◌, length, Contains, IsSome, Some}
use Rattle.fr_base.specs.declared.state.State.TheVariants.{Active}
use Rattle.fr_cluster.specs.Setting.{Setting, correct_nodes}
use Rattle.fr_cluster.specs.declared.nodes.NodeSpec.{NodeSpec}
use Rattle.fr_history.specs.History.{row_of}
use Rattle.fr_history.specs.Terms.{status_in}
use Rattle.fr_cluster.specs.declared.join.Join.{Join}
use Rattle.fr_history.specs.Cycles.{Cycle, Cycles, cycle_at, some_joins, told_of}
use Rattle.fr_history.specs.Lawful.{IsLawful}
use Rattle.fr_history.specs.Unfollowed.{IsUnfollowedSyncAt, RowsAreInSyncAt}
use Rattle.fr_runs.specs.Precision.{CyclesKeepPrecision}
use Rattle.fr_runs.specs.Rounds.{IsDoubleOf, KeepsUp, RatesBegin}
use Rattle.fr_runs.specs.Supplied.{IsCovered, StartsBegin}

-- a whole run: its cycles are lawful, it is covered, and it begins with rates within their limit and, where some node joins, with
-- no start below 0; and one of its double cycles is in sync, and none follows in it
pub record IsUnfollowedRun (x : Setting) (h : Cycles) (double : ℕ) : Type 0 where
  pub covered : IsCovered x
  pub rates : RatesBegin x
  pub starts : some_joins x ≡ true → StartsBegin x
  pub lawful : IsLawful x h
  pub whole : length h ≡ 2 * x.doubles
  pub unfollowed : IsUnfollowedSyncAt x.params h double

-- from there on the nodes with rows are in sync in each double cycle, whoever joined, and it keeps up; and the run keeps its
-- precision. Whoever has a row in its last cycle is active behind it
pub record KeepsTogether (x : Setting) (h : Cycles) (double : ℕ) : Type 0 where
  pub synced : (m : ℕ) → double ≤ m → m < x.doubles → RowsAreInSyncAt x.params h m
  pub keeps_up :
      (k : ℕ) (earlier : Cycles) (even odd : Cycle) → double ≤ k → k < x.doubles → IsDoubleOf h k earlier even odd
      → KeepsUp x earlier even odd k
  pub precise : CyclesKeepPrecision x h double
  pub after :
      (last : Cycle) (before : Cycles) (node : NodeSpec) → h ≡ last ∷ before → Contains (correct_nodes x) node
      → IsSome (row_of last.told.rows node.id) → (status_in x.params (told_of h) node.id).state ≡ Active

abbrev pub UnfollowedRunsKeepTogether : Type 0
UnfollowedRunsKeepTogether = (x : Setting) (h : Cycles) (double : ℕ) → IsUnfollowedRun x h double → KeepsTogether x h double

-- a node that listens follows in the four cycles behind the double cycle in which it does, and has a row in those behind
-- these: it is said of the cycles that there are
abbrev pub IsJoined : Cycles → ℕ → Join → Type 0
IsJoined h node join =
    (cycle : ℕ) (c : Cycle) → cycle_at h cycle ≡ Some c
    → (2 * join.double + 2 ≤ cycle → cycle < 2 * join.double + 6 → IsSome (row_of c.followers node))
    × (2 * join.double + 6 ≤ cycle → IsSome (row_of c.told.rows node))

-- so does whoever listens in that double cycle or in a later one
abbrev pub ListenersJoin : Type 0
ListenersJoin =
    (x : Setting) (h : Cycles) (double : ℕ) (node : NodeSpec) (join : Join)
    → IsUnfollowedRun x h double → Contains (correct_nodes x) node → x.join node.id ≡ Some join → double ≤ join.double
    → IsJoined h node.id join
