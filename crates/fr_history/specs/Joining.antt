-- When a node that joins may have a row, and when it may follow; and that each node has one where none joins.
use Rattle.std.specs.Prelude.{◌≡◌, ℕ, ◌+◌, ◌*◌, ◌≤◌, true, false, [], ◌∷◌, length, Contains, Some}
use Rattle.fr_cluster.specs.Setting.{Setting, correct_nodes}
use Rattle.fr_cluster.specs.declared.nodes.NodeSpec.{NodeSpec}
use Rattle.fr_cluster.specs.declared.join.Join.{Join}
use Rattle.fr_history.specs.History.{AreRowsOf}
use Rattle.fr_history.specs.Cycles.{Cycle, Cycles, cycle_at, some_joins}
use Rattle.fr_history.specs.Lawful.{IsLawful, Obeys}
use Rattle.fr_history.specs.Standing.{follows, has_row}

-- a node that listens in a double cycle follows in the next two at most, and has a row from the third one on at the earliest;
-- the number of the cycle behind some cycles is how many they are
pub record StandsInTime (x : Setting) (h : Cycles) (node : ℕ) (join : Join) : Type 0 where
  pub row_from : has_row x h node ≡ true → 2 * join.double + 6 ≤ length h
  pub follows_from : follows x h node ≡ true → 2 * join.double + 2 ≤ length h
  pub follows_to : follows x h node ≡ true → length h ≤ 2 * join.double + 5

abbrev pub JoiningNodesStandInTime : Type 0
JoiningNodesStandInTime =
    (x : Setting) (h : Cycles) (node : ℕ) (join : Join) → IsLawful x h → x.join node ≡ Some join → StandsInTime x h node join

-- so no node has a row in a cycle in which it follows
abbrev pub FollowersHaveNoRow : Type 0
FollowersHaveNoRow =
    (x : Setting) (h : Cycles) (node : ℕ) → IsLawful x h → has_row x h node ≡ true → follows x h node ≡ true → ⊥

-- and a correct node that has a row has one in every later cycle
abbrev pub RowsStay : Type 0
RowsStay =
    (x : Setting) (h : Cycles) (c : Cycle) (node : NodeSpec)
    → Obeys x h c → Contains (correct_nodes x) node → has_row x h node.id ≡ true → has_row x (c ∷ h) node.id ≡ true

-- ---- where no node joins

-- in a cycle each correct node has a row, and none follows
pub record HasAllRows (x : Setting) (c : Cycle) : Type 0 where
  pub rows : AreRowsOf (correct_nodes x) c.told.rows
  pub none_follows : c.followers ≡ []
  pub none_stored : c.follower_devs ≡ []

-- so it is in every cycle of a lawful run that no correct node joins
abbrev pub RunsThatNoneJoins : Type 0
RunsThatNoneJoins =
    (x : Setting) (h : Cycles) (cycle : ℕ) (c : Cycle)
    → some_joins x ≡ false → IsLawful x h → cycle_at h cycle ≡ Some c → HasAllRows x c
