-- Who has a row, and who follows, from one double cycle to the next.
use Rattle.std.specs.Prelude.{◌≡◌, ◌⊎◌, ◌<◌, ℕ, suc, false, ◌∷◌, Contains, None, Some}
use Rattle.fr_cluster.specs.Setting.{Setting, correct_nodes}
use Rattle.fr_cluster.specs.declared.nodes.NodeSpec.{NodeSpec}
use Rattle.fr_reception.specs.Listening.{Caught}
use Rattle.fr_history.specs.History.{row_of}
use Rattle.fr_cluster.specs.declared.join.Join.{Join}
use Rattle.fr_history.specs.Cycles.{Cycle, Cycles}
use Rattle.fr_history.specs.Catching.{begins_with}
use Rattle.fr_history.specs.Standing.{following_nodes, has_row, row_nodes}
use Rattle.fr_runs.specs.Gathered.{CycleRuns, IsDoubleInSync, IsHeardByAll, followers_since}

-- a node begins to follow behind a double cycle: it has no row of either kind yet, and caught frames of its reference
pub record Begins (x : Setting) (h : Cycles) (even odd : Cycle) (node : NodeSpec) : Type 0 where
  pub join : Join
  pub caught : Caught
  pub joins : x.join node.id ≡ Some join
  pub begins : begins_with x (odd ∷ even ∷ h) node.id join ≡ Some caught
  pub no_row : row_of odd.told.rows node.id ≡ None
  pub no_follower : row_of odd.followers node.id ≡ None

-- who succeeds whom behind a double cycle
pub record IsSucceeded (x : Setting) (h : Cycles) (even odd : Cycle) (double : ℕ) : Type 0 where
  -- within it all stays
  pub rows_stay : row_nodes x (even ∷ h) ≡ row_nodes x h
  pub followers_stay : following_nodes x (even ∷ h) ≡ following_nodes x h
  -- whoever has a row behind it had one, or followed for the second time
  pub rows_from :
      (node : NodeSpec) → Contains (row_nodes x (odd ∷ even ∷ h)) node
      → Contains (row_nodes x h) node ⊎ Contains (followers_since x h 2 double) node
  -- whoever follows behind it for the second time did so for the first time; and for the first time, begins to
  pub seconds_from :
      (node : NodeSpec) → Contains (followers_since x (odd ∷ even ∷ h) 2 (suc double)) node
      → Contains (followers_since x h 1 double) node
  pub firsts_from :
      (node : NodeSpec) → Contains (followers_since x (odd ∷ even ∷ h) 1 (suc double)) node → Begins x h even odd node
  -- and nobody else follows
  pub followers_from :
      (node : NodeSpec) → Contains (following_nodes x (odd ∷ even ∷ h)) node
      → Contains (followers_since x (odd ∷ even ∷ h) 2 (suc double)) node
      ⊎ Contains (followers_since x (odd ∷ even ∷ h) 1 (suc double)) node
  -- whoever has no row behind it had none before
  pub fresh_from :
      (node : NodeSpec) → Contains (correct_nodes x) node → has_row x (odd ∷ even ∷ h) node.id ≡ false
      → (has_row x h node.id ≡ false) × (row_of odd.told.rows node.id ≡ None)

-- it is so whatever the clocks are
abbrev pub GatheredNodesSucceed : Type 0
GatheredNodesSucceed =
    (x : Setting) (h : Cycles) (even odd even2 : Cycle) (double : ℕ)
    → IsDoubleInSync x h even odd double → CycleRuns x (odd ∷ even ∷ h) even2 → IsSucceeded x h even odd double

-- the step, given that
abbrev pub SucceedingGoesOn : Type 0
SucceedingGoesOn =
    (x : Setting) (h : Cycles) (even odd even2 odd2 : Cycle) (double : ℕ)
    → IsDoubleInSync x h even odd double → IsHeardByAll x h even odd double → suc double < x.doubles
    → IsSucceeded x h even odd double
    → row_nodes x (even2 ∷ odd ∷ even ∷ h) ≡ row_nodes x (odd ∷ even ∷ h)
    → following_nodes x (even2 ∷ odd ∷ even ∷ h) ≡ following_nodes x (odd ∷ even ∷ h)
    → CycleRuns x (odd ∷ even ∷ h) even2 → CycleRuns x (even2 ∷ odd ∷ even ∷ h) odd2
    → IsDoubleInSync x (odd ∷ even ∷ h) even2 odd2 (suc double)

-- and no follower is left behind: from the first time on it follows for the second time, and then it has a row
abbrev pub FollowersJoin : Type 0
FollowersJoin =
    (x : Setting) (h : Cycles) (even odd : Cycle) (double : ℕ) → IsDoubleInSync x h even odd double → IsHeardByAll x h even odd double
    → ((node : NodeSpec) → Contains (followers_since x h 2 double) node → Contains (row_nodes x (odd ∷ even ∷ h)) node)
    × ((node : NodeSpec) → Contains (followers_since x h 1 double) node
    → Contains (followers_since x (odd ∷ even ∷ h) 2 (suc double)) node)
