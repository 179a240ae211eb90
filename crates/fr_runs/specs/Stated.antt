-- What is stated of a run before it begins, and what follows for the cycles that it has.
use Rattle.std.specs.Prelude.{◌≡◌, true, ◌≤◌, ◌*◌, ℕ, Contains, Some}
use Rattle.fr_cluster.specs.Setting.{IsSetting, Setting, correct_nodes}
use Rattle.fr_cluster.specs.declared.nodes.NodeSpec.{NodeSpec}
use Rattle.fr_cluster.specs.declared.join.Join.{Join}
use Rattle.fr_history.specs.Cycles.{Cycles, some_joins}
use Rattle.fr_history.specs.Next.{cycles_of}
use Rattle.fr_history.specs.Unfollowed.{first_unfollowed_sync_of}
use Rattle.fr_runs.specs.Rounds.{RatesBegin}
use Rattle.fr_runs.specs.Supplied.{IsCoveredByFiles, StartsBegin}
use Rattle.fr_runs.specs.Whole.{IsJoined, KeepsTogether}

-- a run of a cluster that is covered, and begins with rates within their limit and, where some node joins, with no start below 0
pub record IsCoveredRun (x : Setting) : Type 0 where
  pub setting : IsSetting x
  pub covered : IsCoveredByFiles x
  pub rates : RatesBegin x
  pub starts : some_joins x ≡ true → StartsBegin x

-- all cycles that it has
abbrev pub all_cycles : Setting → Cycles
all_cycles x = cycles_of x (2 * x.doubles)

-- from its first double cycle in sync on in which none follows, if it has one, it keeps together, and whoever listens from
-- there on joins
pub record StaysTogether (x : Setting) (double : ℕ) : Type 0 where
  pub together : KeepsTogether x (all_cycles x) double
  pub joined :
      (node : NodeSpec) (join : Join) → Contains (correct_nodes x) node → x.join node.id ≡ Some join → double ≤ join.double
      → IsJoined (all_cycles x) node.id join

abbrev pub StatedRunsStayTogether : Type 0
StatedRunsStayTogether =
    (x : Setting) (double : ℕ)
    → IsCoveredRun x → first_unfollowed_sync_of x.params (all_cycles x) ≡ Some double → StaysTogether x double
