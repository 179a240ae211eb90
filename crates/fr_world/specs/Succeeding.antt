-- Who has a row, who follows and who listens as a cycle begins, by who did in the cycle before.
use Rattle.std.specs.Prelude.{◌≡◌, ℕ, ◌+◌, ◌-◌, ◌/◌, ◌==◌, ◌<◌, ◌≤◌, Bool, true, false, ◌&&◌, List, ◌++◌, take, drop, length, map, filter, filter_map, All, Option, Some, None, IsNone, IsSome, if◌then◌else◌}
use Rattle.std.specs.Option.{option_map}
use Rattle.fr_cluster.specs.Questions.{own_key}
use Rattle.fr_cluster.specs.Setting.{correct_nodes}
use Rattle.fr_cluster.specs.Values.{Values}
use Rattle.fr_cluster.specs.declared.join.Join.{Join}
use Rattle.fr_cluster.specs.declared.nodes.NodeSpec.{NodeSpec}
use Rattle.fr_drift.specs.Questions.{length_of}
use Rattle.fr_time.specs.Cycles.{is_odd}
use Rattle.fr_script.specs.View.{join_of}
use Rattle.fr_node.specs.Cycle.{as_joined}
use Rattle.fr_correct.specs.Terms.{are_uncut}
use Rattle.fr_node.specs.Fits.{NodeFits}
use Rattle.fr_node.specs.Listening.{ListenerView, first_of, listening}
use Rattle.fr_node.specs.View.{NodeView}
use Rattle.fr_air.specs.Placing.{put, put_all}
use Rattle.fr_air.specs.Files.{setting_in}
use Rattle.fr_air.specs.Listening.{IsListener}
use Rattle.fr_world.specs.Stage.{StageView}
use Rattle.fr_air.specs.declared.files.RunInputs.{RunInputs}

-- whether a follower joins as a double cycle begins: it is the third one behind its listening, and both its terms lay within
-- their limits
abbrev pub joins_in : ℕ → NodeView → Option Join → Bool
joins_in double node None = false
joins_in double node (Some join) = (double == join.double + 3) && are_uncut node.outcomes

-- whether it goes on to follow into a double cycle: it is the second one behind its listening, and the same holds
abbrev pub goes_in : ℕ → NodeView → Option Join → Bool
goes_in double node None = false
goes_in double node (Some join) = (double == join.double + 2) && are_uncut node.outcomes

abbrev pub joins_now : RunInputs → ℕ → NodeView → Bool
joins_now f double node = joins_in double node (join_of f.script node.id)

abbrev pub goes_now : RunInputs → ℕ → NodeView → Bool
goes_now f double node = goes_in double node (join_of f.script node.id)

-- the follower that a listener begins as, if what it has caught in the double cycle before suffices
abbrev pub first_now : RunInputs → ℕ → ListenerView → Option NodeView
first_now f cycle l = first_of f.params l cycle (length_of f.drift l.id (cycle - 2)) (length_of f.drift l.id (cycle - 1))

-- a node that joins, as a listener, if it listens in a double cycle
abbrev pub listener_by : Values → ℕ → ℕ → Option Join → Option ListenerView
listener_by p double id None = None
listener_by p double id (Some join) =
    if join.double == double then option_map (listening id) (own_key p join.reference) else None

-- the listeners of a double cycle, in ascending order; they have caught nothing
abbrev pub listener_now : RunInputs → ℕ → NodeSpec → Option ListenerView
listener_now f double node = listener_by f.params double node.id (join_of f.script node.id)

abbrev pub listeners_now : RunInputs → ℕ → List ListenerView
listeners_now f double = filter_map (listener_now f double) (correct_nodes (setting_in f))

-- as a cycle begins: as an even one does, followers join or go on, listeners begin to follow, and others begin to listen
abbrev pub succeeded : RunInputs → ℕ → StageView → StageView
succeeded f cycle stage = if is_odd cycle then stage else record stage {
  nodes = put_all (λ n. n.id) (map as_joined (filter (joins_now f (cycle / 2)) stage.followers)) stage.nodes;
  followers = put_all (λ n. n.id) (filter_map (first_now f cycle) stage.listeners)
      (filter (goes_now f (cycle / 2)) stage.followers);
  listeners = listeners_now f (cycle / 2);
}

-- ---- what is asked of a stage before that

-- the nodes and the followers fit the cluster
pub record AllFit (f : RunInputs) (stage : StageView) : Type 0 where
  pub nodes : All (NodeFits f.params) stage.nodes
  pub followers : All (NodeFits f.params) stage.followers

-- a node followed in an odd cycle, which has ended
pub record HasFollowed (node : NodeView) : Type 0 where
  pub follows : node.follows ≡ true
  pub between : IsNone node.length
  pub ended : IsSome node.outcomes

-- a listener heard both cycles of the double cycle before this cycle
pub record HasHeardBoth (f : RunInputs) (cycle : ℕ) (l : ListenerView) : Type 0 where
  pub listens : IsListener f l
  pub behind : 2 ≤ cycle

-- so it is of all, where a double cycle begins
pub record HasPassed (f : RunInputs) (cycle : ℕ) (stage : StageView) : Type 0 where
  pub followers : All HasFollowed stage.followers
  pub listeners : All (HasHeardBoth f cycle) stage.listeners

-- no list of nodes is longer than that of a cluster
pub record HasFew (stage : StageView) : Type 0 where
  pub nodes : length stage.nodes ≤ 64
  pub followers : length stage.followers ≤ 64

-- ---- the walk over the followers, and over the listeners

-- a list with one more element put in, if there is one
abbrev pub put_some : Option NodeView → List NodeView → List NodeView
put_some None nodes = nodes
put_some (Some node) nodes = put (λ n. n.id) node nodes

-- the nodes with those put in that join among the followers from a place on
abbrev pub nodes_with : RunInputs → ℕ → ℕ → List NodeView → List NodeView → List NodeView
nodes_with f double place followers nodes =
    put_all (λ n. n.id) (map as_joined (filter (joins_now f double) (drop place followers))) nodes

-- the followers without those from a place on that do not go on
abbrev pub followers_without : RunInputs → ℕ → ℕ → List NodeView → List NodeView
followers_without f double place followers = take place followers ++ filter (goes_now f double) (drop place followers)

-- what is asked of followers that are passed, and of the nodes that they join
pub record CanPass (f : RunInputs) (followers nodes : List NodeView) : Type 0 where
  pub followed : All HasFollowed followers
  pub followers_fit : All (NodeFits f.params) followers
  pub nodes_fit : All (NodeFits f.params) nodes

-- one more follower is passed: what both will be stays the same
pub record Passes (f : RunInputs) (double place next : ℕ) (followers nodes followers_after nodes_after : List NodeView) : Type 0 where
  pub nodes_same : nodes_with f double next followers_after nodes_after ≡ nodes_with f double place followers nodes
  pub followers_same : followers_without f double next followers_after ≡ followers_without f double place followers
  pub within : next ≤ length followers_after
  pub nearer : length followers_after + place < length followers + next
