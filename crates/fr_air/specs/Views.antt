-- The nodes of a run as contracts see them, after some cycles.
use Rattle.std.specs.Prelude.{◌≡◌, ℕ, suc, ◌*◌, Bool, true, false, List, ◌∷◌, length, map, filter_map, Contains, Option, None, Some}
use Rattle.std.specs.Option.{option_map}
use Rattle.fr_cluster.specs.Questions.{own_key}
use Rattle.fr_cluster.specs.Setting.{Setting, correct_nodes}
use Rattle.fr_cluster.specs.declared.join.Join.{Join}
use Rattle.fr_cluster.specs.declared.nodes.NodeSpec.{NodeSpec}
use Rattle.fr_reception.specs.Listening.{Caught}
use Rattle.fr_poc.specs.Limits.{limits_of}
use Rattle.fr_node.specs.Listening.{ListenerView, first_of, follower_by}
use Rattle.fr_node.specs.Cycle.{as_joined}
use Rattle.fr_node.specs.View.{NodeView}
use Rattle.fr_history.specs.Terms.{status_in}
use Rattle.fr_history.specs.Catching.{begins_with}
use Rattle.fr_history.specs.Cycles.{Cycle, Cycles, told_of}
use Rattle.fr_history.specs.Laws.{rate_of_next, start_of_next}
use Rattle.fr_history.specs.Lawful.{IsLawful}
use Rattle.fr_history.specs.Standing.{following_nodes, row_nodes}
use Rattle.fr_air.specs.Listeners.{Caughts, catches_after, catches_of, listening_nodes}
use Rattle.fr_air.specs.Nodes.{outcomes_after, readings_after}
use Rattle.fr_air.specs.NextStanding.{joining_nodes}

-- a node before the cycle after some cycles, with a row or as a follower
abbrev pub node_of_next : Setting → Cycles → Bool → ℕ → NodeView
node_of_next x h follows node = record {
  id = node;
  cycle = length h;
  length = None;
  start = start_of_next x h node;
  rate = rate_of_next x h node;
  table = readings_after x h node;
  control = record { limits = limits_of x.params; status = status_in x.params (told_of h) node };
  follows = follows;
  outcomes = outcomes_after x h node;
}

-- The nodes that have a row in that next cycle, and those that follow in it, in ascending order. What a world holds
-- meanwhile are those of the last cycle (`nodes_kept` of `fr_world`): who joins or begins to follow shows as the next one
-- begins.
abbrev pub nodes_of_next : Setting → Cycles → List NodeView
nodes_of_next x h = map (λ node. node_of_next x h false node.id) (row_nodes x h)

abbrev pub followers_of_next : Setting → Cycles → List NodeView
followers_of_next x h = map (λ node. node_of_next x h true node.id) (following_nodes x h)

-- a listener with what it has caught
abbrev pub listener_with : ℕ → ℕ → Caughts → ListenerView
listener_with node slot c = record {
  id = node;
  reference = slot;
  even_a = c.even_a;
  even_b = c.even_b;
  odd_a = c.odd_a;
  odd_b = c.odd_b;
}

-- the key slot of the reference of a node that joins, if it has one
abbrev pub reference_slot : Setting → Option Join → Option ℕ
reference_slot x None = None
reference_slot x (Some join) = own_key x.params join.reference

abbrev pub listener_of_next : Setting → Cycles → NodeSpec → Option ListenerView
listener_of_next x h node =
    option_map (λ slot. listener_with node.id slot (catches_after x h node.id slot)) (reference_slot x (x.join node.id))

-- the listeners of the double cycle to which that cycle belongs, in ascending order
abbrev pub listeners_of_next : Setting → Cycles → List ListenerView
listeners_of_next x h = filter_map (listener_of_next x h) (listening_nodes x h)

-- a node that joins is the follower that it was, but that it follows no longer and its operation control begins
abbrev pub JoiningNodesAreJoined : Type 0
JoiningNodesAreJoined =
    (x : Setting) (h : Cycles) (node : NodeSpec) → IsLawful x h → Contains (joining_nodes x h) node
    → node_of_next x h false node.id ≡ as_joined (node_of_next x h true node.id)

-- a listener begins with what it begins with
abbrev pub ListenersComeFirst : Type 0
ListenersComeFirst =
    (x : Setting) (h : Cycles) (even odd : Cycle) (node : ℕ) (join : Join) (slot : ℕ)
    → length h ≡ 2 * join.double → own_key x.params join.reference ≡ Some slot
    → first_of x.params (listener_with node slot (catches_of x h even odd node slot)) (suc (suc (length h)))
    (x.microtick node (length h)) (x.microtick node (suc (length h)))
    ≡ option_map (follower_by x.params node (suc (suc (length h)))) (begins_with x (odd ∷ even ∷ h) node join)

-- and the follower that begins is the one that it answers
abbrev pub FollowersBegin : Type 0
FollowersBegin =
    (x : Setting) (h : Cycles) (even odd : Cycle) (node : NodeSpec) (join : Join) (c : Caught)
    → IsLawful x (odd ∷ even ∷ h) → Contains (correct_nodes x) node → x.join node.id ≡ Some join
    → begins_with x (odd ∷ even ∷ h) node.id join ≡ Some c
    → node_of_next x (odd ∷ even ∷ h) true node.id ≡ follower_by x.params node.id (suc (suc (length h))) c
