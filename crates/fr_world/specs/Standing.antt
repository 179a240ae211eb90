-- What a world holds between cycles: the nodes, the followers and the listeners of the last cycle, as they stand before the
-- next one. Who has a row, follows or listens there shows as that cycle begins.
use Rattle.std.specs.Prelude.{true, false, List, [], ◌∷◌, length, map, filter_map, Option, if◌then◌else◌}
use Rattle.std.specs.Option.{option_map}
use Rattle.fr_cluster.specs.Setting.{Setting}
use Rattle.fr_cluster.specs.declared.nodes.NodeSpec.{NodeSpec}
use Rattle.fr_time.specs.Cycles.{is_odd}
use Rattle.fr_node.specs.Listening.{ListenerView}
use Rattle.fr_node.specs.View.{NodeView}
use Rattle.fr_history.specs.Cycles.{Cycle, Cycles}
use Rattle.fr_history.specs.Standing.{following_nodes, kept_row_nodes}
use Rattle.fr_air.specs.Listeners.{catches_of, listening_nodes}
use Rattle.fr_air.specs.Views.{listener_with, listeners_of_next, node_of_next, reference_slot}

-- the nodes that followed in the last cycle; before cycle 0 there is none
abbrev pub kept_following_nodes : Setting → Cycles → List NodeSpec
kept_following_nodes x [] = []
kept_following_nodes x (c ∷ h) = following_nodes x h

-- The nodes of the last cycle as they stand before the next one, in ascending order. Those of the next cycle are
-- `nodes_of_next` of `fr_air`.
abbrev pub nodes_kept : Setting → Cycles → List NodeView
nodes_kept x h = map (λ node. node_of_next x h false node.id) (kept_row_nodes x h)

abbrev pub followers_kept : Setting → Cycles → List NodeView
followers_kept x h = map (λ node. node_of_next x h true node.id) (kept_following_nodes x h)

-- a listener with what it has caught in both cycles of a double cycle
abbrev pub listener_kept : Setting → Cycles → Cycle → Cycle → NodeSpec → Option ListenerView
listener_kept x h even odd node =
    option_map (λ slot. listener_with node.id slot (catches_of x h even odd node.id slot)) (reference_slot x (x.join node.id))

-- the listeners of the double cycle of the last cycle, with what they have caught of it
abbrev pub listeners_kept : Setting → Cycles → List ListenerView
listeners_kept x [] = []
listeners_kept x (c ∷ []) = listeners_of_next x (c ∷ [])
listeners_kept x (odd ∷ even ∷ h) =
    if is_odd (length h) then listeners_of_next x (odd ∷ even ∷ h)
    else filter_map (listener_kept x h even odd) (listening_nodes x h)
