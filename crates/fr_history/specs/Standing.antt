-- Which nodes have a row in a cycle, and which follow.
use Rattle.std.specs.Prelude.{ℕ, suc, ◌+◌, ◌*◌, ◌==◌, Bool, true, false, ◌&&◌, ◌||◌, List, [], ◌∷◌, length, filter, Option, Some, None, is_some}
use Rattle.fr_base.specs.declared.dev.Dev.{Dev}
use Rattle.fr_base.specs.declared.node_row.NodeRow.{NodeRow}
use Rattle.fr_cluster.specs.Setting.{Setting, correct_nodes}
use Rattle.fr_cluster.specs.Values.{Values}
use Rattle.fr_cluster.specs.declared.nodes.NodeSpec.{NodeSpec}
use Rattle.fr_time.specs.Cycles.{is_odd}
use Rattle.fr_history.specs.History.{row_of}
use Rattle.fr_history.specs.Terms.{offset_term_by, rate_term_by}
use Rattle.fr_history.specs.Catching.{begins_with}
use Rattle.fr_cluster.specs.declared.join.Join.{Join}
use Rattle.fr_correct.specs.Terms.{is_uncut}
use Rattle.fr_history.specs.Cycles.{Cycle, Cycles, follower_devs_after}

-- whether neither term of a follower was cut or missing at the end of a double cycle, by the deviations of both cycles and
-- its odd row; it adds no value of its own
abbrev pub is_steady : Values → List Dev → List Dev → NodeRow → Bool
is_steady p evens odds row =
    is_uncut (offset_term_by p evens odds row.node None).outcome && is_uncut (rate_term_by p evens odds row None).outcome

-- whether a node followed in an odd cycle, after some cycles, and was steady there
abbrev pub followed_well : Values → Cycle → Cycles → Option NodeRow → Bool
followed_well p odd h None = false
followed_well p odd h (Some row) = is_steady p (follower_devs_after h) odd.follower_devs row

-- a node that joins has a row where it had one in the cycle before, and from the third double cycle behind its listening on
-- where it followed well up to there
abbrev pub has_joined_after : Setting → Cycles → ℕ → Join → Bool
has_joined_after x [] node join = false
has_joined_after x (c ∷ h) node join =
    is_some (row_of c.told.rows node)
    || ((suc (length h) == 2 * join.double + 6) && followed_well x.params c h (row_of c.followers node))

-- every other node has a row in each cycle
abbrev pub has_row_by : Setting → Cycles → ℕ → Option Join → Bool
has_row_by x h node None = true
has_row_by x h node (Some join) = has_joined_after x h node join

-- whether a correct node has a row in the cycle behind some cycles, and the nodes that have one
abbrev pub has_row : Setting → Cycles → ℕ → Bool
has_row x h node = has_row_by x h node (x.join node)

abbrev pub row_nodes : Setting → Cycles → List NodeSpec
row_nodes x h = filter (λ node. has_row x h node.id) (correct_nodes x)

-- the nodes that had a row in the last cycle; before cycle 0 those that join nobody
abbrev pub kept_row_nodes : Setting → Cycles → List NodeSpec
kept_row_nodes x [] = row_nodes x []
kept_row_nodes x (c ∷ h) = row_nodes x h

-- a follower goes on within a double cycle, and once into the next one where it followed well
abbrev pub goes_on : Setting → Cycles → ℕ → Join → Bool
goes_on x [] node join = false
goes_on x (c ∷ h) node join =
    is_some (row_of c.followers node)
    && (is_odd (suc (length h))
    || ((suc (length h) == 2 * join.double + 4) && followed_well x.params c h (row_of c.followers node)))

-- a node that joins follows where it begins to, or goes on
abbrev pub follows_by : Setting → Cycles → ℕ → Option Join → Bool
follows_by x h node None = false
follows_by x h node (Some join) = is_some (begins_with x h node join) || goes_on x h node join

-- whether a correct node follows in the cycle behind some cycles, and the nodes that do
abbrev pub follows : Setting → Cycles → ℕ → Bool
follows x h node = follows_by x h node (x.join node)

abbrev pub following_nodes : Setting → Cycles → List NodeSpec
following_nodes x h = filter (λ node. follows x h node.id) (correct_nodes x)
