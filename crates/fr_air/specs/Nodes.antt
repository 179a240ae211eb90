-- What the nodes of a run have after some cycles, besides a start, a rate and a state: their deviations, and
-- how their terms ended. A node has them whether it has a row or follows.
use Rattle.std.specs.Prelude.{◌≡◌, ℕ, ℤ, Bool, true, false, ◌||◌, List, [], ◌∷◌, ◌++◌, length, map, Contains, Option, None, Some, is_some, option_and_then, if◌then◌else◌}
use Rattle.std.specs.List.{range_with_len}
use Rattle.fr_base.specs.Rows.{dev_in}
use Rattle.fr_base.specs.declared.channel.Channel.{Channel}
use Rattle.fr_base.specs.declared.channel.Channel.TheVariants.{A, B}
use Rattle.fr_base.specs.declared.dev.Dev.{Dev}
use Rattle.fr_base.specs.declared.node_row.NodeRow.{NodeRow}
use Rattle.fr_base.specs.declared.state.Outcome.{Outcome}
use Rattle.fr_cluster.specs.Questions.{key_slot_of, own_index}
use Rattle.fr_cluster.specs.Setting.{Setting, correct_nodes}
use Rattle.fr_cluster.specs.Values.{Values}
use Rattle.fr_cluster.specs.declared.nodes.NodeSpec.{NodeSpec}
use Rattle.fr_time.specs.Cycles.{is_odd}
use Rattle.fr_measure.specs.Readings.{Readings, no_readings}
use Rattle.fr_history.specs.History.{row_of}
use Rattle.fr_history.specs.Terms.{latest_devs, offset_term_by, outcomes_in, rate_term_by}
use Rattle.fr_history.specs.Cycles.{Cycle, Cycles, follower_devs_after, told_of}
use Rattle.fr_history.specs.Lawful.{IsLawful}
use Rattle.fr_history.specs.Standing.{followed_well, has_row}
use Rattle.fr_correct.specs.Terms.{are_uncut}
use Rattle.fr_air.specs.NextStanding.{joining_nodes}

-- ---- deviations

-- all that a cycle records, of the nodes with rows and of the followers: no node is both
abbrev pub all_devs : Cycle → List Dev
all_devs c = c.told.devs ++ c.follower_devs

-- those of the latest cycle
abbrev pub all_devs_after : Cycles → List Dev
all_devs_after [] = []
all_devs_after (c ∷ h) = all_devs c

-- the deviation that a list records of a node at a key index on a channel
abbrev pub recorded_at : Values → List Dev → ℕ → Channel → ℕ → Option ℤ
recorded_at p devs node channel index = option_and_then (λ slot. dev_in devs node slot channel) (key_slot_of p index)

-- a column of a node's table, as a list records it
abbrev pub column_of : Values → List Dev → ℕ → Channel → List (Option ℤ)
column_of p devs node channel = map (recorded_at p devs node channel) (range_with_len 0 15)

-- a node's table, as the lists of the two cycles of a double cycle record it
unfoldable pub readings_of : Values → List Dev → List Dev → ℕ → Readings
readings_of p evens odds node = record {
  even_a = column_of p evens node A;
  even_b = column_of p evens node B;
  odd_a = column_of p odds node A;
  odd_b = column_of p odds node B;
}

-- whether a node has a row in a cycle or follows in it
abbrev pub takes_part : Cycle → ℕ → Bool
takes_part c node = is_some (row_of c.told.rows node) || is_some (row_of c.followers node)

-- the table of a node behind some cycles: it has the deviations of the double cycle of the latest one, if the node took part
unfoldable pub readings_after : Setting → Cycles → ℕ → Readings
readings_after x [] node = no_readings
readings_after x (c ∷ h) node =
    if takes_part c node
    then (
    if is_odd (length h) then readings_of x.params (all_devs_after h) (all_devs c) node
    else readings_of x.params (all_devs c) [] node
    ) else no_readings

-- ---- outcomes

-- how both terms of a node end in an odd cycle, by the deviations of both cycles, its row and its own key index
abbrev pub pair_by : Values → List Dev → List Dev → NodeRow → Option ℕ → Outcome × Outcome
pair_by p evens odds row own =
    ((offset_term_by p evens odds row.node own).outcome, (rate_term_by p evens odds row own).outcome)

-- of a node that has a row there, or else of one that follows, which adds no value of its own; or else what it was before
abbrev pub pair_in : Values → Cycles → Cycle → Option NodeRow → Option NodeRow → Option (Outcome × Outcome) → Option (Outcome × Outcome)
pair_in p h c (Some row) follower before =
    Some (pair_by p (latest_devs (told_of h)) c.told.devs row (own_index p row.node))
pair_in p h c None (Some row) before = Some (pair_by p (follower_devs_after h) c.follower_devs row None)
pair_in p h c None None before = before

-- how both terms of a node ended in its last odd cycle, with a row or as a follower, if there was one
unfoldable pub outcomes_after : Setting → Cycles → ℕ → Option (Outcome × Outcome)
outcomes_after x [] node = None
outcomes_after x (c ∷ h) node =
    if is_odd (length h)
    then pair_in x.params h c (row_of c.told.rows node) (row_of c.followers node) (outcomes_after x h node)
    else outcomes_after x h node

-- so its outcomes tell whether a follower followed well in an odd cycle
abbrev pub FollowersAreSteady : Type 0
FollowersAreSteady =
    (x : Setting) (h : Cycles) (c : Cycle) (node : ℕ) (row : NodeRow)
    → is_odd (length h) ≡ true → row_of c.told.rows node ≡ None → row_of c.followers node ≡ Some row
    → followed_well x.params c h (row_of c.followers node) ≡ are_uncut (outcomes_after x (c ∷ h) node)

-- ---- operation control

-- a node that has no row has no outcomes as one with a row, and a node that joins has none yet: its operation control begins
abbrev pub NodesWithoutRowsAreFresh : Type 0
NodesWithoutRowsAreFresh =
    (x : Setting) (h : Cycles) (node : NodeSpec) → IsLawful x h → Contains (correct_nodes x) node → has_row x h node.id ≡ false
    → outcomes_in x.params (told_of h) node.id ≡ []

abbrev pub JoiningNodesAreFresh : Type 0
JoiningNodesAreFresh =
    (x : Setting) (h : Cycles) (node : NodeSpec) → IsLawful x h → Contains (joining_nodes x h) node
    → outcomes_in x.params (told_of h) node.id ≡ []
