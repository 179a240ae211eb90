-- The cycles of a run, with the nodes that follow in them (integration into a running cluster, chapter 7; that the
-- reference is given, and how long a node listens and follows, is this profile's).
use Rattle.std.specs.Prelude.{ℕ, ◌==◌, Bool, List, [], ◌∷◌, length, map, Option, Some, None, is_some, if◌then◌else◌}
use Rattle.std.specs.List.{list_any}
use Rattle.fr_base.specs.declared.dev.Dev.{Dev}
use Rattle.fr_base.specs.declared.node_row.NodeRow.{NodeRow}
use Rattle.fr_cluster.specs.Setting.{Setting, correct_nodes}
use Rattle.fr_history.specs.History.{History, Record}

-- The record of a cycle: what is told of it, which is of the nodes that have a row; and apart from that the rows of the
-- nodes that follow, in ascending order of node, and the deviations that these stored.
pub record Cycle : Type 0 where
  pub told : Record
  pub followers : List NodeRow
  pub follower_devs : List Dev

-- the records of cycles from 0 on, the latest first
abbrev pub Cycles : Type 0
Cycles = List Cycle

-- what is told of them
abbrev pub told_of : Cycles → History
told_of h = map (λ cycle. cycle.told) h

-- the record of a cycle, if they have it
unfoldable pub cycle_at : Cycles → ℕ → Option Cycle
cycle_at [] cycle = None
cycle_at (c ∷ h) cycle = if length h == cycle then Some c else cycle_at h cycle

-- the deviations of the followers in the latest cycle
abbrev pub follower_devs_after : Cycles → List Dev
follower_devs_after [] = []
follower_devs_after (c ∷ h) = c.follower_devs

-- whether some correct node joins
abbrev pub some_joins : Setting → Bool
some_joins x = list_any (λ node. is_some (x.join node.id)) (correct_nodes x)
