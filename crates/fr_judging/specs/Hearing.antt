-- What the nodes of a log hear of each other, by the counts of its sync nodes and by how many a node may miss; and the numbers that
-- follow from it.
use Rattle.std.specs.Prelude.{ℕ, ◌==◌, Bool, true, false, Option, Some, None, if◌then◌else◌}
use Rattle.std.specs.List.{count_by}
use Rattle.fr_bound.specs.Outweighing.{outweighs}
use Rattle.fr_bound.specs.SharpBounds.{sharp_precision}
use Rattle.fr_bound.specs.SharpSpreads.{sharp_spread}
use Rattle.fr_bound.specs.declared.judging.Heard.{Heard}
use Rattle.fr_bound.specs.declared.judging.Heard.TheVariants.{Clean, Meeting, Poor}
use Rattle.fr_bound.specs.declared.judging.Known.{Known}
use Rattle.fr_cluster.specs.Values.{Values}
use Rattle.fr_log.specs.View.{LogView}
use Rattle.fr_sightings.specs.Sure.{is_sync_as}
use Rattle.fr_observe.specs.Faults.{stated_flutter}
use Rattle.fr_judging.specs.declared.obstacle.Obstacle.{Obstacle}
use Rattle.fr_judging.specs.declared.obstacle.ObstacleKind.{ObstacleKind}
use Rattle.fr_judging.specs.declared.obstacle.ObstacleKind.TheVariants as obstacle

-- what they hear, where a node may miss so many senders of a double cycle: all of all, without arbitrary nodes or beside them; or some,
-- without arbitrary nodes
abbrev pub heard_among : ℕ → ℕ → Option Heard
heard_among arbitrary lost =
    if lost == 0 then (if arbitrary == 0 then Some Clean else Some Meeting)
    else (if arbitrary == 0 then Some Poor else None)

abbrev pub heard_with : ℕ → ℕ → ℕ → Option Heard
heard_with correct arbitrary lost = if outweighs correct arbitrary then heard_among arbitrary lost else None

-- in a log; where that is not told, none of its double cycles is judged
unfoldable pub log_heard : Values → LogView → Option Heard
log_heard p l = heard_with (count_by (is_sync_as l false) p.nodes) (count_by (is_sync_as l true) p.nodes) l.lost

-- what keeps each of them from being judged then: the correct sync nodes do not suffice, or, where they do, frames may be lost beside
-- arbitrary ones
abbrev pub unheard_kind : ℕ → ℕ → ObstacleKind
unheard_kind correct arbitrary = if outweighs correct arbitrary then obstacle.Lost else obstacle.Count

unfoldable pub log_unheard : Values → LogView → Obstacle
log_unheard p l =
    record {
      kind = unheard_kind (count_by (is_sync_as l false) p.nodes) (count_by (is_sync_as l true) p.nodes);
      cycle = None;
      node = None;
    }

-- whether there may be arbitrary sync nodes
abbrev pub is_beside : Option Heard → Bool
is_beside (Some Clean) = false
is_beside (Some Poor) = false
is_beside (Some Meeting) = true
is_beside None = true

-- the precision that rows of skews are told by, in ticks: the sharper one, whatever is lost
abbrev pub yardstick : Values → LogView → Option Heard → ℕ
yardstick p l heard = sharp_precision (is_beside heard) p (stated_flutter p l)

abbrev pub log_precision : Values → LogView → ℕ
log_precision p l = yardstick p l (log_heard p l)

-- what is known of a double cycle in sync by the sharper bounds, with lengths in their range
abbrev pub synced_with : Values → LogView → Heard → Known
synced_with p l what = record { spread = sharp_spread (is_beside (Some what)) p (stated_flutter p l); beyond = 0 }
