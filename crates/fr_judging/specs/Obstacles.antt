-- Why a double cycle of a log is not judged, in the order of how far it came: too few sync nodes, frames that may be lost beside arbitrary
-- ones, or what keeps it from being judged by its own numbers.
use Rattle.std.specs.Prelude.{ℕ, ◌+◌, ◌*◌, nat_lt, List, codes, Option, Some, None, is_some, if◌then◌else◌}
use Rattle.std.specs.List.{fold}
use Rattle.std.specs.Option.{option_or}
use Rattle.fr_cluster.specs.declared.nodes.NodeSpec.{NodeSpec}
use Rattle.fr_log.specs.View.{LogView}
use Rattle.fr_sightings.specs.Senders.{seen_box}
use Rattle.fr_sightings.specs.declared.sighting.Sighting.{Sighting}
use Rattle.fr_observe.specs.Faults.{fault_cycle, fault_node, is_seen_whole}
use Rattle.fr_observe.specs.declared.fault.Fault.{Fault}
use Rattle.fr_judging.specs.declared.obstacle.Obstacle.{Obstacle}
use Rattle.fr_judging.specs.declared.obstacle.ObstacleKind.{ObstacleKind}
use Rattle.fr_judging.specs.declared.obstacle.ObstacleKind.TheVariants as obstacle

-- ---- which of two

-- how far a double cycle came that one of a kind keeps from being judged
abbrev pub obstacle_rank : ObstacleKind → ℕ
obstacle_rank obstacle.Count = 0
obstacle_rank obstacle.Lost = 1
obstacle_rank obstacle.Unseen = 2
obstacle_rank obstacle.Fault = 3
obstacle_rank obstacle.Reach = 4
obstacle_rank obstacle.Drift = 5

-- that of the double cycle that came farther; of equal ones the first
abbrev pub farther : Option Obstacle → Option Obstacle → Option Obstacle
farther None later = later
farther (Some first) None = Some first
farther (Some first) (Some later) = if nat_lt (obstacle_rank first.kind) (obstacle_rank later.kind) then Some later else Some first

-- ---- of a double cycle

-- a node that was not seen in both of its cycles, and in which of them not: in the even one, or in the odd one alone
abbrev pub unseen_cycle : LogView → List Sighting → ℕ → NodeSpec → ℕ
unseen_cycle l here double node = if is_some (seen_box l here node.id (2 * double)) then 2 * double + 1 else 2 * double

abbrev pub unseen_node : LogView → List Sighting → ℕ → NodeSpec → Option Obstacle
unseen_node l here double node =
    if is_seen_whole l here double node then None
    else Some (record { kind = obstacle.Unseen; cycle = Some (unseen_cycle l here double node); node = Some node.id })

-- the first such node
abbrev pub or_unseen : LogView → List Sighting → ℕ → Option Obstacle → NodeSpec → Option Obstacle
or_unseen l here double first node = option_or first (unseen_node l here double node)

unfoldable pub first_unseen : LogView → List Sighting → ℕ → List NodeSpec → Option Obstacle
first_unseen l here double nodes = fold (or_unseen l here double) None nodes

-- the first fault that is told always
abbrev pub faulty : Option Fault → Option Obstacle
faulty None = None
faulty (Some fault) = Some (record { kind = obstacle.Fault; cycle = Some (fault_cycle fault); node = fault_node fault })

-- its starts and lengths may lie so far apart that a check fails, or so far beyond their range that the rate limit can't follow
abbrev pub of_several : ObstacleKind → ℕ → Option Obstacle
of_several why double = Some (record { kind = why; cycle = Some (2 * double); node = None })

-- ---- as records

abbrev pub obstacle_word : ObstacleKind → List ℕ
obstacle_word obstacle.Count = codes "count"
obstacle_word obstacle.Lost = codes "lost"
obstacle_word obstacle.Unseen = codes "unseen"
obstacle_word obstacle.Fault = codes "fault"
obstacle_word obstacle.Reach = codes "reach"
obstacle_word obstacle.Drift = codes "drift"
