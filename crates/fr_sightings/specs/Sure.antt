-- Whether the numbers of a cluster and of a log suffice for frames to come in time: of any lawful run whose nodes start near each
-- other, each frame comes within half a cycle of the schedule, as counted from any other one that no long silence lies between.
use Rattle.std.specs.Prelude.{ℕ, ◌+◌, ◌*◌, ◌&&◌, ◌||◌, not, nat_le, Bool, false, Option, Some, None, is_some, if◌then◌else◌}
use Rattle.std.specs.List.{list_all}
use Rattle.fr_base.specs.declared.channel.Channel.{Channel}
use Rattle.fr_base.specs.declared.channel.Channel.TheVariants.{A, B}
use Rattle.fr_bound.specs.Bounds.{longest_micro, nominal, shortest_micro}
use Rattle.fr_cluster.specs.Questions.{has_channel}
use Rattle.fr_cluster.specs.Values.{Values, amount}
use Rattle.fr_cluster.specs.declared.names.ParamName.TheVariants as name
use Rattle.fr_cluster.specs.declared.nodes.NodeSpec.{NodeSpec}
use Rattle.fr_log.specs.View.{LogView, delay_limits_of, is_arbitrary_in}
use Rattle.fr_log.specs.declared.rows.DelayLimits.{DelayLimits}

-- a node that sends sync frames, and that the log names arbitrary or does not
abbrev pub is_named_as : LogView → Bool → ℕ → Bool
is_named_as l arbitrary node = if arbitrary then is_arbitrary_in l node else not (is_arbitrary_in l node)

abbrev pub is_sync_as : LogView → Bool → NodeSpec → Bool
is_sync_as l arbitrary node = is_some node.key && is_named_as l arbitrary node.id

-- so many ticks off at most are 16 double cycles that follow each other, and both double cycles in which the frames are sent: by the
-- lengths of 36 cycles, whatever their rates within the limit, the offset terms behind these double cycles, and the rounding of both
-- action points
abbrev pub clocks_off : Values → ℕ
clocks_off p =
    36 * (amount p name.pRateCorrectionOut * longest_micro p + amount p name.pMicroPerCycle * amount p name.xRateBound)
    + 16 * (amount p name.pOffsetCorrectionOut * longest_micro p)
    + 2 * longest_micro p

-- and so many a reading, by the drift of the observer's clock over 31 cycles and the breadth of a stamp
abbrev pub reading_off : Values → LogView → ℕ
reading_off p l = 31 * (amount p name.pMicroPerCycle * l.drift) + (l.unit + l.error)

-- how far off the schedule a frame comes at most, in ticks, as counted from another one: by the clock of its node, a delay of so
-- many ticks, the reading, and how far the starts of two nodes lie apart: no further than the offset limit at the shortest microtick
abbrev pub off_schedule : Values → LogView → ℕ → ℕ
off_schedule p l delay =
    clocks_off p + delay + reading_off p l + amount p name.pOffsetCorrectionOut * shortest_micro p

-- it is no more than half a cycle, with delays within limits; without limits nothing is sure
abbrev pub is_sure_within : Values → LogView → Option DelayLimits → Bool
is_sure_within p l None = false
is_sure_within p l (Some limits) = nat_le (2 * off_schedule p l limits.high) (amount p name.pMicroPerCycle * nominal)

-- with those of a node's frames on a channel, where it has the channel
abbrev pub is_sure_on : Values → LogView → NodeSpec → Channel → Bool
is_sure_on p l node ch = not (has_channel (Some node) ch) || is_sure_within p l (delay_limits_of l node.id ch)

-- with those of a node's frames, where it sends sync frames and the log does not name it arbitrary
abbrev pub is_node_sure : Values → LogView → NodeSpec → Bool
is_node_sure p l node = not (is_sync_as l false node) || (is_sure_on p l node A && is_sure_on p l node B)

-- with those of all frames that are judged
unfoldable pub are_numbers_sure : Values → LogView → Bool
are_numbers_sure p l = list_all (is_node_sure p l) p.nodes
