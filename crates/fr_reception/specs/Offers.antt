-- What is offered to a node, and when a slot lies in the node's own time.
use Rattle.std.specs.Prelude.{ℕ, ◌-◌, ◌/◌, ◌%◌, ◌^◌, ℤ, ◌-ℤ◌, List, slice_set, slice_index_or, bit_xor}
use Rattle.fr_base.specs.declared.channel.Channel.{Channel}
use Rattle.fr_base.specs.declared.node_row.NodeRow.{NodeRow}
use Rattle.fr_cluster.specs.Values.{Values}
use Rattle.fr_cluster.specs.Questions.{compensation_of}
use Rattle.fr_time.specs.Instant.{early_position}
use Rattle.fr_time.specs.Position.{floor_of}
use Rattle.fr_time.specs.Slots.{action_point_of}

-- bytes that come to a node in a slot, on a channel, at an instant in ticks
pub record Offer : Type 0 where
  pub slot : ℕ
  pub channel : Channel
  pub arrival : ℤ
  pub bytes : List ℕ

-- how many microticks later than expected a frame comes (section 8.5): those from the start of the cycle to its arrival,
-- rounded down, less the compensation of the delay, less the position of the action point
abbrev pub deviation_of : Values → NodeRow → Offer → ℤ
deviation_of p row offer =
    (floor_of (offer.arrival -ℤ row.start) row.length -ℤ compensation_of p offer.channel)
    -ℤ early_position p row (action_point_of p offer.slot)

-- bytes with one bit inverted, counted from 0 in the order of sending: of each byte the most significant bit first
unfoldable pub flipped : ℕ → List ℕ → List ℕ
flipped bit bytes = slice_set bytes (bit / 8) (bit_xor (slice_index_or bytes (bit / 8) 0) (2 ^ (7 - bit % 8)))
