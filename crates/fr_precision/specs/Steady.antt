-- What two deviations of a sender, one in each cycle, say of the length of its even cycle: they place it by the flutter of the
-- delay and a microtick, since all that both arrivals share drops out.
use Rattle.std.specs.Prelude.{ℕ, ◌≡◌, ◌+◌, ◌*◌, true, false, ℤ, pos, neg_ℤ, ◌+ℤ◌, ◌-ℤ◌, ◌*ℤ◌, ◌≤ℤ◌, ◌≤◌}
use Rattle.fr_base.specs.declared.channel.Channel.{Channel}
use Rattle.fr_base.specs.declared.node_row.NodeRow.{NodeRow}
use Rattle.fr_base.specs.Within.{IsBetween, IsWithin}
use Rattle.fr_cluster.specs.Values.{Values, amount}
use Rattle.fr_cluster.specs.Sane.{IsSane}
use Rattle.fr_cluster.specs.declared.names.ParamName.TheVariants as name
use Rattle.fr_midpoint.specs.Midpoint.{half_of_sum}
use Rattle.fr_time.specs.Position.{even_position, floor_of, grid_for}
use Rattle.fr_time.specs.Instant.{instant_of}
use Rattle.fr_time.specs.Slots.{action_point_of}
use Rattle.fr_bound.specs.Bounds.{arrival_error}
use Rattle.fr_bound.specs.Sync.{cycle_length_of}
use Rattle.fr_precision.specs.Rows.{HasProperMicro, Sender}
use Rattle.fr_precision.specs.Instants.{gap_of}
use Rattle.fr_precision.specs.Offsets.{IsDeviation, LimitSuffices}
use Rattle.fr_precision.specs.Reception.{IsDelay, LeavesRoom}
use Rattle.fr_precision.specs.Deviations.{counted_of}
use Rattle.fr_precision.specs.Placement.{IsRegular}
use Rattle.fr_bound.specs.SharpBounds.{steady_error, wide_change}

-- the ticks from a sender's even action point to its odd one
abbrev pub between_actions : Values → Sender → ℤ
between_actions p sender =
    instant_of (grid_for p) sender.odd true sender.action -ℤ instant_of (grid_for p) sender.even false sender.action

-- the length that a rate value gives, counted in the receiver's odd microticks from its own length
abbrev pub placed_length : Values → NodeRow → ℤ → ℤ
placed_length p row value = cycle_length_of p row +ℤ (value *ℤ row.length)

-- a rate value places what lies between a sender's action points, and the length of its even cycle, the latter by less than
-- the receiver's own microtick beyond flutter and changes
pub record PlacesEven (p : Values) (flutter : ℕ) (sender : Sender) (row : NodeRow) (value : ℤ) : Type 0 where
  pub actions : IsWithin (pos (steady_error p flutter)) (placed_length p row value -ℤ between_actions p sender)
  pub length :
      IsWithin
      (pos (flutter + wide_change p) +ℤ (row.length -ℤ pos 1))
      (placed_length p row value -ℤ cycle_length_of p sender.even)

-- what arrivals leave of a rate value: beyond what lies between the sender's action points, and the change of those
-- microticks of the receiver that come after the even arrival, of which so many were counted up to it
abbrev pub left_of_pair : Values → Sender → NodeRow → NodeRow → ℤ → ℤ → ℤ
left_of_pair p sender even odd micros value =
    (placed_length p odd value -ℤ between_actions p sender)
    -ℤ (((p.micros +ℤ even.rate) -ℤ micros) *ℤ (odd.length -ℤ even.length))

-- two deviations of a sender on one channel, the even and the odd one: with the microticks that were counted up to the even
-- arrival they leave less than the flutter and a microtick
pub record IsSteadyPair (p : Values) (flutter : ℕ) (sender : Sender) (even odd : NodeRow) (early late : ℤ) : Type 0 where
  pub micros : ℤ
  pub limit : IsWithin p.offset_limit early
  pub from : (early +ℤ even_position (grid_for p) even.rate sender.action) ≤ℤ micros
  pub to : micros ≤ℤ (p.micros +ℤ even.rate +ℤ p.offset_limit)
  pub left :
      IsBetween
      (neg_ℤ (pos flutter +ℤ (odd.length -ℤ pos 1)))
      (pos flutter +ℤ (even.length -ℤ pos 1))
      (left_of_pair p sender even odd micros (late -ℤ early))

-- a sender that acts before the offset correction, with regular rows
pub record ActsRegularly (p : Values) (sender : Sender) : Type 0 where
  pub regular : IsRegular p sender.even sender.odd
  pub acts_from : pos 0 ≤ℤ sender.action
  pub acts_to : sender.action ≤ℤ p.correction

-- the rate value of one channel places the length of the sender's even cycle
abbrev pub SteadyValuesPlace : Type 0
SteadyValuesPlace =
    (p : Values) (flutter : ℕ) (sender : Sender) (even odd : NodeRow) (early late : ℤ)
    → IsSane p → IsRegular p even odd → ActsRegularly p sender
    → IsSteadyPair p flutter sender even odd early late → PlacesEven p flutter sender odd (late -ℤ early)

-- so does half of the sum of two values that do
abbrev pub HalfPlacesEven : Type 0
HalfPlacesEven =
    (p : Values) (flutter : ℕ) (sender : Sender) (row : NodeRow) (one other : ℤ)
    → IsSane p → HasProperMicro p row → PlacesEven p flutter sender row one → PlacesEven p flutter sender row other
    → PlacesEven p flutter sender row (half_of_sum one other)

-- and so does a receiver's own value, 0
abbrev pub OwnValuePlacesEven : Type 0
OwnValuePlacesEven =
    (p : Values) (flutter : ℕ) (sender : Sender)
    → IsSane p → ActsRegularly p sender → PlacesEven p flutter sender sender.odd (pos 0)

-- whatever is recorded: two deviations are a steady pair, with the errors of both arrivals for the flutter
abbrev pub DeviationsAreSteady : Type 0
DeviationsAreSteady =
    (p : Values) (sender : Sender) (even odd : NodeRow) (early late : ℤ)
    → IsSane p → IsRegular p even odd → pos 0 ≤ℤ sender.action → sender.action ≤ℤ p.correction
    → IsWithin p.offset_limit early
    → IsDeviation p false sender.action even sender.even early → IsDeviation p true sender.action odd sender.odd late
    → IsSteadyPair p (2 * arrival_error p) sender even odd early late

-- two delays of a channel lie within twice the delay error of each other, and that is no more than twice the error of an
-- arrival
abbrev pub DelaysFlutterLittle : Type 0
DelaysFlutterLittle =
    (p : Values) (channel : Channel) (delay other_delay : ℤ)
    → IsDelay p channel delay → IsDelay p channel other_delay
    → IsWithin (pos (2 * amount p name.xDelayError)) (other_delay -ℤ delay)
    × (2 * amount p name.xDelayError ≤ 2 * arrival_error p)

-- the arrival of a sender's frame in a cycle, after a delay
abbrev pub even_arrival : Values → Sender → ℤ → ℤ
even_arrival p sender delay = instant_of (grid_for p) sender.even false sender.action +ℤ delay

abbrev pub odd_arrival : Values → Sender → ℤ → ℤ
odd_arrival p sender delay = instant_of (grid_for p) sender.odd true sender.action +ℤ delay

-- what is counted: of two frames of a sender on one channel, one in each cycle, whose delays differ by no more than the
-- flutter; the even one arrives before the receiver's cycle ends with any offset
abbrev pub CountedAreSteady : Type 0
CountedAreSteady =
    (p : Values) (flutter slot : ℕ) (channel : Channel) (sender : Sender) (even odd : NodeRow) (delay other_delay : ℤ)
    → IsSane p → IsRegular p even odd → sender.action ≡ pos (action_point_of p slot) → sender.action ≤ℤ p.correction
    → IsWithin (pos flutter) (other_delay -ℤ delay)
    → floor_of (even_arrival p sender delay -ℤ even.start) even.length ≤ℤ (p.micros +ℤ even.rate +ℤ p.offset_limit)
    → IsWithin p.offset_limit (counted_of p even slot channel (even_arrival p sender delay))
    → IsSteadyPair p flutter sender even odd
    (counted_of p even slot channel (even_arrival p sender delay))
    (counted_of p odd slot channel (odd_arrival p sender other_delay))

-- so they are of a frame in each cycle that a sender within reach sends in a slot that leaves room for it
abbrev pub FramesAreSteady : Type 0
FramesAreSteady =
    (p : Values) (flutter slot : ℕ) (channel : Channel) (even odd other_even other_odd : NodeRow) (delay other_delay reach : ℤ)
    → IsSane p → LeavesRoom p reach → LimitSuffices p reach → IsRegular p even odd
    → 1 ≤ slot → slot ≤ amount p name.gNumberOfStaticSlots
    → IsWithin reach (gap_of p false (pos (action_point_of p slot)) other_even even)
    → IsDelay p channel delay → IsWithin (pos flutter) (other_delay -ℤ delay)
    → IsSteadyPair p flutter (record { even = other_even; odd = other_odd; action = pos (action_point_of p slot) }) even odd
    (counted_of p even slot channel (instant_of (grid_for p) other_even false (pos (action_point_of p slot)) +ℤ delay))
    (counted_of p odd slot channel (instant_of (grid_for p) other_odd true (pos (action_point_of p slot)) +ℤ other_delay))
