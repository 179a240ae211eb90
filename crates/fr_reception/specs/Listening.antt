-- What a node that listens takes from the frames of its reference: their arrivals in both cycles of a double cycle, its first
-- rate and its first start.
use Rattle.std.specs.Prelude.{ℕ, ◌==◌, pos, neg_ℤ, ℤ, ◌+ℤ◌, ◌-ℤ◌, ◌*ℤ◌, int_le, Bool, false, ◌&&◌, Option, Some, None, Result, Ok, Err, if◌then◌else◌}
use Rattle.fr_base.specs.declared.channel.Channel.{Channel}
use Rattle.fr_cluster.specs.Questions.{compensation_of}
use Rattle.fr_cluster.specs.Values.{Values}
use Rattle.fr_frame.specs.Reading.{read_as}
use Rattle.fr_frame.specs.declared.fault.FrameFault.{FrameFault}
use Rattle.fr_frame.specs.declared.header.Header.{Header}
use Rattle.fr_time.specs.Position.{even_position, floor_of, grid_for}
use Rattle.fr_time.specs.Slots.{action_point_of}
use Rattle.fr_reception.specs.Offers.{Offer}

-- what is read of bytes is a sync frame of a slot
abbrev pub is_sync_of : ℕ → Result Header FrameFault → Bool
is_sync_of slot (Ok header) = header.sync && (header.id == slot)
is_sync_of slot (Err fault) = false

-- the arrival of an offer, if it is good
abbrev pub good_arrival : ℕ → Offer → Option ℤ
good_arrival slot offer = if is_sync_of slot (read_as offer.channel offer.bytes) then Some offer.arrival else None

-- what a node that listens has caught: the arrivals of both cycles of a double cycle in its reference's key slot on one
-- channel, and the lengths of its own microticks in both
pub record Caught : Type 0 where
  pub slot : ℕ
  pub channel : Channel
  pub early : ℤ
  pub late : ℤ
  pub even_length : ℤ
  pub odd_length : ℤ

-- it has caught it where both cycles have an arrival on the channel
abbrev pub caught_by : ℕ → Channel → ℤ → ℤ → Option ℤ → Option ℤ → Option Caught
caught_by slot channel even_length odd_length None late = None
caught_by slot channel even_length odd_length (Some early) None = None
caught_by slot channel even_length odd_length (Some early) (Some late) = Some (record {
  slot = slot;
  channel = channel;
  early = early;
  late = late;
  even_length = even_length;
  odd_length = odd_length;
})

-- what is caught on channel A, or else on channel B
abbrev pub first_or : Option Caught → Option Caught → Option Caught
first_or None other = other
first_or (Some caught) other = Some caught

-- the whole microticks that it counts from the one arrival to the other, and the first rate that follows
abbrev pub caught_micros : Caught → ℤ
caught_micros c = floor_of (c.late -ℤ c.early) c.even_length

abbrev pub first_rate_of : Values → Caught → ℤ
first_rate_of p c = caught_micros c -ℤ p.micros

-- the position of the reference's action point under that rate, and the first start: behind the second arrival by what is
-- left of the cycle from there on, less the compensation of the delay
abbrev pub caught_position : Values → Caught → ℤ
caught_position p c = even_position (grid_for p) (first_rate_of p c) (pos (action_point_of p c.slot))

abbrev pub first_start_of : Values → Caught → ℤ
first_start_of p c =
    c.late +ℤ (((p.micros +ℤ first_rate_of p c) -ℤ caught_position p c -ℤ compensation_of p c.channel) *ℤ c.odd_length)

-- whether a node begins to follow with it: the first rate lies within its limit, and the first start is not negative
abbrev pub suffices : Values → Caught → Bool
suffices p c =
    int_le (neg_ℤ p.rate_limit) (first_rate_of p c) && int_le (first_rate_of p c) p.rate_limit
    && int_le (pos 0) (first_start_of p c)

abbrev pub kept_if : Values → Caught → Option Caught
kept_if p c = if suffices p c then Some c else None
