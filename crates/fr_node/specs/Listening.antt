-- What contracts see of a listener, what it catches, and what begins to follow with it.
use Rattle.std.specs.Prelude.{◌≡◌, ℕ, ℤ, pos, neg_ℤ, int_le, Bool, ◌&&◌, true, false, Option, Some, None, IfSome, option_and_then}
use Rattle.std.specs.Option.{option_map}
use Rattle.fr_base.specs.Timed.{IsLength}
use Rattle.fr_base.specs.Within.{IsWithin}
use Rattle.fr_base.specs.declared.channel.Channel.{Channel}
use Rattle.fr_base.specs.declared.channel.Channel.TheVariants.{A, B}
use Rattle.fr_cluster.specs.Values.{Values}
use Rattle.fr_measure.specs.Readings.{no_readings}
use Rattle.fr_poc.specs.Control.{first_status}
use Rattle.fr_poc.specs.Limits.{limits_of}
use Rattle.fr_reception.specs.Listening.{Caught, caught_by, first_or, first_rate_of, first_start_of, kept_if}
use Rattle.fr_node.specs.View.{NodeView}
use Rattle.fr_node.specs.declared.listener.Catch.{Catch}

-- A listener: its number, the key slot of its reference, and the arrivals of its reference's frames that it has caught, in
-- ticks, in the even and in the odd cycle of the double cycle and on each channel.
pub record ListenerView : Type 0 where
  pub id : ℕ
  pub reference : ℕ
  pub even_a : Option ℤ
  pub even_b : Option ℤ
  pub odd_a : Option ℤ
  pub odd_b : Option ℤ

-- an arrival that can be caught
abbrev pub IsArrival : ℤ → Type 0
IsArrival at = IsWithin (pos 900_000_000_000_000_000) at

-- the greatest first start of one that begins to follow, in ticks
abbrev pub most_first_start : ℕ
most_first_start = 904_000_000_000_000_000

-- the arrivals of a listener can be
pub record AreArrivals (l : ListenerView) : Type 0 where
  pub even_a : IfSome l.even_a IsArrival
  pub even_b : IfSome l.even_b IsArrival
  pub odd_a : IfSome l.odd_a IsArrival
  pub odd_b : IfSome l.odd_b IsArrival

-- it has caught nothing
abbrev pub listening : ℕ → ℕ → ListenerView
listening id reference =
    record { id = id; reference = reference; even_a = None; even_b = None; odd_a = None; odd_b = None }

-- its arrival in a cycle on a channel, if it has caught one
abbrev pub arrival_of : ListenerView → Bool → Channel → Option ℤ
arrival_of l false A = l.even_a
arrival_of l false B = l.even_b
arrival_of l true A = l.odd_a
arrival_of l true B = l.odd_b

-- with an arrival in a cycle on a channel
abbrev pub with_arrival : ListenerView → Bool → Channel → ℤ → ListenerView
with_arrival l false A at = record l { even_a = Some at }
with_arrival l false B at = record l { even_b = Some at }
with_arrival l true A at = record l { odd_a = Some at }
with_arrival l true B at = record l { odd_b = Some at }

-- after a frame that is good, or is not
abbrev pub after_catching : ListenerView → Bool → Channel → ℤ → Bool → ListenerView
after_catching l odd channel at true = with_arrival l odd channel at
after_catching l odd channel at false = l

-- what it has caught on a channel, with the lengths of its microticks in both cycles
abbrev pub caught_of_listener_on : ListenerView → ℤ → ℤ → Channel → Option Caught
caught_of_listener_on l even_length odd_length channel =
    caught_by l.reference channel even_length odd_length (arrival_of l false channel) (arrival_of l true channel)

-- what it has caught: on channel A, or else on channel B
abbrev pub caught_of_listener : ListenerView → ℤ → ℤ → Option Caught
caught_of_listener l even_length odd_length =
    first_or (caught_of_listener_on l even_length odd_length A) (caught_of_listener_on l even_length odd_length B)

-- a node that begins to follow with a start and a rate, before a cycle
abbrev pub follower_of : Values → ℕ → ℕ → ℤ → ℤ → NodeView
follower_of p id cycle start rate = record {
  id = id;
  cycle = cycle;
  length = None;
  start = start;
  rate = rate;
  table = no_readings;
  control = record { limits = limits_of p; status = first_status };
  follows = true;
  outcomes = None;
}

-- with those of what was caught
abbrev pub follower_by : Values → ℕ → ℕ → Caught → NodeView
follower_by p id cycle c = follower_of p id cycle (first_start_of p c) (first_rate_of p c)

-- the node that begins to follow before a cycle, if what was caught suffices
abbrev pub first_of : Values → ListenerView → ℕ → ℤ → ℤ → Option NodeView
first_of p l cycle even_length odd_length =
    option_map (follower_by p l.id cycle) (option_and_then (kept_if p) (caught_of_listener l even_length odd_length))

-- ---- what only functions inside cite

-- whether a rate lies within its limit
abbrev pub is_in_limit : ℤ → ℤ → Bool
is_in_limit limit rate = int_le (neg_ℤ limit) rate && int_le rate limit

abbrev pub caught_in : Catch → Caught
caught_in c = record {
  slot = c.slot;
  channel = c.channel;
  early = c.early;
  late = c.late;
  even_length = c.even_length;
  odd_length = c.odd_length;
}

-- what is caught of a slot: its arrivals can be caught, and its lengths are those of microticks
pub record IsCatch (slot : ℕ) (c : Catch) : Type 0 where
  pub of_slot : c.slot ≡ slot
  pub early : IsArrival c.early
  pub late : IsArrival c.late
  pub even_length : IsLength c.even_length
  pub odd_length : IsLength c.odd_length
