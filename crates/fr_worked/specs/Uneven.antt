-- A run on two channels of five correct nodes, two of which join, and one arbitrary node: with clocks that run unevenly, delays
-- that are not the nominal ones, frames that are lost or come with a bit inverted, and an arbitrary node that says to each
-- receiver something else.
use Rattle.std.specs.Prelude.{ℕ, ◌==◌, ℤ, pos, neg_ℤ, Bool, true, false, ◌&&◌, [], ◌∷◌, None, Some, if◌then◌else◌}
use Rattle.fr_base.specs.Event.{Event}
use Rattle.fr_base.specs.Event.Event.{Flip, Regular, Say, Silent}
use Rattle.fr_base.specs.declared.channel.Channel.{Channel}
use Rattle.fr_base.specs.declared.channel.Channel.TheVariants.{A, B}
use Rattle.fr_cluster.specs.Setting.{Setting}
use Rattle.fr_cluster.specs.Values.{Values}
use Rattle.fr_cluster.specs.declared.nodes.NodeSpec.{NodeSpec}
use Rattle.fr_time.specs.Cycles.{is_odd}

-- a coldstart node on both channels whose key slot has its number, and a node on channel B alone that has no key slot
abbrev pub node_on_both : ℕ → NodeSpec
node_on_both node = record { id = node; key = Some node; on_a = true; on_b = true; coldstart = true }

abbrev pub on_b : ℕ → NodeSpec
on_b node = record { id = node; key = None; on_a = false; on_b = true; coldstart = false }

-- a cycle of 300 microseconds at a microtick of 25 ns, with compensations of 40 and of 60 microticks, and microticks that may
-- be 200 ppm longer or shorter and change by 10 ppm
abbrev pub small_cluster : Values
small_cluster = record {
  macros = pos 300;
  micros = pos 12_000;
  static_slots = pos 6;
  slot_macros = pos 40;
  action_offset = pos 18;
  idle_macros = pos 60;
  words = pos 0;
  correction = pos 280;
  max_passive = pos 2;
  max_fatal = pos 4;
  halt_allowed = pos 1;
  to_active = pos 2;
  damping = pos 4;
  offset_limit = pos 512;
  rate_limit = pos 12;
  compensation_a = pos 40;
  compensation_b = pos 60;
  rate_bound = pos 200;
  change_bound = pos 10;
  delay_error = pos 200_000;
  nodes = node_on_both 1 ∷ node_on_both 2 ∷ node_on_both 3 ∷ node_on_both 4 ∷ node_on_both 5 ∷ on_b 6 ∷ [];
  slots = [];
}

-- node 1 is slow and node 2 fast, node 3 changes from each cycle to the next; all others are as slow as each other
abbrev pub micro_in : (first second third odd : Bool) → ℤ
micro_in true second third odd = pos 1_000_150
micro_in false true third odd = pos 999_850
micro_in false false true true = pos 1_000_008
micro_in false false true false = pos 1_000_000
micro_in false false false odd = pos 1_000_090

-- frames of node 2 come later on channel A than is compensated, and sooner on channel B; those of the others the other way round
abbrev pub delay_by : (second : Bool) → Channel → ℤ
delay_by true A = pos 40_120_000
delay_by true B = pos 59_910_000
delay_by false A = pos 39_850_000
delay_by false B = pos 60_050_000

-- node 4 says its frame to node 1 too late, to node 2 too early, and to the others something that is no frame; other frames
-- are lost, or come with their 11th bit inverted, or as they are
abbrev pub uneven_event : (said first second lost bad : Bool) → Event
uneven_event true true second lost bad = Say (pos 150_000_000) None
uneven_event true false true lost bad = Say (neg_ℤ (pos 150_000_000)) None
uneven_event true false false lost bad = Say (pos 0) (Some (1 ∷ 2 ∷ 3 ∷ []))
uneven_event false first second true bad = Silent
uneven_event false first second false true = Flip 10
uneven_event false first second false false = Regular

abbrev pub is_a : Channel → Bool
is_a A = true
is_a B = false

-- on channel A no frame of node 2 comes to node 3, and one of node 3 comes with a bit inverted to node 1. Node 5 listens to
-- node 1 from the beginning, and node 6 to node 2 in double cycle 1; the script's rows are `join,0,5,1,,,` and `join,1,6,2,,,`
abbrev pub uneven_from : (ℕ → ℤ) → ℕ → Setting
uneven_from start doubles = record {
  params = small_cluster;
  doubles = doubles;
  start = start;
  rate = λ node. if node == 1 then neg_ℤ (pos 1) else if node == 2 then pos 1 else pos 0;
  microtick = λ node cycle. micro_in (node == 1) (node == 2) (node == 3) (is_odd cycle);
  delay = λ sender receiver channel cycle. delay_by (sender == 2) channel;
  is_arbitrary = λ node. node == 4;
  event =
      λ cycle sender receiver channel. uneven_event (sender == 4) (receiver == 1) (receiver == 2)
      (is_a channel && (sender == 2) && (receiver == 3))
      (is_a channel && (sender == 3) && (receiver == 1) && (cycle == 5));
  join =
      λ node. if node == 5 then Some (record { double = 0; reference = 1 })
      else if node == 6 then Some (record { double = 1; reference = 2 })
      else None;
}

-- five double cycles that begin in sync
abbrev pub uneven_run : Setting
uneven_run = uneven_from (λ node. if node == 1 then pos 0 else if node == 2 then pos 40_000_000 else pos 25_000_000) 5

-- three that do not, since node 1 begins late
abbrev pub far_run : Setting
far_run = uneven_from (λ node. if node == 1 then pos 370_000_000 else if node == 2 then pos 20_000_000 else pos 25_000_000) 3
