-- The clusters of the worked runs: a cycle of 5 ms at a microtick of 25 ns.
use Rattle.std.specs.Prelude.{ℕ, pos, true, List, [], Some}
use Rattle.fr_cluster.specs.Values.{Values}
use Rattle.fr_cluster.specs.declared.nodes.NodeSpec.{NodeSpec}

-- the same on both channels
abbrev pub on_both : ℕ → NodeSpec
on_both node = record { id = node; key = Some node; on_a = true; on_b = true; coldstart = true }

-- a cluster of these nodes
abbrev pub cluster_of : List NodeSpec → Values
cluster_of nodes = record {
  macros = pos 5_000;
  micros = pos 200_000;
  static_slots = pos 140;
  slot_macros = pos 30;
  action_offset = pos 7;
  idle_macros = pos 800;
  words = pos 0;
  correction = pos 4_900;
  max_passive = pos 2;
  max_fatal = pos 4;
  halt_allowed = pos 1;
  to_active = pos 2;
  damping = pos 4;
  offset_limit = pos 254;
  rate_limit = pos 81;
  compensation_a = pos 0;
  compensation_b = pos 0;
  rate_bound = pos 200;
  change_bound = pos 0;
  delay_error = pos 500_000;
  nodes = nodes;
  slots = [];
}
