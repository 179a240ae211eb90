-- The cluster that is made: eight nodes on both channels, each with its key slot and two further slots, and a cycle of 5 ms
-- at a microtick of 25 ns.
use Rattle.std.specs.Prelude.{ℕ, zero, suc, ℤ, pos, ◌+◌, ◌-◌, ◌%◌, true, List, [], ◌∷◌, ◌++◌, Some}
use Rattle.fr_cluster.specs.Values.{Values}
use Rattle.fr_cluster.specs.declared.nodes.NodeSpec.{NodeSpec}
use Rattle.fr_cluster.specs.declared.nodes.SlotSpec.{SlotSpec}

-- the numbers in the order of the second version's table
abbrev pub made_numbers : List ℤ
made_numbers =
    pos 5_000 ∷ pos 200_000 ∷ pos 140 ∷ pos 30 ∷ pos 7 ∷ pos 800 ∷ pos 8 ∷ pos 4_900 ∷ pos 2 ∷ pos 4 ∷ pos 1 ∷ pos 2 ∷ pos 4 ∷ pos 254 ∷ pos 81 ∷ pos 0
    ∷ pos 0 ∷ pos 200 ∷ pos 0 ∷ pos 500_000 ∷ []

-- a coldstart node on both channels, whose key slot has its number
abbrev pub made_node : ℕ → NodeSpec
made_node number = record { id = number; key = Some number; on_a = true; on_b = true; coldstart = true }

-- the nodes from 1 on
unfoldable pub nodes_to : ℕ → List NodeSpec
nodes_to zero = []
nodes_to (suc n) = nodes_to n ++ made_node (n + 1) ∷ []

-- a further slot, of a node in turn, with payload in every even cycle
abbrev pub made_slot : ℕ → SlotSpec
made_slot number = record { slot = number; node = (number - 9) % 8 + 1; base = 0; repetition = 2 }

-- the further slots from 9 on
unfoldable pub slots_to : ℕ → List SlotSpec
slots_to zero = []
slots_to (suc n) = slots_to n ++ made_slot (n + 9) ∷ []

abbrev pub made_values : Values
made_values = record {
  macros = pos 5_000;
  micros = pos 200_000;
  static_slots = pos 140;
  slot_macros = pos 30;
  action_offset = pos 7;
  idle_macros = pos 800;
  words = pos 8;
  correction = pos 4_900;
  max_passive = pos 2;
  max_fatal = pos 4;
  halt_allowed = pos 1;
  to_active = pos 2;
  damping = pos 4;
  offset_limit = pos 254;
  rate_limit = pos 81;
  compensation_a = pos 0;
  compensation_b = pos 0;
  rate_bound = pos 200;
  change_bound = pos 0;
  delay_error = pos 500_000;
  nodes = nodes_to 8;
  slots = slots_to 16;
}
