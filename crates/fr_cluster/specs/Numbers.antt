-- The numbers of a cluster in the order of the second version's table.
use Rattle.std.specs.Prelude.{ℕ, ℤ, pos, List, [], nat_abs, slice_index_or}
use Rattle.fr_cluster.specs.Values.{Values, figure}
use Rattle.fr_cluster.specs.Ranges.{InRange}
use Rattle.fr_cluster.specs.declared.names.ParamName.{ParamName}
use Rattle.fr_cluster.specs.declared.nodes.NodeSpec.{NodeSpec}
use Rattle.fr_cluster.specs.declared.nodes.SlotSpec.{SlotSpec}

-- the parameters of these numbers, nodes and further slots
abbrev pub values_in : List ℤ → List NodeSpec → List SlotSpec → Values
values_in numbers nodes slots = record {
  macros = slice_index_or numbers 0 (pos 0);
  micros = slice_index_or numbers 1 (pos 0);
  static_slots = slice_index_or numbers 2 (pos 0);
  slot_macros = slice_index_or numbers 3 (pos 0);
  action_offset = slice_index_or numbers 4 (pos 0);
  idle_macros = slice_index_or numbers 5 (pos 0);
  words = slice_index_or numbers 6 (pos 0);
  correction = slice_index_or numbers 7 (pos 0);
  max_passive = slice_index_or numbers 8 (pos 0);
  max_fatal = slice_index_or numbers 9 (pos 0);
  halt_allowed = slice_index_or numbers 10 (pos 0);
  to_active = slice_index_or numbers 11 (pos 0);
  damping = slice_index_or numbers 12 (pos 0);
  offset_limit = slice_index_or numbers 13 (pos 0);
  rate_limit = slice_index_or numbers 14 (pos 0);
  compensation_a = slice_index_or numbers 15 (pos 0);
  compensation_b = slice_index_or numbers 16 (pos 0);
  rate_bound = slice_index_or numbers 17 (pos 0);
  change_bound = slice_index_or numbers 18 (pos 0);
  delay_error = slice_index_or numbers 19 (pos 0);
  nodes = nodes;
  slots = slots;
}

-- the number of a name
abbrev pub number_in : List ℤ → ParamName → ℤ
number_in numbers n = figure (values_in numbers [] []) n

-- the same as a natural
abbrev pub amount_in : List ℤ → ParamName → ℕ
amount_in numbers n = nat_abs (number_in numbers n)

-- each number lies in its range
abbrev pub AreInRange : List ℤ → Type 0
AreInRange numbers = (n : ParamName) → InRange n (number_in numbers n)
