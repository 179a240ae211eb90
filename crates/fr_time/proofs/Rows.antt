-- The time base, computed on worked rows.
use Rattle.std.specs.Prelude.{◌≡◌, ℕ, ℤ, pos, negsuc, List, [], ◌∷◌, map, Bool, true, false, Some, None, refl}
use Rattle.std.specs.List.{range_with_len}
use Rattle.fr_base.specs.declared.node_row.NodeRow.{NodeRow}
use Rattle.fr_base.specs.declared.state.State.TheVariants.{Active}
use Rattle.fr_cluster.specs.Values.{Values}
use Rattle.fr_time.specs.declared.grid.Grid.{Grid}
use Rattle.fr_time.specs.declared.senders.Kind.TheVariants.{SyncFrame, ValidFrame, NullFrame}
use Rattle.fr_time.specs.Cycles.{cycle_count, double_cycle_of, even_cycle, is_odd, odd_cycle}
use Rattle.fr_time.specs.Instant.{instant_of, next_start_of}
use Rattle.fr_time.specs.Position.{position_of}
use Rattle.fr_time.specs.Senders.{sender_of}
use Rattle.fr_time.specs.Slots.{action_point_of, slot_end_of, slot_start_of}

-- 10 macroticks in 25 microticks, corrected from this macrotick on
abbrev grid_from : ℕ → Grid
grid_from correction = record { macros = pos 10; micros = pos 25; correction = pos correction }

-- the positions of all macroticks of the cycle
abbrev positions : Grid → ℤ → ℤ → Bool → List ℤ
positions grid rate offset odd = map (λ macrotick. position_of grid rate offset odd (pos macrotick)) (range_with_len 0 10)

even_row : positions (grid_from 9) (pos 0) (pos 0) false ≡ map pos (0 ∷ 2 ∷ 5 ∷ 7 ∷ 10 ∷ 12 ∷ 15 ∷ 17 ∷ 20 ∷ 22 ∷ [])
even_row = refl

odd_row : positions (grid_from 8) (pos 0) (pos 2) true ≡ map pos (0 ∷ 2 ∷ 5 ∷ 7 ∷ 10 ∷ 12 ∷ 15 ∷ 17 ∷ 20 ∷ 23 ∷ [])
odd_row = refl

-- a shorter odd cycle, an even cycle in which an offset does nothing, a lower rate
shorter_row : positions (grid_from 8) (pos 0) (negsuc 1) true ≡ map pos (0 ∷ 2 ∷ 5 ∷ 7 ∷ 10 ∷ 12 ∷ 15 ∷ 17 ∷ 20 ∷ 21 ∷ [])
shorter_row = refl

uncorrected_row : positions (grid_from 8) (pos 0) (pos 2) false ≡ map pos (0 ∷ 2 ∷ 5 ∷ 7 ∷ 10 ∷ 12 ∷ 15 ∷ 17 ∷ 20 ∷ 22 ∷ [])
uncorrected_row = refl

slower_row : positions (grid_from 9) (negsuc 2) (pos 0) false ≡ map pos (0 ∷ 2 ∷ 4 ∷ 6 ∷ 8 ∷ 11 ∷ 13 ∷ 15 ∷ 17 ∷ 19 ∷ [])
slower_row = refl

-- a cycle that starts at tick 500, with microticks of 1000100 ticks
abbrev row_with : ℤ → NodeRow
row_with offset = record { node = 1; start = pos 500; length = pos 1000100; rate = pos 0; offset = offset; state = Active; cut = 0 }

instants : (instant_of (grid_from 8) (row_with (pos 2)) true (pos 9) ≡ pos 23002800) × (next_start_of (grid_from 8) (row_with (pos 2)) ≡ pos 27003200)
instants = (refl, refl)

cycles : (cycle_count 63 ≡ 63) × (cycle_count 64 ≡ 0) × (is_odd 6 ≡ false) × (is_odd 7 ≡ true) × (double_cycle_of 7 ≡ 3) × (even_cycle 3 ≡ 6) × (odd_cycle 3 ≡ 7)
cycles = (refl, refl, refl, refl, refl, refl, refl)

-- three static slots of 30 macroticks with the action point at 7; slots 1 and 3 are key slots, slot 2 is a further one
abbrev cluster : Values
cluster = record {
  macros = pos 5000;
  micros = pos 200000;
  static_slots = pos 3;
  slot_macros = pos 30;
  action_offset = pos 7;
  idle_macros = pos 4910;
  words = pos 0;
  correction = pos 4900;
  max_passive = pos 2;
  max_fatal = pos 4;
  halt_allowed = pos 1;
  to_active = pos 2;
  damping = pos 4;
  offset_limit = pos 254;
  rate_limit = pos 81;
  compensation_a = pos 0;
  compensation_b = pos 0;
  rate_bound = pos 200;
  change_bound = pos 0;
  delay_error = pos 500000;
  nodes = record { id = 1; key = Some 3; on_a = true; on_b = false; coldstart = true } ∷ record { id = 2; key = Some 1; on_a = true; on_b = true; coldstart = true } ∷ [];
  slots = record { slot = 2; node = 1; base = 1; repetition = 4 } ∷ [];
}

slots : (slot_start_of cluster 1 ≡ 0) × (action_point_of cluster 1 ≡ 7) × (slot_end_of cluster 1 ≡ 30) × (slot_start_of cluster 3 ≡ 60) × (action_point_of cluster 3 ≡ 67) × (slot_end_of cluster 3 ≡ 90)
slots = (refl, refl, refl, refl, refl, refl)

key_senders : (sender_of cluster 1 0 ≡ Some (record { node = 2; kind = SyncFrame })) × (sender_of cluster 3 65 ≡ Some (record { node = 1; kind = SyncFrame }))
key_senders = (refl, refl)

further_senders : (sender_of cluster 2 0 ≡ Some (record { node = 1; kind = NullFrame })) × (sender_of cluster 2 5 ≡ Some (record { node = 1; kind = ValidFrame }))
    × (sender_of cluster 2 65 ≡ Some (record { node = 1; kind = ValidFrame })) × (sender_of cluster 2 66 ≡ Some (record { node = 1; kind = NullFrame }))
further_senders = (refl, refl, refl, refl)

no_sender : sender_of cluster 4 0 ≡ None
no_sender = refl
