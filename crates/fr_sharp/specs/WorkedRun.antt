-- A worked run, three of whose older checks fail: its oscillators lie 20 ppm apart, its starts 18,000,000 ticks; the delay of every
-- frame is the least one that is stated in one double cycle, and the greatest in the next.
use Rattle.std.specs.Prelude.{◌≡◌, ◌<◌, ◌≤◌, ℕ, ◌/◌, ◌%◌, ◌==◌, ℤ, pos, Bool, true, false, ◌&&◌, if◌then◌else◌, [], ◌∷◌, Some, None}
use Rattle.fr_base.specs.Event.{Event}
use Rattle.fr_base.specs.Event.Event.{Regular}
use Rattle.fr_base.specs.declared.channel.Channel.{Channel}
use Rattle.fr_cluster.specs.Setting.{SaysBytes, Setting}
use Rattle.fr_cluster.specs.Values.{Values}
use Rattle.fr_bound.specs.Bounds.{precision_of}
use Rattle.fr_bound.specs.Checks.{holds_of}
use Rattle.fr_history.specs.Worked.{on_a}
use Rattle.fr_runs.specs.Stated.{all_cycles}
use Rattle.fr_bound.specs.SharpBounds.{sharp_near, sharp_precision, walk_lasts}
use Rattle.fr_bound.specs.SharpChecks.{sharp_holds_of}
use Rattle.fr_runs.specs.SharpHistories.{CyclesKeepApart, IsInSharpSyncAt, IsSteadyRun, StaysInSharpSyncAt}

-- a cluster of four nodes on channel A with key slots 1 to 4: a cycle of 5 ms at a microtick of 25 ns, damping 2, oscillators within
-- 100 ppm, and delays of 50 to 300 ns
abbrev pub steady_cluster : Values
steady_cluster = record {
  macros = pos 3636;
  micros = pos 200_000;
  static_slots = pos 91;
  slot_macros = pos 24;
  action_offset = pos 4;
  idle_macros = pos 1452;
  words = pos 8;
  correction = pos 3536;
  max_passive = pos 2;
  max_fatal = pos 4;
  halt_allowed = pos 1;
  to_active = pos 2;
  damping = pos 2;
  offset_limit = pos 127;
  rate_limit = pos 601;
  compensation_a = pos 7;
  compensation_b = pos 7;
  rate_bound = pos 100;
  change_bound = pos 0;
  delay_error = pos 5_000_000;
  nodes = on_a 1 ∷ on_a 2 ∷ on_a 3 ∷ on_a 4 ∷ [];
  slots = [];
}

-- of nodes 1 and 2, and of the others: the start, and the length of a microtick
abbrev pub start_by : Bool → Bool → ℤ
start_by true second = pos 0
start_by false true = pos 9_000_000
start_by false false = pos 18_000_000

abbrev pub micro_by : Bool → Bool → ℤ
micro_by true second = pos 1_000_010
micro_by false true = pos 999_990
micro_by false false = pos 1_000_000

-- in every second double cycle, and in the others: the delay
abbrev pub delay_in_turn : Bool → ℤ
delay_in_turn true = pos 2_000_000
delay_in_turn false = pos 12_000_000

-- what node 4 says where it is arbitrary, by cycle, sender, receiver and channel: any bytes
abbrev pub Said : Type 0
Said = ℕ → ℕ → ℕ → Channel → Event

abbrev pub OfBytes : Said → Type 0
OfBytes said = (cycle sender receiver : ℕ) (channel : Channel) → SaysBytes (said cycle sender receiver channel)

-- three double cycles of it, without an arbitrary node and beside node 4 as one
abbrev pub steady_run : Said → Bool → Setting
steady_run said beside = record {
  params = steady_cluster;
  doubles = 3;
  start = λ id. start_by (id == 1) (id == 2);
  rate = λ _. pos 0;
  microtick = λ id cycle. micro_by (id == 1) (id == 2);
  delay = λ sender receiver channel cycle. delay_in_turn (cycle / 2 % 2 == 0);
  is_arbitrary = λ id. beside && (id == 4);
  event =
      λ cycle sender receiver channel.
      if beside && (sender == 4) then said cycle sender receiver channel else Regular;
  join = λ _. None;
}

-- the older checks 1, 3 and 4 fail
abbrev pub OlderChecksFail : Type 0
OlderChecksFail = (holds_of 1 steady_cluster ≡ false) × (holds_of 3 steady_cluster ≡ false) × (holds_of 4 steady_cluster ≡ false)

-- and yet the run is in sharp sync in the first double cycle, and keeps the sharper precision to the end, whatever node 4 says
abbrev pub SteadyRunKeepsPrecision : Type 0
SteadyRunKeepsPrecision =
    (said : Said) (beside : Bool) → OfBytes said
    → IsInSharpSyncAt beside steady_cluster 0 (pos 0) (all_cycles (steady_run said beside)) 0
    × CyclesKeepApart (steady_run said beside) (all_cycles (steady_run said beside)) 0 (sharp_precision beside steady_cluster 0)

-- it meets what these laws ask for, all five checks too; and it is in sharp sync in each of its double cycles
abbrev pub SteadyRunMeetsPremises : Type 0
SteadyRunMeetsPremises =
    (said : Said) (beside : Bool) → OfBytes said
    → IsSteadyRun beside (steady_run said beside) 0 (all_cycles (steady_run said beside))
    × ((k : ℕ) → 1 ≤ k → k ≤ 5 → sharp_holds_of k 0 (sharp_near beside steady_cluster 0) steady_cluster ≡ true)
    × ((passed : ℕ) → passed < 3 → StaysInSharpSyncAt beside (steady_run said beside) 0 (all_cycles (steady_run said beside)) 0 passed)

-- in ticks: 0.90 microseconds, and 2.48 beside an arbitrary node; the older one is 12.35
abbrev pub SteadyPrecisions : Type 0
SteadyPrecisions =
    (sharp_precision false steady_cluster 0 ≡ 36_003_994) × (sharp_precision true steady_cluster 0 ≡ 99_010_680)
    × (precision_of steady_cluster ≡ 494_063_000)

-- ---- and a run whose lengths may walk

-- the same run without an arbitrary node, but for the delay: the least one in even cycles, and the greatest in odd ones
abbrev pub walking_run : Setting
walking_run = record {
  params = steady_cluster;
  doubles = 3;
  start = λ id. start_by (id == 1) (id == 2);
  rate = λ _. pos 0;
  microtick = λ id cycle. micro_by (id == 1) (id == 2);
  delay = λ sender receiver channel cycle. delay_in_turn (cycle % 2 == 0);
  is_arbitrary = λ id. false;
  event = λ cycle sender receiver channel. Regular;
  join = λ _. None;
}

-- the first check fails, the rate limit holds the walk for 62 double cycles, and so it is in sharp sync in each of its three
abbrev pub WalkingRunStaysInSharpSync : Type 0
WalkingRunStaysInSharpSync =
    (sharp_holds_of 1 10_000_000 (sharp_near false steady_cluster 10_000_000) steady_cluster ≡ false)
    × (walk_lasts steady_cluster 10_000_000 ≡ Some 62)
    × IsSteadyRun false walking_run 10_000_000 (all_cycles walking_run)
    × ((passed : ℕ) → passed < 3 → StaysInSharpSyncAt false walking_run 10_000_000 (all_cycles walking_run) 0 passed)
