-- A run whose clocks begin together, and are driven apart: in its fourth double cycle it reaches nearly all of the sharper
-- precision.
use Rattle.std.specs.Prelude.{◌≡◌, ◌≤◌, ◌%◌, ◌*◌, ◌==◌, ◌-ℤ◌, ℕ, ℤ, pos, neg_ℤ, Bool, true, false, [], ◌∷◌, if◌then◌else◌, Contains, None}
use Rattle.fr_base.specs.Event.Event.{Regular}
use Rattle.fr_base.specs.Within.{IsWithin}
use Rattle.fr_cluster.specs.Setting.{Setting, correct_nodes}
use Rattle.fr_cluster.specs.Values.{Values}
use Rattle.fr_cluster.specs.declared.nodes.NodeSpec.{NodeSpec}
use Rattle.fr_history.specs.Cycles.{told_of}
use Rattle.fr_history.specs.Skew.{skew_at}
use Rattle.fr_history.specs.Worked.{on_a}
use Rattle.fr_runs.specs.Stated.{all_cycles}
use Rattle.fr_bound.specs.SharpBounds.{sharp_near, sharp_precision}
use Rattle.fr_bound.specs.SharpChecks.{sharp_holds_of}
use Rattle.fr_runs.specs.SharpHistories.{IsInSharpSyncAt, IsSteadyRun}

-- a cluster of four nodes on channel A with key slots 1 to 4: a cycle of 5 ms at a microtick of 25 ns, damping 4, oscillators
-- within 200 ppm, and delays of 12.5 to 37.5 ns
abbrev pub driven_cluster : Values
driven_cluster = record {
  macros = pos 5_000;
  micros = pos 200_000;
  static_slots = pos 4;
  slot_macros = pos 14;
  action_offset = pos 7;
  idle_macros = pos 4_944;
  words = pos 0;
  correction = pos 4_900;
  max_passive = pos 2;
  max_fatal = pos 4;
  halt_allowed = pos 1;
  to_active = pos 2;
  damping = pos 4;
  offset_limit = pos 254;
  rate_limit = pos 81;
  compensation_a = pos 1;
  compensation_b = pos 1;
  rate_bound = pos 200;
  change_bound = pos 0;
  delay_error = pos 500_000;
  nodes = on_a 1 ∷ on_a 2 ∷ on_a 3 ∷ on_a 4 ∷ [];
  slots = [];
}

-- of nodes 1, 2 and 3, and of the others: the start, the first rate, and the length of a microtick; node 3 is slow, and node 4
-- fast
abbrev pub driven_start : Bool → Bool → Bool → ℤ
driven_start true second third = pos 70_079
driven_start false true third = pos 0
driven_start false false true = pos 1_399_878
driven_start false false false = pos 645_847

abbrev pub driven_rate : Bool → Bool → Bool → ℤ
driven_rate true second third = pos 1
driven_rate false true third = pos 0
driven_rate false false true = neg_ℤ (pos 28)
driven_rate false false false = pos 29

abbrev pub driven_micro : Bool → Bool → Bool → ℤ
driven_micro true second third = pos 999_997
driven_micro false true third = pos 1_000_002
driven_micro false false true = pos 1_000_140
driven_micro false false false = pos 999_854

-- the delay at node 1, 3 or 4 in an even cycle or in an odd one: to node 3 nearly all comes early in even cycles and late in
-- odd ones, and to node 4 the other way round
abbrev pub delay_to_1 : ℕ → Bool → ℤ
delay_to_1 sender even =
    if sender == 2 then (if even then pos 1_000_000 else pos 955_539)
    else (if sender == 3 then (if even then pos 912_024 else pos 500_000) else pos 1_000_000)

abbrev pub delay_to_3 : ℕ → Bool → ℤ
delay_to_3 sender even = if sender == 4 then pos 500_000 else (if even then pos 500_000 else pos 1_500_000)

abbrev pub delay_to_4 : ℕ → Bool → ℤ
delay_to_4 sender even =
    if even then pos 1_500_000 else (if sender == 3 then pos 574_534 else pos 500_000)

abbrev pub driven_delay : ℕ → ℕ → Bool → ℤ
driven_delay sender receiver even =
    if receiver == 1 then delay_to_1 sender even
    else (
    if receiver == 3 then delay_to_3 sender even else (if receiver == 4 then delay_to_4 sender even else pos 1_000_000)
    )

-- four double cycles of it
abbrev pub driven_run : Setting
driven_run = record {
  params = driven_cluster;
  doubles = 4;
  start = λ id. driven_start (id == 1) (id == 2) (id == 3);
  rate = λ id. driven_rate (id == 1) (id == 2) (id == 3);
  microtick = λ id cycle. driven_micro (id == 1) (id == 2) (id == 3);
  delay = λ sender receiver channel cycle. driven_delay sender receiver (cycle % 2 == 0);
  is_arbitrary = λ id. false;
  event = λ cycle sender receiver channel. Regular;
  join = λ _. None;
}

-- its starts lie within a microtick and a half, its delays flutter by a microtick, all five checks hold, and it is in sharp
-- sync from the first double cycle on
pub record DrivenRunBegins : Type 0 where
  pub together :
      (one other : NodeSpec) → Contains (correct_nodes driven_run) one → Contains (correct_nodes driven_run) other
      → IsWithin (pos 1_400_000) (driven_run.start one.id -ℤ driven_run.start other.id)
  pub run : IsSteadyRun false driven_run 1_000_000 (all_cycles driven_run)
  pub checks : (k : ℕ) → 1 ≤ k → k ≤ 5 → sharp_holds_of k 1_000_000 (sharp_near false driven_cluster 1_000_000) driven_cluster ≡ true
  pub in_sync : IsInSharpSyncAt false driven_cluster 1_000_000 (pos 0) (all_cycles driven_run) 0

-- and in its fourth double cycle, before the offset correction, it reaches 90 hundredths of the sharper precision
abbrev pub DrivenRunReaches : Type 0
DrivenRunReaches =
    (skew_at driven_cluster (told_of (all_cycles driven_run)) 7 4_772 ≡ pos 40_747_671)
    × (90 * sharp_precision false driven_cluster 1_000_000 ≤ 100 * 40_747_671)
