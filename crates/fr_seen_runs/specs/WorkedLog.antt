-- A worked log: of two nodes that start 2.5 microticks apart, as an observer stamps their frames by whole nanoseconds over two
-- double cycles; and a run that it is seen of. So what the laws ask of such logs and runs can be met.
use Rattle.std.specs.Prelude.{◌≡◌, ℕ, ◌+◌, ◌*◌, ◌==◌, nat_lt, ℤ, pos, negsuc, Bool, false, List, [], ◌∷◌, replicate, if◌then◌else◌, Option, None, Some}
use Rattle.fr_base.specs.Event.Event.{Regular}
use Rattle.fr_base.specs.Rows.{dev_with}
use Rattle.fr_base.specs.declared.channel.Channel.{Channel}
use Rattle.fr_base.specs.declared.channel.Channel.TheVariants.{A}
use Rattle.fr_base.specs.declared.node_row.NodeRow.{NodeRow}
use Rattle.fr_base.specs.declared.state.State.TheVariants.{Active}
use Rattle.fr_cluster.specs.Setting.{Setting}
use Rattle.fr_cluster.specs.Values.{Values}
use Rattle.fr_history.specs.Cycles.{Cycle, Cycles}
use Rattle.fr_history.specs.Next.{cycles_of}
use Rattle.fr_history.specs.Worked.{on_a, stored_counts}
use Rattle.fr_log.specs.View.{LogView}
use Rattle.fr_log.specs.declared.entry.Entry.{Entry}
use Rattle.fr_log.specs.declared.entry.EntryKind.TheVariants.{Head}
use Rattle.fr_course.specs.declared.stamps.Delays.{Delays}
use Rattle.fr_sightings.specs.declared.sighting.Sighting.{Sighting}
use Rattle.fr_sightings.specs.Sightings.{sightings_of}
use Rattle.fr_findings.specs.Verdict.{verdict_of}
use Rattle.fr_findings.specs.declared.verdict.Verdict.TheVariants as verdict
use Rattle.fr_seen.specs.Clocks.{StraightClock}
use Rattle.fr_seen.specs.Observed.{SentFrame}
use Rattle.fr_seen.specs.OwnSlots.{SlotsAreOwn}
use Rattle.fr_seen.specs.WorkedStamps.{worked_delays, worked_values}
use Rattle.fr_seen.specs.Contradictions.{IsAsLogStates, IsObservedRun}

-- ---- the run

-- the cycle of 5 ms of the worked row, with two coldstart nodes on channel A
abbrev pub seen_cluster : Values
seen_cluster = let values : Values = worked_values in record values { nodes = on_a 1 ∷ on_a 2 ∷ [] }

-- what is so of node 1, and then of node 2
abbrev pub of_node : {X : Type 0} → ℕ → X → X → X
of_node node first second = if node == 2 then second else first

-- two double cycles with nominal clocks and no delays, and no node that is arbitrary or joins; node 2 starts later
abbrev pub seen_run : Setting
seen_run = record {
  params = seen_cluster;
  doubles = 2;
  start = λ node. of_node node (pos 0) (pos 2_500_000);
  rate = λ _. pos 0;
  microtick = λ _ _. pos 1_000_000;
  delay = λ _ _ _ _. pos 0;
  is_arbitrary = λ _. false;
  event = λ _ _ _ _. Regular;
  join = λ _. None;
}

-- what is so in the first double cycle, and then in the second one
abbrev pub by_double : {X : Type 0} → ℕ → X → X → X
by_double cycle first second = if nat_lt cycle 2 then first else second

-- where each cycle of a node starts; the offset terms are 1 and -1, so that half a microtick remains
abbrev pub seen_start : ℕ → ℕ → ℕ
seen_start node cycle =
    by_double cycle (of_node node 0 2_500_000) (of_node node 1_000_000 1_500_000) + cycle * 200_000_000_000

abbrev pub offset_applied : ℕ → ℕ → ℤ
offset_applied node cycle = if cycle == 1 then of_node node (pos 1) (negsuc 0) else pos 0

abbrev pub seen_row : ℕ → ℕ → NodeRow
seen_row node cycle = record {
  node = node;
  start = pos (seen_start node cycle);
  length = pos 1_000_000;
  rate = pos 0;
  offset = offset_applied node cycle;
  state = Active;
  cut = 0;
}

-- node 1 measures 2 microticks and node 2 measures -3; then these are 0 and -1
abbrev pub seen_cycle : ℕ → Cycle
seen_cycle cycle = record {
  told = record {
    rows = seen_row 1 cycle ∷ seen_row 2 cycle ∷ [];
    devs = dev_with 1 2 A (by_double cycle (pos 2) (pos 0)) ∷ dev_with 2 1 A (by_double cycle (negsuc 2) (negsuc 0)) ∷ [];
    counts = stored_counts 2 5_390_545 2;
  };
  followers = [];
  follower_devs = [];
}

-- the cycles of the run, the latest first
abbrev pub seen_cycles : Cycles
seen_cycles = seen_cycle 3 ∷ seen_cycle 2 ∷ seen_cycle 1 ∷ seen_cycle 0 ∷ []

-- ---- the log

-- what is so of each node in each of these cycles, in the order of time
abbrev pub of_each : {X : Type 0} → (ℕ → ℕ → X) → List X
of_each is = is 1 0 ∷ is 2 0 ∷ is 1 1 ∷ is 2 1 ∷ is 1 2 ∷ is 2 2 ∷ is 1 3 ∷ is 2 3 ∷ []

-- the whole nanosecond in which the frame of a node comes in a cycle, and the header that it begins with
abbrev pub seen_stamp : ℕ → ℕ → ℕ
seen_stamp node cycle = by_double cycle (of_node node 7_000 37_062) (of_node node 7_025 37_037) + cycle * 5_000_000

abbrev pub seen_header : ℕ → ℕ → List ℕ
seen_header node cycle = of_node node (56 ∷ 1 ∷ 0 ∷ 111 ∷ cycle ∷ []) (56 ∷ 2 ∷ 0 ∷ 232 ∷ (192 + cycle) ∷ [])

abbrev pub seen_entry : ℕ → ℕ → Entry
seen_entry node cycle = record { kind = Head; stamp = seen_stamp node cycle; channel = A; bytes = seen_header node cycle }

-- in units of a nanosecond, of a clock that is never off, with frames that are under way for no time; and with what the log
-- states: from which cycle on the cluster is in sync, if it does, and whether no frame was missed. Where it states neither it
-- is the log of examples/observe
abbrev pub seen_log : Option ℕ → Bool → LogView
seen_log since whole = record {
  unit = 40_000;
  drift = 0;
  error = 0;
  jitter = None;
  flutter = None;
  lost = 0;
  since = since;
  whole = whole;
  arbitrary = replicate 65 false;
  on_a = replicate 65 None;
  on_b = replicate 65 None;
  each = Some (record { low = 0; high = 0 });
  entries = of_each seen_entry;
}

-- each entry is a sighting: the frame of a node in a cycle
abbrev pub entry_sighting : ℕ → ℕ → Sighting
entry_sighting node cycle =
    record { number = cycle; node = node; slot = node; channel = A; count = cycle; stamp = seen_stamp node cycle }

abbrev pub seen_sightings : List Sighting
seen_sightings = of_each entry_sighting

-- ---- what it is seen by

-- what was sent there
abbrev pub sent_frame : ℕ → ℕ → SentFrame
sent_frame node cycle = record {
  frame = record { number = pos cycle; slot = node; channel = A; count = cycle; stamp = pos (seen_stamp node cycle) };
  cycle = cycle;
  node = node;
  row = seen_row node cycle;
  delay = pos 0;
}

abbrev pub seen_sent : List SentFrame
seen_sent = of_each sent_frame

-- no delays, and a clock that counts each tick from instant 0 on
abbrev pub no_delays : ℕ → Channel → Delays
no_delays node channel = worked_delays

abbrev pub true_clock : ℕ → StraightClock
true_clock double = record { ticks = pos 1; counts = pos 1; zero = pos 0 }

-- ---- the instance

-- the cycles of the run are these, the log is seen of them, and they are as it states; each whole frame in the slot of a node is
-- one that the node sends; its entries are these sightings; and its verdict is that the senders are within the precision in
-- cycles 0 to 2
pub record WorkedLog (since : Option ℕ) (whole : Bool) : Type 0 where
  pub cycles : cycles_of seen_run 4 ≡ seen_cycles
  pub observed : IsObservedRun seen_run seen_cycles 0 no_delays true_clock (seen_log since whole)
  pub stated : IsAsLogStates seen_run seen_cycles 0 (seen_log since whole)
  pub slots : SlotsAreOwn seen_run seen_cycles (seen_log since whole)
  pub sightings : sightings_of seen_cluster (seen_log since whole) ≡ seen_sightings
  pub verdict : verdict_of seen_cluster (seen_log since whole) ≡ verdict.Within (record { from = 0; to = 2 })
