-- A run of three nodes, of which the third listens to the first in double cycle 1, and what comes of it; and two runs like it
-- in which the third never has a row.
use Rattle.std.specs.Prelude.{◌≡◌, ℕ, zero, suc, ◌*◌, ◌==◌, nat_le, pos, true, false, ◌&&◌, List, [], ◌∷◌, ◌++◌, length, map, Some, None, if◌then◌else◌}
use Rattle.fr_base.specs.Event.Event.{Regular, Silent}
use Rattle.fr_base.specs.Rows.{dev_with}
use Rattle.fr_base.specs.declared.channel.Channel.TheVariants.{A}
use Rattle.fr_base.specs.declared.cycle_row.Counts.{Counts}
use Rattle.fr_base.specs.declared.dev.Dev.{Dev}
use Rattle.fr_base.specs.declared.node_row.NodeRow.{NodeRow}
use Rattle.fr_base.specs.declared.state.State.{State}
use Rattle.fr_base.specs.declared.state.State.TheVariants.{Active, Passive}
use Rattle.fr_cluster.specs.Setting.{Setting}
use Rattle.fr_cluster.specs.Values.{Values}
use Rattle.fr_cluster.specs.declared.nodes.NodeSpec.{NodeSpec}
use Rattle.fr_skew.specs.declared.peak.Peak.{Peak}
use Rattle.fr_history.specs.History.{Record}
use Rattle.fr_history.specs.Skew.{greatest_skew_of}
use Rattle.fr_history.specs.Cycles.{Cycle, Cycles, told_of}
use Rattle.fr_history.specs.Next.{cycles_of}
use Rattle.fr_history.specs.Unfollowed.{first_unfollowed_sync_of}

-- a coldstart node on channel A whose key slot has its number
abbrev pub on_a : ℕ → NodeSpec
on_a node = record { id = node; key = Some node; on_a = true; on_b = false; coldstart = true }

-- a cluster of three such nodes: a cycle of 5 ms at a microtick of 25 ns, with room in its slots for a node that joins
abbrev pub roomy_cluster : Values
roomy_cluster = record {
  macros = pos 5_000;
  micros = pos 200_000;
  static_slots = pos 140;
  slot_macros = pos 30;
  action_offset = pos 12;
  idle_macros = pos 800;
  words = pos 0;
  correction = pos 4_900;
  max_passive = pos 2;
  max_fatal = pos 4;
  halt_allowed = pos 1;
  to_active = pos 2;
  damping = pos 4;
  offset_limit = pos 454;
  rate_limit = pos 84;
  compensation_a = pos 0;
  compensation_b = pos 0;
  rate_bound = pos 200;
  change_bound = pos 0;
  delay_error = pos 500_000;
  nodes = on_a 1 ∷ on_a 2 ∷ on_a 3 ∷ [];
  slots = [];
}

-- six double cycles with nominal clocks and no delays; the script's row is `join,1,3,1,,,`
abbrev pub joined_run : Setting
joined_run = record {
  params = roomy_cluster;
  doubles = 6;
  start = λ _. pos 0;
  rate = λ _. pos 0;
  microtick = λ _ _. pos 1_000_000;
  delay = λ _ _ _ _. pos 0;
  is_arbitrary = λ _. false;
  event = λ _ _ _ _. Regular;
  join = λ node. if node == 3 then Some (record { double = 1; reference = 1 }) else None;
}

-- ---- the entries of its cycles

-- the rows of some nodes in a cycle of this number
abbrev pub rows_of_some : ℕ → State → List ℕ → List NodeRow
rows_of_some cycle state nodes =
    map
    (λ node. record {
      node = node;
      start = pos (cycle * 200_000_000_000);
      length = pos 1_000_000;
      rate = pos 0;
      offset = pos 0;
      state = state;
      cut = 0;
    })
    nodes

-- a deviation of 0 on channel A in each of these slots
abbrev pub zero_devs : ℕ → List ℕ → List Dev
zero_devs node slots = map (λ slot. dev_with node slot A (pos 0)) slots

-- so many frames on channel A, the sum of their CRCs, and how many were stored
abbrev pub stored_counts : ℕ → ℕ → ℕ → Counts
stored_counts sent xor stored = record {
  sent_a = sent;
  sent_b = 0;
  xor_a = xor;
  xor_b = 0;
  stored = stored;
  outside = 0;
  damaged = 0;
  wrong_id = 0;
  wrong_cycle = 0;
  wrong_length = 0;
  plain = 0;
}

-- nodes 1 and 2 alone
abbrev pub two_told : ℕ → Record
two_told cycle = record {
  rows = rows_of_some cycle Active (1 ∷ 2 ∷ []);
  devs = zero_devs 1 (2 ∷ []) ++ zero_devs 2 (1 ∷ []);
  counts = stored_counts 2 5_390_545 2;
}

abbrev pub two_at : ℕ → Cycle
two_at cycle = record { told = two_told cycle; followers = []; follower_devs = [] }

-- nodes 1 and 2, which node 3 follows; and where it hears nothing
abbrev pub two_and_follower : ℕ → Cycle
two_and_follower cycle = record {
  told = two_told cycle;
  followers = rows_of_some cycle Passive (3 ∷ []);
  follower_devs = zero_devs 3 (1 ∷ 2 ∷ []);
}

abbrev pub deaf_at : ℕ → Cycle
deaf_at cycle = record { told = two_told cycle; followers = rows_of_some cycle Passive (3 ∷ []); follower_devs = [] }

-- all three
abbrev pub three_at : ℕ → ℕ → Cycle
three_at cycle xor = record {
  told = record {
    rows = rows_of_some cycle Active (1 ∷ 2 ∷ 3 ∷ []);
    devs = zero_devs 1 (2 ∷ 3 ∷ []) ++ zero_devs 2 (1 ∷ 3 ∷ []) ++ zero_devs 3 (1 ∷ 2 ∷ []);
    counts = stored_counts 3 xor 6;
  };
  followers = [];
  follower_devs = [];
}

-- ---- its cycles: nodes 1 and 2 alone in cycles 0 to 3, followed in 4 to 7, and node 3 with them from 8 on

abbrev pub two_after : ℕ → Cycles
two_after zero = []
two_after (suc n) = two_at n ∷ two_after n

abbrev pub after_4 : Cycles
after_4 = two_after 4

abbrev pub after_5 : Cycles
after_5 = two_and_follower 4 ∷ after_4

abbrev pub after_6 : Cycles
after_6 = two_and_follower 5 ∷ after_5

abbrev pub after_7 : Cycles
after_7 = two_and_follower 6 ∷ after_6

abbrev pub after_8 : Cycles
after_8 = two_and_follower 7 ∷ after_7

abbrev pub after_9 : Cycles
after_9 = three_at 8 4_500_586 ∷ after_8

abbrev pub after_10 : Cycles
after_10 = three_at 9 1_687_969 ∷ after_9

abbrev pub after_11 : Cycles
after_11 = three_at 10 16_676_860 ∷ after_10

abbrev pub after_12 : Cycles
after_12 = three_at 11 10_689_079 ∷ after_11

-- ---- two runs like it

-- a frame of node 1 is lost on its way to node 3 in cycle 2, in which it listens: it never follows
abbrev pub lost_join_run : Setting
lost_join_run =
    let run : Setting = joined_run in
    record run {
      event =
          λ cycle sender receiver channel. if (cycle == 2) && (sender == 1) && (receiver == 3) then Silent else Regular;
    }

-- no frame comes to node 3 from cycle 4 on: it follows in one double cycle, and not in the next
abbrev pub deaf_run : Setting
deaf_run =
    let run : Setting = joined_run in
    record run { event = λ cycle sender receiver channel. if nat_le 4 cycle && (receiver == 3) then Silent else Regular }

abbrev pub deaf_after_5 : Cycles
deaf_after_5 = deaf_at 4 ∷ after_4

abbrev pub deaf_after_6 : Cycles
deaf_after_6 = deaf_at 5 ∷ deaf_after_5

abbrev pub deaf_after_7 : Cycles
deaf_after_7 = two_at 6 ∷ deaf_after_6

abbrev pub deaf_after_8 : Cycles
deaf_after_8 = two_at 7 ∷ deaf_after_7

abbrev pub deaf_after_9 : Cycles
deaf_after_9 = two_at 8 ∷ deaf_after_8

-- ---- what comes of a run: its cycles, the greatest skew with its first place, and the first double cycle in sync in which
-- no node follows
pub record ComesOf (x : Setting) (h : Cycles) (peak : Peak) (double : ℕ) : Type 0 where
  pub cycles : cycles_of x (length h) ≡ h
  pub greatest : greatest_skew_of x.params (told_of h) ≡ Some peak
  pub unfollowed : first_unfollowed_sync_of x.params h ≡ Some double

-- no skew, first at the start of the run
abbrev pub no_skew : Peak
no_skew = record { skew = pos 0; cycle = 0; macrotick = 0 }
