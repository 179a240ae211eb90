-- A run of eight nodes, two of which are arbitrary.
use Rattle.std.specs.Prelude.{ℕ, ◌==◌, nat_lt, Bool, not, ◌&&◌, ◌||◌, pos, negsuc, true, false, List, [], ◌∷◌, ◌++◌, None, replicate, if◌then◌else◌, codes}
use Rattle.fr_base.specs.Event.{Event}
use Rattle.fr_base.specs.Event.Event.{Regular, Silent, Say}
use Rattle.fr_base.specs.declared.dev.Dev.{Dev}
use Rattle.fr_script.specs.View.{ScriptView}
use Rattle.fr_cluster.specs.Setting.{Setting}
use Rattle.fr_history.specs.History.{History, Record}
use Rattle.fr_worked.specs.Clusters.{cluster_of}
use Rattle.fr_history.specs.Worked.{on_a}
use Rattle.fr_worked.specs.Entries.{all_stored, measured, steady_rows}
use Rattle.fr_worked.specs.Files.{no_joins, said_first, says_to, steady_drift}
use Rattle.fr_worked.specs.Wording.{says_covered, says_cut, says_heard, says_node, says_nodes, says_precision, says_sent, says_skew, says_sync}
use Rattle.fr_worked.specs.Working.{WorkedRun}

-- the correct nodes
abbrev pub is_among_six : ℕ → Bool
is_among_six node = nat_lt 0 node && nat_lt node 7

-- node 7 says to them that it is 100 microticks late
abbrev pub said_late_to : ℕ → Event
said_late_to receiver = if is_among_six receiver then Say (pos 100_000_000) None else Silent

-- node 8 says that it is as much early, but to node 2 it says nothing
abbrev pub said_early_to : ℕ → Event
said_early_to receiver = if is_among_six receiver && not (receiver == 2) then Say (negsuc 99_999_999) None else Silent

-- one double cycle; all clocks run alike
abbrev pub two_arbitrary_run : Setting
two_arbitrary_run = record {
  params = cluster_of (on_a 1 ∷ on_a 2 ∷ on_a 3 ∷ on_a 4 ∷ on_a 5 ∷ on_a 6 ∷ on_a 7 ∷ on_a 8 ∷ []);
  doubles = 1;
  start = λ _. pos 0;
  rate = λ _. pos 0;
  microtick = λ _ _. pos 1_000_000;
  delay = λ _ _ _ _. pos 0;
  is_arbitrary = λ node. (node == 7) || (node == 8);
  event = λ cycle sender receiver channel.
      if sender == 7 then said_first (said_late_to receiver) cycle channel
      else if sender == 8 then said_first (said_early_to receiver) cycle channel
      else Regular;
  join = λ _. None;
}

-- its script; its drift file has no rows
abbrev pub two_arbitrary_script : ScriptView
two_arbitrary_script = record {
  arbitrary = replicate 7 false ++ true ∷ true ∷ replicate 56 false;
  joins = no_joins;
  on_a =
      says_to 7 (pos 100_000_000) (1 ∷ 2 ∷ 3 ∷ 4 ∷ 5 ∷ 6 ∷ [])
      ++ says_to 8 (negsuc 99_999_999) (1 ∷ 3 ∷ 4 ∷ 5 ∷ 6 ∷ []);
  on_b = [];
}

-- the deviations of each cycle: node 2 has seven values and discards one at each end, the others have eight and discard two
abbrev pub two_arbitrary_devs : List Dev
two_arbitrary_devs =
    measured 1 ((2, pos 0) ∷ (3, pos 0) ∷ (4, pos 0) ∷ (5, pos 0) ∷ (6, pos 0) ∷ (7, pos 100) ∷ (8, negsuc 99) ∷ [])
    ++ measured 2 ((1, pos 0) ∷ (3, pos 0) ∷ (4, pos 0) ∷ (5, pos 0) ∷ (6, pos 0) ∷ (7, pos 100) ∷ [])
    ++ measured 3 ((1, pos 0) ∷ (2, pos 0) ∷ (4, pos 0) ∷ (5, pos 0) ∷ (6, pos 0) ∷ (7, pos 100) ∷ (8, negsuc 99) ∷ [])
    ++ measured 4 ((1, pos 0) ∷ (2, pos 0) ∷ (3, pos 0) ∷ (5, pos 0) ∷ (6, pos 0) ∷ (7, pos 100) ∷ (8, negsuc 99) ∷ [])
    ++ measured 5 ((1, pos 0) ∷ (2, pos 0) ∷ (3, pos 0) ∷ (4, pos 0) ∷ (6, pos 0) ∷ (7, pos 100) ∷ (8, negsuc 99) ∷ [])
    ++ measured 6 ((1, pos 0) ∷ (2, pos 0) ∷ (3, pos 0) ∷ (4, pos 0) ∷ (5, pos 0) ∷ (7, pos 100) ∷ (8, negsuc 99) ∷ [])

abbrev pub two_arbitrary_cycle_0 : Record
two_arbitrary_cycle_0 = record {
  rows = steady_rows (pos 0) (1 ∷ 2 ∷ 3 ∷ 4 ∷ 5 ∷ 6 ∷ []);
  devs = two_arbitrary_devs;
  counts = all_stored 6 9_781_741 0 0 41;
}

-- what both say is discarded: all terms are 0
abbrev pub two_arbitrary_cycle_1 : Record
two_arbitrary_cycle_1 = record {
  rows = steady_rows (pos 200_000_000_000) (1 ∷ 2 ∷ 3 ∷ 4 ∷ 5 ∷ 6 ∷ []);
  devs = two_arbitrary_devs;
  counts = all_stored 6 9_781_741 0 0 41;
}

-- the whole run, the latest cycle first
abbrev pub two_arbitrary_history : History
two_arbitrary_history = two_arbitrary_cycle_1 ∷ two_arbitrary_cycle_0 ∷ []

-- what is printed of it
abbrev pub two_arbitrary_report : List ℕ
two_arbitrary_report =
    says_nodes (codes "8") (codes "8") (codes "2") (codes "1")
    ++ says_precision (codes "252043600")
    ++ says_covered (codes "yes")
    ++ says_sync (codes "0")
    ++ says_skew (codes "0") (codes "0") (codes "0")
    ++ says_sent (codes "A") (codes "12") (codes "000000")
    ++ says_sent (codes "B") (codes "0") (codes "000000")
    ++ says_heard (codes "82") (codes "0")
    ++ says_cut (codes "0")
    ++ says_node (codes "1") (codes "400000000000") (codes "0") (codes "0")
    ++ says_node (codes "2") (codes "400000000000") (codes "0") (codes "0")
    ++ says_node (codes "3") (codes "400000000000") (codes "0") (codes "0")
    ++ says_node (codes "4") (codes "400000000000") (codes "0") (codes "0")
    ++ says_node (codes "5") (codes "400000000000") (codes "0") (codes "0")
    ++ says_node (codes "6") (codes "400000000000") (codes "0") (codes "0")

-- the run, worked
abbrev pub worked_two_arbitrary : WorkedRun
worked_two_arbitrary = record {
  run = two_arbitrary_run;
  drift = steady_drift 1;
  script = two_arbitrary_script;
  history = two_arbitrary_history;
  greatest = record { skew = pos 0; cycle = 0; macrotick = 0 };
  synced = 0;
  gap = None;
  report = two_arbitrary_report;
}
