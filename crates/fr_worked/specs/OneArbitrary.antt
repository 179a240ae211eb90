-- A run of four nodes, one of which is arbitrary and says different things.
use Rattle.std.specs.Prelude.{ℕ, ◌==◌, pos, negsuc, true, false, List, [], ◌∷◌, ◌++◌, None, replicate, if◌then◌else◌, codes}
use Rattle.fr_base.specs.Event.{Event}
use Rattle.fr_base.specs.Event.Event.{Regular, Silent, Say}
use Rattle.fr_base.specs.declared.dev.Dev.{Dev}
use Rattle.fr_script.specs.View.{ScriptView}
use Rattle.fr_cluster.specs.Setting.{Setting}
use Rattle.fr_history.specs.History.{History, Record}
use Rattle.fr_worked.specs.Clusters.{cluster_of}
use Rattle.fr_history.specs.Worked.{on_a}
use Rattle.fr_worked.specs.Entries.{all_stored, measured, steady_rows}
use Rattle.fr_worked.specs.Files.{no_joins, said_first, says_to, steady_drift}
use Rattle.fr_worked.specs.Wording.{says_covered, says_cut, says_heard, says_node, says_nodes, says_precision, says_sent, says_skew, says_sync}
use Rattle.fr_worked.specs.Working.{WorkedRun}

-- what node 4 says: that it is 100 microticks late, as much early, or nothing
abbrev pub said_to : ℕ → Event
said_to receiver =
    if receiver == 1 then Say (pos 100_000_000) None
    else if receiver == 2 then Say (negsuc 99_999_999) None
    else Silent

-- one double cycle; all clocks run alike
abbrev pub one_arbitrary_run : Setting
one_arbitrary_run = record {
  params = cluster_of (on_a 1 ∷ on_a 2 ∷ on_a 3 ∷ on_a 4 ∷ []);
  doubles = 1;
  start = λ _. pos 0;
  rate = λ _. pos 0;
  microtick = λ _ _. pos 1_000_000;
  delay = λ _ _ _ _. pos 0;
  is_arbitrary = λ node. node == 4;
  event = λ cycle sender receiver channel. if sender == 4 then said_first (said_to receiver) cycle channel else Regular;
  join = λ _. None;
}

-- its script; its drift file has no rows
abbrev pub one_arbitrary_script : ScriptView
one_arbitrary_script = record {
  arbitrary = replicate 4 false ++ true ∷ replicate 60 false;
  joins = no_joins;
  on_a = says_to 4 (pos 100_000_000) (1 ∷ []) ++ says_to 4 (negsuc 99_999_999) (2 ∷ []);
  on_b = [];
}

-- the deviations of each cycle
abbrev pub one_arbitrary_devs : List Dev
one_arbitrary_devs =
    measured 1 ((2, pos 0) ∷ (3, pos 0) ∷ (4, pos 100) ∷ [])
    ++ measured 2 ((1, pos 0) ∷ (3, pos 0) ∷ (4, negsuc 99) ∷ [])
    ++ measured 3 ((1, pos 0) ∷ (2, pos 0) ∷ [])

abbrev pub one_arbitrary_cycle_0 : Record
one_arbitrary_cycle_0 = record {
  rows = steady_rows (pos 0) (1 ∷ 2 ∷ 3 ∷ []);
  devs = one_arbitrary_devs;
  counts = all_stored 3 1_382_820 0 0 8;
}

-- what node 4 says is discarded: all terms are 0
abbrev pub one_arbitrary_cycle_1 : Record
one_arbitrary_cycle_1 = record {
  rows = steady_rows (pos 200_000_000_000) (1 ∷ 2 ∷ 3 ∷ []);
  devs = one_arbitrary_devs;
  counts = all_stored 3 4_748_399 0 0 8;
}

-- the whole run, the latest cycle first
abbrev pub one_arbitrary_history : History
one_arbitrary_history = one_arbitrary_cycle_1 ∷ one_arbitrary_cycle_0 ∷ []

-- what is printed of it
abbrev pub one_arbitrary_report : List ℕ
one_arbitrary_report =
    says_nodes (codes "4") (codes "4") (codes "1") (codes "1")
    ++ says_precision (codes "252043600")
    ++ says_covered (codes "yes")
    ++ says_sync (codes "0")
    ++ says_skew (codes "0") (codes "0") (codes "0")
    ++ says_sent (codes "A") (codes "6") (codes "5D6DCB")
    ++ says_sent (codes "B") (codes "0") (codes "000000")
    ++ says_heard (codes "16") (codes "0")
    ++ says_cut (codes "0")
    ++ says_node (codes "1") (codes "400000000000") (codes "0") (codes "0")
    ++ says_node (codes "2") (codes "400000000000") (codes "0") (codes "0")
    ++ says_node (codes "3") (codes "400000000000") (codes "0") (codes "0")

-- the run, worked
abbrev pub worked_one_arbitrary : WorkedRun
worked_one_arbitrary = record {
  run = one_arbitrary_run;
  drift = steady_drift 1;
  script = one_arbitrary_script;
  history = one_arbitrary_history;
  greatest = record { skew = pos 0; cycle = 0; macrotick = 0 };
  synced = 0;
  gap = None;
  report = one_arbitrary_report;
}
