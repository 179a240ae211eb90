-- A run of three nodes, one of which is arbitrary and says nothing.
use Rattle.std.specs.Prelude.{ℕ, ◌==◌, pos, true, false, List, [], ◌∷◌, ◌++◌, replicate, if◌then◌else◌, codes, Some, None}
use Rattle.fr_base.specs.Event.Event.{Regular, Silent}
use Rattle.fr_script.specs.View.{ScriptView}
use Rattle.fr_cluster.specs.Setting.{Setting}
use Rattle.fr_history.specs.History.{History, Record}
use Rattle.fr_worked.specs.Clusters.{cluster_of}
use Rattle.fr_history.specs.Worked.{on_a}
use Rattle.fr_worked.specs.Entries.{all_stored, measured, steady_rows}
use Rattle.fr_worked.specs.Wording.{says_covered, says_cut, says_heard, says_node, says_nodes, says_precision, says_sent, says_skew, says_sync}
use Rattle.fr_worked.specs.Working.{WorkedRun}
use Rattle.fr_worked.specs.Files.{no_joins, steady_drift}
use Rattle.fr_coverage.specs.declared.gap.Gap.TheVariants.{Count}

-- one double cycle; all clocks run alike
abbrev pub quiet_run : Setting
quiet_run = record {
  params = cluster_of (on_a 1 ∷ on_a 2 ∷ on_a 3 ∷ []);
  doubles = 1;
  start = λ _. pos 0;
  rate = λ _. pos 0;
  microtick = λ _ _. pos 1_000_000;
  delay = λ _ _ _ _. pos 0;
  is_arbitrary = λ node. node == 3;
  event = λ _ sender _ _. if sender == 3 then Silent else Regular;
  join = λ _. None;
}

-- its script: node 3 is arbitrary, and no row says anything; its drift file has no rows
abbrev pub quiet_script : ScriptView
quiet_script = record { arbitrary = replicate 3 false ++ true ∷ replicate 61 false; joins = no_joins; on_a = []; on_b = [] }

abbrev pub quiet_cycle_0 : Record
quiet_cycle_0 = record {
  rows = steady_rows (pos 0) (1 ∷ 2 ∷ []);
  devs = measured 1 ((2, pos 0) ∷ []) ++ measured 2 ((1, pos 0) ∷ []);
  counts = all_stored 2 5_390_545 0 0 2;
}

abbrev pub quiet_cycle_1 : Record
quiet_cycle_1 = record {
  rows = steady_rows (pos 200_000_000_000) (1 ∷ 2 ∷ []);
  devs = measured 1 ((2, pos 0) ∷ []) ++ measured 2 ((1, pos 0) ∷ []);
  counts = all_stored 2 5_390_545 0 0 2;
}

-- the whole run, the latest cycle first
abbrev pub quiet_history : History
quiet_history = quiet_cycle_1 ∷ quiet_cycle_0 ∷ []

-- what is printed of it
abbrev pub quiet_report : List ℕ
quiet_report =
    says_nodes (codes "3") (codes "3") (codes "1") (codes "1")
    ++ says_precision (codes "252043600")
    ++ says_covered (codes "no count 2 1")
    ++ says_sync (codes "0")
    ++ says_skew (codes "0") (codes "0") (codes "0")
    ++ says_sent (codes "A") (codes "4") (codes "000000")
    ++ says_sent (codes "B") (codes "0") (codes "000000")
    ++ says_heard (codes "4") (codes "0")
    ++ says_cut (codes "0")
    ++ says_node (codes "1") (codes "400000000000") (codes "0") (codes "0")
    ++ says_node (codes "2") (codes "400000000000") (codes "0") (codes "0")

-- the run, worked
abbrev pub worked_quiet : WorkedRun
worked_quiet = record {
  run = quiet_run;
  drift = steady_drift 1;
  script = quiet_script;
  history = quiet_history;
  greatest = record { skew = pos 0; cycle = 0; macrotick = 0 };
  synced = 0;
  gap = Some (Count 2 1);
  report = quiet_report;
}
