-- A run of two nodes whose clocks start two and a half microticks apart.
use Rattle.std.specs.Prelude.{ℕ, ◌==◌, pos, negsuc, false, List, [], ◌∷◌, ◌++◌, codes, if◌then◌else◌, None}
use Rattle.fr_base.specs.Event.Event.{Regular}
use Rattle.fr_base.specs.declared.channel.Channel.TheVariants.{A}
use Rattle.fr_drift.specs.View.{DriftView}
use Rattle.fr_cluster.specs.Setting.{Setting}
use Rattle.fr_history.specs.History.{History, Record}
use Rattle.fr_worked.specs.Clusters.{cluster_of}
use Rattle.fr_history.specs.Worked.{on_a}
use Rattle.fr_worked.specs.Entries.{all_stored, row_with}
use Rattle.fr_base.specs.Rows.{dev_with}
use Rattle.fr_worked.specs.Files.{steady_drift, plain_script}
use Rattle.fr_worked.specs.Wording.{says_covered, says_cut, says_heard, says_node, says_nodes, says_precision, says_sent, says_skew, says_sync}
use Rattle.fr_worked.specs.Working.{WorkedRun}

-- two double cycles; node 2 starts later
abbrev pub offset_run : Setting
offset_run = record {
  params = cluster_of (on_a 1 ∷ on_a 2 ∷ []);
  doubles = 2;
  start = λ node. if node == 2 then pos 2_500_000 else pos 0;
  rate = λ _. pos 0;
  microtick = λ _ _. pos 1_000_000;
  delay = λ _ _ _ _. pos 0;
  is_arbitrary = λ _. false;
  event = λ _ _ _ _. Regular;
  join = λ _. None;
}

-- its drift file; its script has no rows
abbrev pub offset_drift : DriftView
offset_drift =
    let plain : DriftView = steady_drift 2 in record plain { starts = (2, record { ticks = pos 2_500_000; rate = pos 0 }) ∷ [] }

-- node 1 measures 2 microticks, node 2 measures -3
abbrev pub offset_cycle_0 : Record
offset_cycle_0 = record {
  rows = row_with 1 (pos 0) (pos 1_000_000) (pos 0) (pos 0) ∷ row_with 2 (pos 2_500_000) (pos 1_000_000) (pos 0) (pos 0) ∷ [];
  devs = dev_with 1 2 A (pos 2) ∷ dev_with 2 1 A (negsuc 2) ∷ [];
  counts = all_stored 2 5_390_545 0 0 2;
}

-- the offset terms are 1 and -1
abbrev pub offset_cycle_1 : Record
offset_cycle_1 = record {
  rows =
      row_with 1 (pos 200_000_000_000) (pos 1_000_000) (pos 0) (pos 1)
      ∷ row_with 2 (pos 200_002_500_000) (pos 1_000_000) (pos 0) (negsuc 0)
      ∷ [];
  devs = dev_with 1 2 A (pos 2) ∷ dev_with 2 1 A (negsuc 2) ∷ [];
  counts = all_stored 2 5_390_545 0 0 2;
}

-- half a microtick remains
abbrev pub offset_cycle_2 : Record
offset_cycle_2 = record {
  rows =
      row_with 1 (pos 400_001_000_000) (pos 1_000_000) (pos 0) (pos 0)
      ∷ row_with 2 (pos 400_001_500_000) (pos 1_000_000) (pos 0) (pos 0)
      ∷ [];
  devs = dev_with 1 2 A (pos 0) ∷ dev_with 2 1 A (negsuc 0) ∷ [];
  counts = all_stored 2 5_390_545 0 0 2;
}

abbrev pub offset_cycle_3 : Record
offset_cycle_3 = record {
  rows =
      row_with 1 (pos 600_001_000_000) (pos 1_000_000) (pos 0) (pos 0)
      ∷ row_with 2 (pos 600_001_500_000) (pos 1_000_000) (pos 0) (pos 0)
      ∷ [];
  devs = dev_with 1 2 A (pos 0) ∷ dev_with 2 1 A (negsuc 0) ∷ [];
  counts = all_stored 2 5_390_545 0 0 2;
}

-- the whole run, the latest cycle first
abbrev pub offset_history : History
offset_history = offset_cycle_3 ∷ offset_cycle_2 ∷ offset_cycle_1 ∷ offset_cycle_0 ∷ []

-- what is printed of it
abbrev pub offset_report : List ℕ
offset_report =
    says_nodes (codes "2") (codes "2") (codes "0") (codes "2")
    ++ says_precision (codes "252043600")
    ++ says_covered (codes "yes")
    ++ says_sync (codes "0")
    ++ says_skew (codes "2500000") (codes "0") (codes "0")
    ++ says_sent (codes "A") (codes "8") (codes "000000")
    ++ says_sent (codes "B") (codes "0") (codes "000000")
    ++ says_heard (codes "8") (codes "0")
    ++ says_cut (codes "0")
    ++ says_node (codes "1") (codes "800001000000") (codes "0") (codes "0")
    ++ says_node (codes "2") (codes "800001500000") (codes "0") (codes "0")

-- the run, worked
abbrev pub worked_offset : WorkedRun
worked_offset = record {
  run = offset_run;
  drift = offset_drift;
  script = plain_script;
  history = offset_history;
  greatest = record { skew = pos 2_500_000; cycle = 0; macrotick = 0 };
  synced = 0;
  gap = None;
  report = offset_report;
}
