-- A run of two nodes whose oscillators lie 200 ticks in a million apart.
use Rattle.std.specs.Prelude.{ℕ, ◌==◌, pos, negsuc, false, List, [], ◌∷◌, ◌++◌, codes, if◌then◌else◌, None}
use Rattle.fr_base.specs.Event.Event.{Regular}
use Rattle.fr_base.specs.declared.channel.Channel.TheVariants.{A}
use Rattle.fr_drift.specs.Keys.{length_key}
use Rattle.fr_drift.specs.View.{DriftView}
use Rattle.fr_cluster.specs.Setting.{Setting}
use Rattle.fr_history.specs.History.{History, Record}
use Rattle.fr_worked.specs.Clusters.{cluster_of}
use Rattle.fr_history.specs.Worked.{on_a}
use Rattle.fr_worked.specs.Entries.{all_stored, row_with}
use Rattle.fr_base.specs.Rows.{dev_with}
use Rattle.fr_worked.specs.Files.{steady_drift, plain_script}
use Rattle.fr_worked.specs.Wording.{says_covered, says_cut, says_heard, says_node, says_nodes, says_precision, says_sent, says_skew, says_sync}
use Rattle.fr_worked.specs.Working.{WorkedRun}

-- two double cycles; the microtick of node 1 is long and that of node 2 short
abbrev pub rates_run : Setting
rates_run = record {
  params = cluster_of (on_a 1 ∷ on_a 2 ∷ []);
  doubles = 2;
  start = λ _. pos 0;
  rate = λ _. pos 0;
  microtick = λ node _. if node == 1 then pos 1_000_100 else if node == 2 then pos 999_900 else pos 1_000_000;
  delay = λ _ _ _ _. pos 0;
  is_arbitrary = λ _. false;
  event = λ _ _ _ _. Regular;
  join = λ _. None;
}

-- its drift file; its script has no rows
abbrev pub rates_drift : DriftView
rates_drift =
    let plain : DriftView = steady_drift 2 in
    record plain { lengths = (length_key 1 0, pos 1_000_100) ∷ (length_key 2 0, pos 999_900) ∷ [] }

abbrev pub rates_cycle_0 : Record
rates_cycle_0 = record {
  rows =
      row_with 1 (pos 0) (pos 1_000_100) (pos 0) (pos 0)
      ∷ row_with 2 (pos 0) (pos 999_900) (pos 0) (pos 0)
      ∷ [];
  devs =
      dev_with 1 2 A (negsuc 0)
      ∷ dev_with 2 1 A (pos 0)
      ∷ [];
  counts = all_stored 2 5_390_545 0 0 2;
}

-- the offset terms are -20 and 20
abbrev pub rates_cycle_1 : Record
rates_cycle_1 = record {
  rows =
      row_with 1 (pos 200_020_000_000) (pos 1_000_100) (pos 0) (negsuc 19)
      ∷ row_with 2 (pos 199_980_000_000) (pos 999_900) (pos 0) (pos 20)
      ∷ [];
  devs =
      dev_with 1 2 A (negsuc 40)
      ∷ dev_with 2 1 A (pos 40)
      ∷ [];
  counts = all_stored 2 5_390_545 0 0 2;
}

-- the rate terms are -16 and 16
abbrev pub rates_cycle_2 : Record
rates_cycle_2 = record {
  rows =
      row_with 1 (pos 400_019_998_000) (pos 1_000_100) (negsuc 15) (pos 0)
      ∷ row_with 2 (pos 399_979_998_000) (pos 999_900) (pos 16) (pos 0)
      ∷ [];
  devs =
      dev_with 1 2 A (negsuc 39)
      ∷ dev_with 2 1 A (pos 39)
      ∷ [];
  counts = all_stored 2 5_390_545 0 0 2;
}

-- the offset terms are -24 and 23
abbrev pub rates_cycle_3 : Record
rates_cycle_3 = record {
  rows =
      row_with 1 (pos 600_023_996_400) (pos 1_000_100) (negsuc 15) (negsuc 23)
      ∷ row_with 2 (pos 599_975_996_400) (pos 999_900) (pos 16) (pos 23)
      ∷ [];
  devs =
      dev_with 1 2 A (negsuc 47)
      ∷ dev_with 2 1 A (pos 47)
      ∷ [];
  counts = all_stored 2 5_390_545 0 0 2;
}

-- the whole run, the latest cycle first
abbrev pub rates_history : History
rates_history = rates_cycle_3 ∷ rates_cycle_2 ∷ rates_cycle_1 ∷ rates_cycle_0 ∷ []

-- what is printed of it
abbrev pub rates_report : List ℕ
rates_report =
    says_nodes (codes "2") (codes "2") (codes "0") (codes "2")
    ++ says_precision (codes "252043600")
    ++ says_covered (codes "yes")
    ++ says_sync (codes "1")
    ++ says_skew (codes "79200000") (codes "1") (codes "4900")
    ++ says_sent (codes "A") (codes "8") (codes "000000")
    ++ says_sent (codes "B") (codes "0") (codes "000000")
    ++ says_heard (codes "8") (codes "0")
    ++ says_cut (codes "0")
    ++ says_node (codes "1") (codes "800003992400") (codes "-16") (codes "-24")
    ++ says_node (codes "2") (codes "799994992500") (codes "16") (codes "23")

-- the run, worked
abbrev pub worked_rates : WorkedRun
worked_rates = record {
  run = rates_run;
  drift = rates_drift;
  script = plain_script;
  history = rates_history;
  greatest = record { skew = pos 79_200_000; cycle = 1; macrotick = 4_900 };
  synced = 1;
  gap = None;
  report = rates_report;
}
