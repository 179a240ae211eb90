-- The run with an offset once more, with one frame of node 1 hit on its way to node 2 in the last cycle.
use Rattle.std.specs.Prelude.{ℕ, ◌==◌, ◌&&◌, pos, negsuc, List, [], ◌∷◌, if◌then◌else◌, ◌++◌, codes, None, Some}
use Rattle.fr_base.specs.Event.{Event}
use Rattle.fr_base.specs.Event.Event.{Regular, Silent, Flip}
use Rattle.fr_base.specs.declared.channel.Channel.{Channel}
use Rattle.fr_base.specs.declared.channel.Channel.TheVariants.{A, B}
use Rattle.fr_base.specs.declared.cycle_row.Counts.{Counts}
use Rattle.fr_script.specs.Deeds.{passage_of}
use Rattle.fr_script.specs.View.{ScriptView}
use Rattle.fr_script.specs.declared.deed.Deed.{Deed}
use Rattle.fr_script.specs.declared.deed.Deed.TheVariants as deed
use Rattle.fr_cluster.specs.Setting.{Setting}
use Rattle.fr_history.specs.History.{History, Record}
use Rattle.fr_worked.specs.Clusters.{cluster_of, on_both}
use Rattle.fr_worked.specs.Entries.{all_stored}
use Rattle.fr_base.specs.Rows.{dev_with}
use Rattle.fr_worked.specs.Files.{no_arbitrary, no_joins, only_on_a}
use Rattle.fr_worked.specs.Offset.{offset_cycle_0, offset_cycle_1, offset_cycle_2, offset_cycle_3, offset_run, offset_drift}
use Rattle.fr_worked.specs.Wording.{says_covered, says_cut, says_heard, says_node, says_nodes, says_precision, says_sent, says_skew, says_sync}
use Rattle.fr_worked.specs.Working.{WorkedRun}
use Rattle.fr_coverage.specs.declared.gap.Gap.TheVariants.{Link}

-- an event of the one frame that is hit
abbrev pub hit_by : Event → ℕ → ℕ → ℕ → Channel → Event
hit_by event cycle sender receiver channel =
    if (cycle == 3) && (sender == 1) && (receiver == 2) then only_on_a event Regular channel else Regular

-- a script with one row, which says what hits it
abbrev pub hit_script : Deed → ScriptView
hit_script hit = record { arbitrary = no_arbitrary; joins = no_joins; on_a = (passage_of 1 2 3, hit) ∷ []; on_b = [] }

-- ---- the frame is lost

abbrev pub lost_run : Setting
lost_run = let run : Setting = offset_run in record run { event = hit_by Silent }

-- its script; its drift file is that of the run with an offset
abbrev pub lost_script : ScriptView
lost_script = hit_script deed.Lose

-- node 2 measures nothing; its offset term is still 0
abbrev pub lost_cycle_3 : Record
lost_cycle_3 =
    let whole : Record = offset_cycle_3 in record whole { devs = dev_with 1 2 A (pos 0) ∷ []; counts = all_stored 2 5_390_545 0 0 1 }

abbrev pub lost_history : History
lost_history = lost_cycle_3 ∷ offset_cycle_2 ∷ offset_cycle_1 ∷ offset_cycle_0 ∷ []

-- what is printed of it
abbrev pub lost_report : List ℕ
lost_report =
    says_nodes (codes "2") (codes "2") (codes "0") (codes "2")
    ++ says_precision (codes "252043600")
    ++ says_covered (codes "no link 1 2 1")
    ++ says_sync (codes "0")
    ++ says_skew (codes "2500000") (codes "0") (codes "0")
    ++ says_sent (codes "A") (codes "8") (codes "000000")
    ++ says_sent (codes "B") (codes "0") (codes "000000")
    ++ says_heard (codes "7") (codes "0")
    ++ says_cut (codes "0")
    ++ says_node (codes "1") (codes "800001000000") (codes "0") (codes "0")
    ++ says_node (codes "2") (codes "800001500000") (codes "0") (codes "0")

-- ---- one bit of the frame is inverted, the first

abbrev pub flipped_run : Setting
flipped_run = let run : Setting = offset_run in record run { event = hit_by (Flip 0) }

-- its script; its drift file is that of the run with an offset
abbrev pub flipped_script : ScriptView
flipped_script = hit_script (deed.Flip 0)

-- node 2 finds it damaged
abbrev pub flipped_cycle_3 : Record
flipped_cycle_3 =
    let lost : Record = lost_cycle_3 in
    let counts : Counts = lost.counts in record lost { counts = record counts { damaged = 1 } }

abbrev pub flipped_history : History
flipped_history = flipped_cycle_3 ∷ offset_cycle_2 ∷ offset_cycle_1 ∷ offset_cycle_0 ∷ []

-- what is printed of it
abbrev pub flipped_report : List ℕ
flipped_report =
    says_nodes (codes "2") (codes "2") (codes "0") (codes "2")
    ++ says_precision (codes "252043600")
    ++ says_covered (codes "no link 1 2 1")
    ++ says_sync (codes "0")
    ++ says_skew (codes "2500000") (codes "0") (codes "0")
    ++ says_sent (codes "A") (codes "8") (codes "000000")
    ++ says_sent (codes "B") (codes "0") (codes "000000")
    ++ says_heard (codes "7") (codes "1")
    ++ says_cut (codes "0")
    ++ says_node (codes "1") (codes "800001000000") (codes "0") (codes "0")
    ++ says_node (codes "2") (codes "800001500000") (codes "0") (codes "0")

-- ---- the frame is lost, and both nodes are on both channels; the files are those of the run where it is lost

abbrev pub lost_on_one_run : Setting
lost_on_one_run = let run : Setting = lost_run in record run { params = cluster_of (on_both 1 ∷ on_both 2 ∷ []) }

abbrev pub lost_on_one_cycle_0 : Record
lost_on_one_cycle_0 =
    let single : Record = offset_cycle_0 in
    record single {
      devs = dev_with 1 2 A (pos 2) ∷ dev_with 1 2 B (pos 2) ∷ dev_with 2 1 A (negsuc 2) ∷ dev_with 2 1 B (negsuc 2) ∷ [];
      counts = all_stored 2 5_390_545 2 5_390_545 4;
    }

abbrev pub lost_on_one_cycle_1 : Record
lost_on_one_cycle_1 =
    let single : Record = offset_cycle_1 in
    record single {
      devs = dev_with 1 2 A (pos 2) ∷ dev_with 1 2 B (pos 2) ∷ dev_with 2 1 A (negsuc 2) ∷ dev_with 2 1 B (negsuc 2) ∷ [];
      counts = all_stored 2 5_390_545 2 5_390_545 4;
    }

abbrev pub lost_on_one_cycle_2 : Record
lost_on_one_cycle_2 =
    let single : Record = offset_cycle_2 in
    record single {
      devs = dev_with 1 2 A (pos 0) ∷ dev_with 1 2 B (pos 0) ∷ dev_with 2 1 A (negsuc 0) ∷ dev_with 2 1 B (negsuc 0) ∷ [];
      counts = all_stored 2 5_390_545 2 5_390_545 4;
    }

-- node 2 still measures on channel B
abbrev pub lost_on_one_cycle_3 : Record
lost_on_one_cycle_3 =
    let single : Record = offset_cycle_3 in
    record single {
      devs = dev_with 1 2 A (pos 0) ∷ dev_with 1 2 B (pos 0) ∷ dev_with 2 1 B (negsuc 0) ∷ [];
      counts = all_stored 2 5_390_545 2 5_390_545 3;
    }

abbrev pub lost_on_one_history : History
lost_on_one_history = lost_on_one_cycle_3 ∷ lost_on_one_cycle_2 ∷ lost_on_one_cycle_1 ∷ lost_on_one_cycle_0 ∷ []

-- what is printed of it
abbrev pub lost_on_one_report : List ℕ
lost_on_one_report =
    says_nodes (codes "2") (codes "2") (codes "0") (codes "2")
    ++ says_precision (codes "252043600")
    ++ says_covered (codes "yes")
    ++ says_sync (codes "0")
    ++ says_skew (codes "2500000") (codes "0") (codes "0")
    ++ says_sent (codes "A") (codes "8") (codes "000000")
    ++ says_sent (codes "B") (codes "8") (codes "000000")
    ++ says_heard (codes "15") (codes "0")
    ++ says_cut (codes "0")
    ++ says_node (codes "1") (codes "800001000000") (codes "0") (codes "0")
    ++ says_node (codes "2") (codes "800001500000") (codes "0") (codes "0")

-- the run, worked
abbrev pub worked_lost : WorkedRun
worked_lost = record {
  run = lost_run;
  drift = offset_drift;
  script = lost_script;
  history = lost_history;
  greatest = record { skew = pos 2_500_000; cycle = 0; macrotick = 0 };
  synced = 0;
  gap = Some (Link 1 2 1);
  report = lost_report;
}

-- the run, worked
abbrev pub worked_flipped : WorkedRun
worked_flipped = record {
  run = flipped_run;
  drift = offset_drift;
  script = flipped_script;
  history = flipped_history;
  greatest = record { skew = pos 2_500_000; cycle = 0; macrotick = 0 };
  synced = 0;
  gap = Some (Link 1 2 1);
  report = flipped_report;
}

-- the run, worked
abbrev pub worked_lost_on_one : WorkedRun
worked_lost_on_one = record {
  run = lost_on_one_run;
  drift = offset_drift;
  script = lost_script;
  history = lost_on_one_history;
  greatest = record { skew = pos 2_500_000; cycle = 0; macrotick = 0 };
  synced = 0;
  gap = None;
  report = lost_on_one_report;
}
