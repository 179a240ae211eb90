-- The files of a run that node 5 joins and that loses frames while it follows and when it has come to take part, and what they promise.
use Rattle.std.specs.Prelude.{◌≡◌, ℕ, [], ◌∷◌, ◌++◌, codes}
use Rattle.fr_bound.specs.declared.judging.Heard.TheVariants as heard
use Rattle.fr_cluster.specs.Sane.{IsSane}
use Rattle.fr_drift.specs.Files.{IsDriftFile}
use Rattle.fr_script.specs.Deeds.{passage_of}
use Rattle.fr_script.specs.Files.{IsScriptFile}
use Rattle.fr_script.specs.declared.deed.Deed.{Deed}
use Rattle.fr_script.specs.declared.deed.Deed.TheVariants as deed
use Rattle.fr_script.specs.declared.deeds.Passage.{Passage}
use Rattle.fr_history.specs.Cycles.{Cycles}
use Rattle.fr_precision.specs.Among.{both}
use Rattle.fr_precision.specs.declared.kinds.Kinds.{Kinds}
use Rattle.fr_promise.specs.JoinedHistories.{KeepsJoined}
use Rattle.fr_promise.specs.SharpTested.{IsUnfollowedSharpSyncAt}
use Rattle.fr_promise.specs.Statement.{IsRunOf}
use Rattle.fr_runs.specs.Stated.{all_cycles}
use Rattle.fr_runs.specs.Whole.{IsJoined}
use Rattle.fr_sharp.specs.JoinedLossStatement.{IsCoveredToJoinThroughLosses, KeepsJoinedThroughLosses}
use Rattle.fr_sharp.specs.SharpStatement.{has_arbitrary}
use Rattle.fr_traffic.specs.Traffic.{heard_in, traffic_in}
use Rattle.fr_worked.specs.Files.{no_arbitrary}
use Rattle.fr_worked.specs.RunFiles.{RunFiles, run_of_files}
use Rattle.fr_worked.specs.SharplyJoinedFiles.{joins_5, wide_cluster, wide_drift, wide_drift_file}

abbrev pub lost_in : ℕ → ℕ → ℕ → Passage × Deed
lost_in cycle sender receiver = (passage_of sender receiver cycle, deed.Lose)

-- five double cycles, and node 5 listens to node 1 in the first one. It follows in cycles 2 to 5: of cycle 3 every frame is lost but that
-- of node 1 to node 5; and it takes part from cycle 6 on: of this one its own frames are lost
abbrev pub joining_files : RunFiles
joining_files = record {
  params = wide_cluster;
  drift_file = wide_drift_file;
  drift = wide_drift;
  script_file =
      codes "join,0,5,1,,,\n"
      ++ codes "lose,3,1,2,A,,\nlose,3,1,3,A,,\nlose,3,1,4,A,,\n"
      ++ codes "lose,3,2,1,A,,\nlose,3,2,3,A,,\nlose,3,2,4,A,,\nlose,3,2,5,A,,\n"
      ++ codes "lose,3,3,1,A,,\nlose,3,3,2,A,,\nlose,3,3,4,A,,\nlose,3,3,5,A,,\n"
      ++ codes "lose,3,4,1,A,,\nlose,3,4,2,A,,\nlose,3,4,3,A,,\nlose,3,4,5,A,,\n"
      ++ codes "lose,6,5,1,A,,\nlose,6,5,2,A,,\nlose,6,5,3,A,,\nlose,6,5,4,A,,\n";
  script = record {
    arbitrary = no_arbitrary;
    joins = joins_5;
    on_a =
        lost_in 3 1 2 ∷ lost_in 3 1 3 ∷ lost_in 3 1 4 ∷ lost_in 3 2 1 ∷ lost_in 3 2 3 ∷ lost_in 3 2 4 ∷ lost_in 3 2 5 ∷ lost_in 3 3 1
        ∷ lost_in 3 3 2 ∷ lost_in 3 3 4 ∷ lost_in 3 3 5 ∷ lost_in 3 4 1 ∷ lost_in 3 4 2 ∷ lost_in 3 4 3 ∷ lost_in 3 4 5 ∷ lost_in 6 5 1
        ∷ lost_in 6 5 2 ∷ lost_in 6 5 3 ∷ lost_in 6 5 4 ∷ [];
    on_b = [];
  };
}

abbrev pub joining_hears : ℕ → Kinds
joining_hears double = heard_in (traffic_in wide_cluster joining_files.script) double

-- the files are accepted and have a run; in double cycle 1 each node trusts what little it has, and in double cycle 3 all is heard of
-- offsets, and of rates lists meet; and they are covered to join through losses from the start on, with a reach of 69,549,919 ticks
pub record JoiningFilesLose : Type 0 where
  pub sane : IsSane wide_cluster
  pub drift : IsDriftFile wide_cluster wide_drift wide_drift_file
  pub script : IsScriptFile wide_cluster joining_files.script joining_files.script_file
  pub run : IsRunOf (run_of_files joining_files) (all_cycles (run_of_files joining_files))
  pub hears_0 : joining_hears 0 ≡ both heard.Clean
  pub hears_1 : joining_hears 1 ≡ both heard.Poor
  pub hears_2 : joining_hears 2 ≡ both heard.Clean
  pub hears_3 : joining_hears 3 ≡ record { offsets = heard.Clean; rates = heard.Meeting }
  pub hears_4 : joining_hears 4 ≡ both heard.Clean
  pub covered : IsCoveredToJoinThroughLosses wide_cluster wide_drift joining_files.script 0 250 69_549_919

-- so their run, which is in sharp sync in double cycle 0, keeps from there on what is promised of it, by these numbers, in ticks; and
-- node 5 follows in cycles 2 to 5 and takes part from cycle 6 on
pub record JoiningFilesKeep (h : Cycles) : Type 0 where
  pub synced : IsUnfollowedSharpSyncAt (has_arbitrary wide_cluster joining_files.script) wide_cluster 250 h 0
  pub keeps : KeepsJoinedThroughLosses wide_cluster wide_drift joining_files.script 250 h 0
  pub keeps_0 : KeepsJoined (run_of_files joining_files) h 0 39_009_094
  pub keeps_1 : KeepsJoined (run_of_files joining_files) h 1 42_009_494
  pub keeps_2 : KeepsJoined (run_of_files joining_files) h 2 85_020_086
  pub keeps_3 : KeepsJoined (run_of_files joining_files) h 3 49_011_592
  pub keeps_4 : KeepsJoined (run_of_files joining_files) h 4 50_011_792
  pub joins : IsJoined h 5 (record { double = 0; reference = 1 })
