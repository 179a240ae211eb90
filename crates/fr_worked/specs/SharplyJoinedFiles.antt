-- The files of two runs that nodes join and whose delays flutter by 250 ticks: without an arbitrary node, and beside one. The older
-- check 7 fails, and the sharper ones of nodes that join hold.
use Rattle.std.specs.Prelude.{◌≡◌, ℕ, pos, neg_ℤ, Bool, true, false, List, [], ◌∷◌, ◌++◌, Option, None, Some, replicate, codes}
use Rattle.fr_cluster.specs.Sane.{IsSane}
use Rattle.fr_cluster.specs.Values.{Values}
use Rattle.fr_cluster.specs.declared.join.Join.{Join}
use Rattle.fr_bound.specs.Checks.{holds_of}
use Rattle.fr_drift.specs.Files.{IsDriftFile}
use Rattle.fr_drift.specs.Keys.{delay_key, length_key}
use Rattle.fr_drift.specs.View.{DriftView}
use Rattle.fr_script.specs.Deeds.{passage_of}
use Rattle.fr_script.specs.Files.{IsScriptFile}
use Rattle.fr_script.specs.declared.deed.Deed.TheVariants.{Say}
use Rattle.fr_coverage.specs.Flutter.{flutter_of}
use Rattle.fr_history.specs.Worked.{on_a}
use Rattle.fr_promise.specs.Statement.{IsRunOf}
use Rattle.fr_runs.specs.Stated.{all_cycles}
use Rattle.fr_sharp.specs.JoinedFiles.{IsSharplyCoveredToJoin, KeepsSharplyJoined}
use Rattle.fr_bound.specs.SharpChecks.{sharp_holds_of}
use Rattle.fr_promise.specs.SharpJoining.{sharp_reach}
use Rattle.fr_sharp.specs.SharpStatement.{has_arbitrary}
use Rattle.fr_promise.specs.SharpTested.{IsFirstSharpSync}
use Rattle.fr_worked.specs.Clusters.{cluster_of}
use Rattle.fr_worked.specs.Files.{no_arbitrary, no_join}
use Rattle.fr_worked.specs.RunFiles.{RunFiles, run_of_files}

-- five nodes, with a rate limit of 84 microticks
abbrev pub wide_cluster : Values
wide_cluster =
    let cluster : Values = cluster_of (on_a 1 ∷ on_a 2 ∷ on_a 3 ∷ on_a 4 ∷ on_a 5 ∷ []) in
    record cluster { rate_limit = pos 84 }

-- five double cycles: nodes 2 and 3 start later, the microticks of nodes 1 and 2 lie 20 ppm apart, and frames of node 1 travel to
-- node 2 for 250 ticks longer in cycle 1 than in cycle 0, and for the longest time that is stated from cycle 2 on
abbrev pub wide_drift_file : List ℕ
wide_drift_file =
    codes "doubles,5,,,,\n"
    ++ codes "start,2,5000000,0,,\n"
    ++ codes "start,3,12000000,0,,\n"
    ++ codes "length,1,0,1000010,,\n"
    ++ codes "length,2,0,999990,,\n"
    ++ codes "delay,1,2,A,0,100000\n"
    ++ codes "delay,1,2,A,1,100250\n"
    ++ codes "delay,1,2,A,2,500000\n"

abbrev pub wide_drift : DriftView
wide_drift = record {
  doubles = 5;
  compensation_a = pos 0;
  compensation_b = pos 0;
  starts = (2, record { ticks = pos 5_000_000; rate = pos 0 }) ∷ (3, record { ticks = pos 12_000_000; rate = pos 0 }) ∷ [];
  lengths = (length_key 1 0, pos 1_000_010) ∷ (length_key 2 0, pos 999_990) ∷ [];
  delays_a = (delay_key 1 2 0, pos 100_000) ∷ (delay_key 1 2 1, pos 100_250) ∷ (delay_key 1 2 2, pos 500_000) ∷ [];
  delays_b = [];
}

-- node 5 listens to node 1 from the beginning
abbrev pub joins_5 : List (Option Join)
joins_5 = replicate 5 no_join ++ Some (record { double = 0; reference = 1 }) ∷ replicate 59 no_join

-- all nodes are correct
abbrev pub alone_files : RunFiles
alone_files = record {
  params = wide_cluster;
  drift_file = wide_drift_file;
  drift = wide_drift;
  script_file = codes "join,0,5,1,,,\n";
  script = record { arbitrary = no_arbitrary; joins = joins_5; on_a = []; on_b = [] };
}

-- node 4 is arbitrary, and says its frame 100 microticks late to node 1 and as much early to node 2 in the first double cycle
abbrev pub beside_files : RunFiles
beside_files = record {
  params = wide_cluster;
  drift_file = wide_drift_file;
  drift = wide_drift;
  script_file =
      codes "arbitrary,4,,,,,\n"
      ++ codes "say,0,4,1,A,100000000,\n"
      ++ codes "say,1,4,1,A,100000000,\n"
      ++ codes "say,0,4,2,A,-100000000,\n"
      ++ codes "say,1,4,2,A,-100000000,\n"
      ++ codes "join,0,5,1,,,\n";
  script = record {
    arbitrary = replicate 4 false ++ true ∷ replicate 60 false;
    joins = joins_5;
    on_a =
        (passage_of 4 1 0, Say (pos 100_000_000) None)
        ∷ (passage_of 4 1 1, Say (pos 100_000_000) None)
        ∷ (passage_of 4 2 0, Say (neg_ℤ (pos 100_000_000)) None)
        ∷ (passage_of 4 2 1, Say (neg_ℤ (pos 100_000_000)) None)
        ∷ [];
    on_b = [];
  };
}

-- the files are accepted and sharply covered to join, with the first of the sharper checks too, and their run is in sharp sync in its
-- first double cycle, in which no node follows: all that the sharper promise of runs that nodes join asks for. So it keeps the sharper
-- precision from there on; but an older check of nodes that join fails
pub record KeepSharplyFromTheStart (beside : Bool) (f : RunFiles) (flutter : ℕ) : Type 0 where
  pub sane : IsSane f.params
  pub drift : IsDriftFile f.params f.drift f.drift_file
  pub script : IsScriptFile f.params f.script f.script_file
  pub kind : has_arbitrary f.params f.script ≡ beside
  pub flutters : flutter_of f.params f.drift f.script ≡ flutter
  pub covered : IsSharplyCoveredToJoin f.params f.drift f.script 0 flutter
  pub check : sharp_holds_of 1 flutter (sharp_reach beside f.params flutter) f.params ≡ true
  pub older : holds_of 7 f.params ≡ false
  pub run : IsRunOf (run_of_files f) (all_cycles (run_of_files f))
  pub first : IsFirstSharpSync beside f.params flutter (all_cycles (run_of_files f)) 0
  pub keeps : KeepsSharplyJoined beside (run_of_files f) flutter (all_cycles (run_of_files f)) 0
