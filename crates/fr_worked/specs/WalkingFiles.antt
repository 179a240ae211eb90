-- The files of three runs in which lengths may walk, so that the first of the sharper checks fails. Where oscillators do not change the
-- walk is held, and what is promised lasts to the end; where they may it lasts for 6 double cycles of 12; and where node 5 joins for 7,
-- by first rates.
use Rattle.std.specs.Prelude.{◌≡◌, ◌-◌, ◌<◌, ◌*◌, ◌<ℤ◌, ◌*ℤ◌, ℕ, pos, false, List, [], ◌++◌, ◌∷◌, None, Some, codes, replicate}
use Rattle.fr_cluster.specs.Sane.{IsSane}
use Rattle.fr_cluster.specs.Values.{Values}
use Rattle.fr_cluster.specs.declared.join.Join.{Join}
use Rattle.fr_drift.specs.Files.{IsDriftFile}
use Rattle.fr_drift.specs.Keys.{delay_key}
use Rattle.fr_drift.specs.Questions.{doubles_of}
use Rattle.fr_drift.specs.View.{DriftView}
use Rattle.fr_script.specs.Files.{IsScriptFile}
use Rattle.fr_script.specs.View.{join_of}
use Rattle.fr_coverage.specs.Flutter.{flutter_of}
use Rattle.fr_promise.specs.Statement.{IsRunOf}
use Rattle.fr_runs.specs.Stated.{all_cycles}
use Rattle.fr_bound.specs.Bounds.{shortest_micro}
use Rattle.fr_bound.specs.SharpBounds.{rate_walk, sharp_near, sharp_precision, walk_lasts}
use Rattle.fr_bound.specs.SharpChecks.{sharp_holds_of}
use Rattle.fr_promise.specs.HeldWalks.{beyond_for_ever, sync_lasts}
use Rattle.fr_sharp.specs.JoinedFiles.{IsSharplyCoveredToJoin, KeepsSharplyJoined}
use Rattle.fr_promise.specs.JoinedHistories.{first_rates_last, IsJoinedUpTo, KeepsJoined}
use Rattle.fr_runs.specs.SharpHistories.{KeepsApart, KeepsSharpPrecision}
use Rattle.fr_sharp.specs.SharpStatement.{has_arbitrary, IsSharplyCovered, KeepsSharply}
use Rattle.fr_promise.specs.SharpTested.{IsFirstSharpSync}
use Rattle.fr_worked.specs.Files.{no_arbitrary, no_join}
use Rattle.fr_worked.specs.RunFiles.{RunFiles, run_of_files}
use Rattle.fr_worked.specs.SharplyJoinedFiles.{joins_5, wide_cluster}

-- five nodes, with a damping of 1 microtick and a rate limit of 84
abbrev pub walking_cluster : Values
walking_cluster = record wide_cluster { damping = pos 1 }

-- the same, whose oscillators may change by 1 ppm from one cycle to the next
abbrev pub changing_cluster : Values
changing_cluster = record walking_cluster { change_bound = pos 1 }

-- twelve double cycles: frames of node 1 travel to node 2 for the shortest time that is stated in cycle 0, and then for the longest
abbrev pub walking_drift_file : List ℕ
walking_drift_file = codes "doubles,12,,,,\n" ++ codes "delay,1,2,A,0,100000\n" ++ codes "delay,1,2,A,1,500000\n"

abbrev pub walking_drift : DriftView
walking_drift = record {
  doubles = 12;
  compensation_a = pos 0;
  compensation_b = pos 0;
  starts = [];
  lengths = [];
  delays_a = (delay_key 1 2 0, pos 100_000) ∷ (delay_key 1 2 1, pos 500_000) ∷ [];
  delays_b = [];
}

-- the same, with a later time that is shorter
abbrev pub changing_drift_file : List ℕ
changing_drift_file = codes "doubles,12,,,,\n" ++ codes "delay,1,2,A,0,100000\n" ++ codes "delay,1,2,A,1,300000\n"

abbrev pub changing_drift : DriftView
changing_drift = record walking_drift { delays_a = (delay_key 1 2 0, pos 100_000) ∷ (delay_key 1 2 1, pos 300_000) ∷ [] }

-- no node joins
abbrev pub walking_files : RunFiles
walking_files = record {
  params = walking_cluster;
  drift_file = walking_drift_file;
  drift = walking_drift;
  script_file = [];
  script = record { arbitrary = no_arbitrary; joins = replicate 65 no_join; on_a = []; on_b = [] };
}

abbrev pub changing_files : RunFiles
changing_files = record walking_files {
  params = changing_cluster;
  drift_file = changing_drift_file;
  drift = changing_drift;
}

-- node 5 listens to node 1 from the beginning
abbrev pub walking_joined_files : RunFiles
walking_joined_files = record {
  params = walking_cluster;
  drift_file = walking_drift_file;
  drift = walking_drift;
  script_file = codes "join,0,5,1,,,\n";
  script = record { arbitrary = no_arbitrary; joins = joins_5; on_a = []; on_b = [] };
}

-- files are accepted, and their run, without arbitrary nodes, is in sharp sync in its first double cycle, in which no node follows; but
-- the first of the sharper checks fails
pub record AreWalking (f : RunFiles) (flutter : ℕ) : Type 0 where
  pub sane : IsSane f.params
  pub drift : IsDriftFile f.params f.drift f.drift_file
  pub script : IsScriptFile f.params f.script f.script_file
  pub kind : has_arbitrary f.params f.script ≡ false
  pub flutters : flutter_of f.params f.drift f.script ≡ flutter
  pub fails : sharp_holds_of 1 flutter (sharp_near false f.params flutter) f.params ≡ false
  pub run : IsRunOf (run_of_files f) (all_cycles (run_of_files f))
  pub first : IsFirstSharpSync false f.params flutter (all_cycles (run_of_files f)) 0

-- no node joins them, they are sharply covered, and the rate limit alone would hold the walk of their lengths for so many double cycles,
-- but not to the end. Yet sharp sync lasts without a number, since the walk is held: so the run keeps the sharper precision to its end
pub record KeepThoughLengthsWalk (f : RunFiles) (flutter lasts : ℕ) : Type 0 where
  pub walking : AreWalking f flutter
  pub covered : IsSharplyCovered f.params f.drift f.script 0 flutter
  pub walks : walk_lasts f.params flutter ≡ Some lasts
  pub short : lasts < doubles_of f.drift
  pub held : sync_lasts f.params flutter ≡ None
  pub always :
      KeepsSharpPrecision false (run_of_files f) flutter (beyond_for_ever f.params flutter) (all_cycles (run_of_files f)) 0

-- no node joins them, they are sharply covered, and sharp sync lasts for so many double cycles, but not to the end, though lengths walk by
-- less than two thirds of a microtick: so the run keeps the sharper precision as long as that, in the last of these too
pub record KeepWhileTheWalkLasts (f : RunFiles) (flutter lasts : ℕ) : Type 0 where
  pub walking : AreWalking f flutter
  pub covered : IsSharplyCovered f.params f.drift f.script 0 flutter
  pub little : (pos 3 *ℤ rate_walk f.params flutter) <ℤ pos (2 * shortest_micro f.params)
  pub ends : sync_lasts f.params flutter ≡ Some lasts
  pub short : lasts < doubles_of f.drift
  pub keeps : KeepsSharply false (run_of_files f) flutter (all_cycles (run_of_files f)) 0
  pub last : KeepsApart (run_of_files f) (all_cycles (run_of_files f)) (lasts - 1) (sharp_precision false f.params flutter)

-- a node joins them, they are sharply covered to join, and first rates last for so many double cycles, but not to the end: so the run
-- keeps the sharper precision as long as that, in the last of these too, and so far the node follows and takes part
pub record KeepWhileFirstRatesLast (f : RunFiles) (flutter lasts node : ℕ) (join : Join) : Type 0 where
  pub walking : AreWalking f flutter
  pub covered : IsSharplyCoveredToJoin f.params f.drift f.script 0 flutter
  pub ends : first_rates_last f.params flutter ≡ Some lasts
  pub short : lasts < doubles_of f.drift
  pub keeps : KeepsSharplyJoined false (run_of_files f) flutter (all_cycles (run_of_files f)) 0
  pub last : KeepsJoined (run_of_files f) (all_cycles (run_of_files f)) (lasts - 1) (sharp_precision false f.params flutter)
  pub listens : join_of f.script node ≡ Some join
  pub joined : IsJoinedUpTo (all_cycles (run_of_files f)) node join (2 * lasts)
