-- The files of a worked run whose delays flutter by 250 ticks, and what they promise.
use Rattle.std.specs.Prelude.{◌≡◌, pos, Bool, true, false, [], ◌∷◌, ◌++◌, replicate, Option, None, Some}
use Rattle.fr_cluster.specs.declared.join.Join.{Join}
use Rattle.fr_coverage.specs.Coverage.{some_join}
use Rattle.fr_coverage.specs.Decided.{setting_of}
use Rattle.fr_coverage.specs.Flutter.{flutter_of}
use Rattle.fr_drift.specs.Keys.{delay_key, length_key}
use Rattle.fr_drift.specs.View.{DriftView}
use Rattle.fr_history.specs.Cycles.{Cycles}
use Rattle.fr_promise.specs.Statement.{IsRunOf}
use Rattle.fr_script.specs.View.{ScriptView}
use Rattle.fr_sharp.specs.JoinedFiles.{IsSharplyCoveredToJoin}
use Rattle.fr_bound.specs.SharpChecks.{sharp_holds_of}
use Rattle.fr_runs.specs.SharpHistories.{IsInSharpSyncAt, KeepsSharpPrecision}
use Rattle.fr_promise.specs.SharpJoining.{sharp_reach}
use Rattle.fr_sharp.specs.SharpStatement.{has_arbitrary, IsSharplyCovered, KeepsSharply}
use Rattle.fr_sharp.specs.WorkedRun.{steady_cluster}

-- three double cycles: nodes 2 and 3 start later, the microticks of nodes 1 and 2 lie 20 ppm apart, and frames of node 1 travel to
-- node 2 for 250 ticks longer in cycle 1 than in cycle 0, and for the longest time that is stated from cycle 2 on
abbrev pub fluttering_drift : DriftView
fluttering_drift = record {
  doubles = 3;
  compensation_a = pos 7;
  compensation_b = pos 7;
  starts = (2, record { ticks = pos 9_000_000; rate = pos 0 }) ∷ (3, record { ticks = pos 18_000_000; rate = pos 0 }) ∷ [];
  lengths = (length_key 1 0, pos 1_000_010) ∷ (length_key 2 0, pos 999_990) ∷ [];
  delays_a = (delay_key 1 2 0, pos 2_000_000) ∷ (delay_key 1 2 1, pos 2_000_250) ∷ (delay_key 1 2 2, pos 12_000_000) ∷ [];
  delays_b = [];
}

-- no node joins and nothing is done to frames; node 4 is correct, or arbitrary and silent
abbrev pub marking_script : Bool → ScriptView
marking_script beside = record {
  arbitrary = replicate 4 false ++ beside ∷ replicate 60 false;
  joins = let none : Option Join = None in replicate 65 none;
  on_a = [];
  on_b = [];
}

-- their flutter is 250 ticks, they say whether there is an arbitrary node, and they are sharply covered
abbrev pub FlutteringFilesAreCovered : Type 0
FlutteringFilesAreCovered =
    (beside : Bool)
    → (flutter_of steady_cluster fluttering_drift (marking_script beside) ≡ 250)
    × (has_arbitrary steady_cluster (marking_script beside) ≡ beside)
    × IsSharplyCovered steady_cluster fluttering_drift (marking_script beside) 0 250

-- their run is in sharp sync from the start on, and keeps the sharper precision to the end
abbrev pub FlutteringFilesKeepSharply : Type 0
FlutteringFilesKeepSharply =
    (beside : Bool) (h : Cycles) → IsRunOf (setting_of steady_cluster fluttering_drift (marking_script beside)) h
    → IsInSharpSyncAt beside steady_cluster 250 (pos 0) h 0
    × KeepsSharply beside (setting_of steady_cluster fluttering_drift (marking_script beside)) 250 h 0
    × KeepsSharpPrecision beside (setting_of steady_cluster fluttering_drift (marking_script beside)) 250 (pos 0) h 0

-- node 4 joins instead: it listens to node 1 in double cycle 0
abbrev pub joining_script : ScriptView
joining_script = record {
  arbitrary = replicate 65 false;
  joins =
      let none : Option Join = None in
      let some : Option Join = Some (record { reference = 1; double = 0 }) in
      replicate 4 none ++ some ∷ replicate 60 none;
  on_a = [];
  on_b = [];
}

-- so the files are sharply covered to join
abbrev pub JoiningFilesAreCovered : Type 0
JoiningFilesAreCovered =
    (some_join steady_cluster joining_script ≡ true) × (flutter_of steady_cluster fluttering_drift joining_script ≡ 250)
    × IsSharplyCoveredToJoin steady_cluster fluttering_drift joining_script 0 250
    × (sharp_holds_of 1 250 (sharp_reach false steady_cluster 250) steady_cluster ≡ true)
