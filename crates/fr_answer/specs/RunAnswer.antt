-- What a request for the report of a run reads, and writes: what is kept of the run, in the older sense and in the sharper one.
use Rattle.std.specs.Prelude.{◌≡◌, ◌≤◌, ℕ, pos, true, List}
use Rattle.fr_cluster.specs.Values.{Values}
use Rattle.fr_coverage.specs.Decided.{setting_of}
use Rattle.fr_drift.specs.View.{DriftView}
use Rattle.fr_program.specs.Command.{Command}
use Rattle.fr_report.specs.Files.{run_command}
use Rattle.fr_report.specs.Names.{RunNames}
use Rattle.fr_report.specs.RunText.{IsRunText}
use Rattle.fr_script.specs.View.{ScriptView}
use Rattle.fr_sharp.specs.JoinedFiles.{IsSharplyCoveredToJoin, KeepsSharplyJoined}
use Rattle.fr_sharp.specs.JoinedLossStatement.{IsCoveredToJoinThroughLosses, KeepsJoinedThroughLosses}
use Rattle.fr_sharp.specs.LossStatement.{IsCoveredThroughLosses, KeepsThroughLosses}
use Rattle.fr_runs.specs.SharpHistories.{IsInSharpSyncAt}
use Rattle.fr_sharp.specs.SharpStatement.{has_arbitrary, IsSharplyCovered, KeepsSharply}
use Rattle.fr_traffic.specs.Traffic.{none_lacks, traffic_in}
use Rattle.fr_promise.specs.SharpTested.{IsUnfollowedSharpSyncAt}

-- a text is the report of the run that the files decide, with the promise of it; and where they are sharply covered from any double
-- cycle on, with any flutter in ticks, the same run keeps the sharper precision from each double cycle in sharp sync on from there; so it
-- does where they are sharply covered to join, whoever joins, from each one in which no node follows; and where they are covered through
-- losses, with any reach in ticks, it keeps to the numbers by what is heard, whatever frames are lost, from each double cycle in sharp
-- sync on in which no node lacks values; where they are covered to join through losses, so it does whoever joins, from each one in which
-- no node follows, and whoever listens where its reference's frames come to it joins
pub record IsKeptRunText (params : Values) (drift : DriftView) (script : ScriptView) (text : List ℕ) : Type 0 where
  pub report : IsRunText params drift script text
  pub sharply :
      (from flutter double : ℕ) → IsSharplyCovered params drift script from flutter → from ≤ double
      → IsInSharpSyncAt (has_arbitrary params script) params flutter (pos 0) report.cycles double
      → KeepsSharply (has_arbitrary params script) (setting_of params drift script) flutter report.cycles double
  pub joined :
      (from flutter double : ℕ) → IsSharplyCoveredToJoin params drift script from flutter → from ≤ double
      → IsUnfollowedSharpSyncAt (has_arbitrary params script) params flutter report.cycles double
      → KeepsSharplyJoined (has_arbitrary params script) (setting_of params drift script) flutter report.cycles double
  pub through_losses :
      (from flutter reach double : ℕ) → IsCoveredThroughLosses params drift script from flutter reach → from ≤ double
      → IsInSharpSyncAt (has_arbitrary params script) params flutter (pos 0) report.cycles double
      → none_lacks (traffic_in params script) double ≡ true
      → KeepsThroughLosses params drift script flutter report.cycles double
  pub joined_through_losses :
      (from flutter reach double : ℕ) → IsCoveredToJoinThroughLosses params drift script from flutter reach → from ≤ double
      → IsUnfollowedSharpSyncAt (has_arbitrary params script) params flutter report.cycles double
      → KeepsJoinedThroughLosses params drift script flutter report.cycles double

abbrev pub kept_run_command : RunNames → Command
kept_run_command names = run_command IsKeptRunText names
