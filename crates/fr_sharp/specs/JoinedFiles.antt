-- What the files of a run that nodes may join promise, where they are sharply covered to join. The words of it, from the top:
-- `IsLawful` (what a run is), `IsSharplyCoveredToJoin` (what is asked of the files), `IsUnfollowedSharpSyncAt`, `FirstRatesLast`,
-- `sharp_precision`, `StaysJoined`, `KeepsJoined`, `CyclesKeepJoined`, `IsJoinedUpTo`, `IsJoined`.
use Rattle.std.specs.Prelude.{◌≡◌, ◌<◌, ◌≤◌, ◌+◌, ◌*◌, ℕ, suc, pos, Bool, true, List, Contains, Some}
use Rattle.fr_cluster.specs.Sane.{IsSane}
use Rattle.fr_cluster.specs.Setting.{Setting, correct_nodes}
use Rattle.fr_cluster.specs.Values.{Values}
use Rattle.fr_cluster.specs.declared.join.Join.{Join}
use Rattle.fr_cluster.specs.declared.nodes.NodeSpec.{NodeSpec}
use Rattle.fr_drift.specs.Files.{DriftFits, IsDriftFile}
use Rattle.fr_drift.specs.View.{DriftView}
use Rattle.fr_script.specs.Files.{IsScriptFile, ScriptFits}
use Rattle.fr_script.specs.View.{ScriptView}
use Rattle.fr_coverage.specs.Decided.{setting_of}
use Rattle.fr_coverage.specs.Flutter.{flutter_from}
use Rattle.fr_coverage.specs.Order.{HasNoGapFrom}
use Rattle.fr_history.specs.Cycles.{Cycles}
use Rattle.fr_promise.specs.Statement.{IsRunOf}
use Rattle.fr_runs.specs.Whole.{IsJoined}
use Rattle.fr_promise.specs.JoinedHistories.{CyclesKeepJoined, FirstRatesLast, FirstRatesLastToEnd, IsJoinedUpTo, KeepsJoined, StaysJoined}
use Rattle.fr_bound.specs.SharpBounds.{sharp_precision}
use Rattle.fr_bound.specs.SharpChecks.{sharp_holds_of}
use Rattle.fr_runs.specs.SharpHistories.{IsInSharpSyncAt}
use Rattle.fr_promise.specs.SharpJoining.{sharp_reach, SharpJoinChecksHold}
use Rattle.fr_sharp.specs.SharpStatement.{has_arbitrary}
use Rattle.fr_promise.specs.SharpTested.{IsUnfollowedSharpSyncAt}

-- the four sharper checks of nodes that join hold, and so those from 2 to 5 (`SharpJoinChecksSuffice`); and from a double cycle on the
-- run itself has no gap, and its delays flutter by no more than so many ticks. Correct nodes may join
pub record IsSharplyCoveredToJoin (p : Values) (d : DriftView) (s : ScriptView) (from flutter : ℕ) : Type 0 where
  pub checks : SharpJoinChecksHold (has_arbitrary p s) flutter p
  pub none : HasNoGapFrom p d s from
  pub flutters : flutter_from p d s from ≤ flutter

-- what is kept from a double cycle on, whoever joins
pub record KeepsSharplyJoined (beside : Bool) (x : Setting) (flutter : ℕ) (h : Cycles) (double : ℕ) : Type 0 where
  -- each double cycle is in sharp sync, with even lengths as far beyond their range as they may have walked, and those that follow
  -- lie near the nodes with rows, as long as first rates have lasted in those before it; and while they last no corresponding
  -- macroticks of nodes with rows lie further apart than the sharper precision, in ticks, no term is cut or missing, of a node with
  -- a row or of one that follows, no row of them tells a cut, and each correct node stands active behind it
  pub keeps :
      (passed : ℕ) → double + passed < x.doubles → ((m : ℕ) → m < passed → FirstRatesLast x.params flutter m)
      → StaysJoined beside x flutter h double passed
  -- where the first of the sharper checks holds too it is so to the end of the run, with even lengths in their
  -- range
  pub always :
      sharp_holds_of 1 flutter (sharp_reach beside x.params flutter) x.params ≡ true → (passed : ℕ) → double + passed < x.doubles
      → IsInSharpSyncAt beside x.params flutter (pos 0) h (double + passed)
      × KeepsJoined x h (double + passed) (sharp_precision beside x.params flutter)
  -- then first rates last to the end of the run
  pub on :
      sharp_holds_of 1 flutter (sharp_reach beside x.params flutter) x.params ≡ true → FirstRatesLastToEnd x flutter double
  -- and where they do it is so by the cycle, to the end of the run
  pub cycles :
      FirstRatesLastToEnd x flutter double → CyclesKeepJoined x h double (sharp_precision beside x.params flutter)
  -- whoever listens in a double cycle e from this one on follows in cycles 2 e + 2 to 2 e + 5, and takes part from 2 e + 6 on, as
  -- far as to the last double cycle before which first rates have lasted
  pub joins_up_to :
      (passed : ℕ) → double + passed < x.doubles → ((m : ℕ) → m < passed → FirstRatesLast x.params flutter m) → (node : NodeSpec) (join : Join)
      → Contains (correct_nodes x) node → x.join node.id ≡ Some join → double ≤ join.double
      → IsJoinedUpTo h node.id join (2 * suc (double + passed))
  -- and to the end of the run where they last to it
  pub joins :
      FirstRatesLastToEnd x flutter double → (node : NodeSpec) (join : Join)
      → Contains (correct_nodes x) node → x.join node.id ≡ Some join → double ≤ join.double → IsJoined h node.id join

-- the promise: of three accepted files that are sharply covered to join from a double cycle on, from each one in sharp sync on from
-- there, in which no node follows
abbrev pub JoinedFilesKeepSharpPrecision : Type 0
JoinedFilesKeepSharpPrecision =
    (p : Values) (d : DriftView) (s : ScriptView) (drift script : List ℕ) (from flutter : ℕ) (h : Cycles) (double : ℕ)
    → IsSane p → IsDriftFile p d drift → IsScriptFile p s script → IsSharplyCoveredToJoin p d s from flutter → IsRunOf (setting_of p d s) h
    → from ≤ double → IsUnfollowedSharpSyncAt (has_arbitrary p s) p flutter h double
    → KeepsSharplyJoined (has_arbitrary p s) (setting_of p d s) flutter h double

-- so it is of any sane parameters, and of a drift and a script that fit them, that are sharply covered to join
abbrev pub CoveredFilesKeepSharplyJoined : Type 0
CoveredFilesKeepSharplyJoined =
    (p : Values) (d : DriftView) (s : ScriptView) (from flutter : ℕ) (h : Cycles) (double : ℕ)
    → IsSane p → DriftFits p d → ScriptFits p s → IsSharplyCoveredToJoin p d s from flutter → IsRunOf (setting_of p d s) h
    → from ≤ double → IsUnfollowedSharpSyncAt (has_arbitrary p s) p flutter h double
    → KeepsSharplyJoined (has_arbitrary p s) (setting_of p d s) flutter h double
