-- The drift file and the script of a worked run with the parameters of its cluster, and when the headline speaks of it.
use Rattle.std.specs.Prelude.{◌≡◌, ◌<◌, ◌+◌, ◌*◌, ℕ, List, None, Some}
use Rattle.fr_cluster.specs.Sane.{IsSane}
use Rattle.fr_cluster.specs.Setting.{Setting}
use Rattle.fr_cluster.specs.Values.{Values}
use Rattle.fr_cluster.specs.declared.join.Join.{Join}
use Rattle.fr_drift.specs.Files.{IsDriftFile}
use Rattle.fr_drift.specs.Questions.{doubles_of}
use Rattle.fr_drift.specs.View.{DriftView}
use Rattle.fr_script.specs.Files.{IsScriptFile}
use Rattle.fr_script.specs.View.{ScriptView, join_of}
use Rattle.fr_coverage.specs.Coverage.{first_gap}
use Rattle.fr_coverage.specs.Decided.{setting_of}
use Rattle.fr_history.specs.Unfollowed.{IsFirstUnfollowedSync}
use Rattle.fr_promise.specs.Statement.{IsRunOf, KeepsPrecision}
use Rattle.fr_runs.specs.Stated.{all_cycles}
use Rattle.fr_runs.specs.Whole.{IsJoined}

-- the bytes of both files, and what they stand for
pub record RunFiles : Type 0 where
  pub params : Values
  pub drift_file : List ℕ
  pub drift : DriftView
  pub script_file : List ℕ
  pub script : ScriptView

-- the run that they decide
abbrev pub run_of_files : RunFiles → Setting
run_of_files f = setting_of f.params f.drift f.script

-- the files are accepted and have no gap, and their run is in sync in its first double cycle, in which no node follows: all that the
-- headline asks for. So the run keeps its precision from there on
pub record KeepFromTheStart (f : RunFiles) : Type 0 where
  pub sane : IsSane f.params
  pub drift : IsDriftFile f.params f.drift f.drift_file
  pub script : IsScriptFile f.params f.script f.script_file
  pub none : first_gap f.params f.drift f.script ≡ None
  pub run : IsRunOf (run_of_files f) (all_cycles (run_of_files f))
  pub first : IsFirstUnfollowedSync f.params (all_cycles (run_of_files f)) 0
  pub keeps : KeepsPrecision (run_of_files f) (all_cycles (run_of_files f)) 0

-- a node listens so, and soon enough that it takes part before the run ends: it follows in four cycles, and has a row in each cycle
-- behind these
pub record JoinsInTime (f : RunFiles) (node : ℕ) (join : Join) : Type 0 where
  pub listens : join_of f.script node ≡ Some join
  pub soon : 2 * join.double + 6 < 2 * doubles_of f.drift
  pub joined : IsJoined (all_cycles (run_of_files f)) node join
