-- What a worked run is, and when it is right.
use Rattle.std.specs.Prelude.{◌≡◌, ◌≤ℤ◌, ℕ, pos, List, [], length, map, Option, Some}
use Rattle.fr_bound.specs.Bounds.{precision_of}
use Rattle.fr_drift.specs.View.{DriftView}
use Rattle.fr_coverage.specs.Coverage.{first_gap}
use Rattle.fr_coverage.specs.declared.gap.Gap.{Gap}
use Rattle.fr_script.specs.View.{ScriptView}
use Rattle.fr_history.specs.History.{History, Record}
use Rattle.fr_history.specs.Cycles.{Cycle, Cycles}
use Rattle.fr_history.specs.Lawful.{IsLawful}
use Rattle.fr_history.specs.Next.{cycles_of}
use Rattle.fr_history.specs.Unfollowed.{first_unfollowed_sync_of}
use Rattle.fr_cluster.specs.Setting.{Setting}
use Rattle.fr_skew.specs.declared.peak.Peak.{Peak}
use Rattle.fr_history.specs.Skew.{greatest_skew_of}
use Rattle.fr_coverage.specs.Decided.{setting_of}
use Rattle.fr_runs.specs.Whole.{KeepsTogether}
use Rattle.fr_lines.specs.Text.{report_of}

-- a cycle in which none follows, by what is told of it, and such cycles
abbrev pub alone_cycle : Record → Cycle
alone_cycle r = record { told = r; followers = []; follower_devs = [] }

abbrev pub alone_cycles : History → Cycles
alone_cycles h = map alone_cycle h

-- a run that no node joins, the files that decide it, and what is said to come of it: what is told of each cycle, the greatest
-- skew with its first place, the first double cycle in sync, the first gap, and what is printed
pub record WorkedRun : Type 0 where
  pub run : Setting
  pub drift : DriftView
  pub script : ScriptView
  pub history : History
  pub greatest : Peak
  pub synced : ℕ
  pub gap : Option Gap
  pub report : List ℕ

-- it comes of it by the definitions; its gap is that of all files that decide the run
pub record IsAsWritten (w : WorkedRun) : Type 0 where
  pub cycles : cycles_of w.run (length w.history) ≡ alone_cycles w.history
  pub lawful : IsLawful w.run (alone_cycles w.history)
  pub greatest : greatest_skew_of w.run.params w.history ≡ Some w.greatest
  pub synced : first_unfollowed_sync_of w.run.params (alone_cycles w.history) ≡ Some w.synced
  pub files : setting_of w.run.params w.drift w.script ≡ w.run
  pub gap : (d : DriftView) (s : ScriptView) → setting_of w.run.params d s ≡ w.run → first_gap w.run.params d s ≡ w.gap
  pub report : report_of w.run w.gap (alone_cycles w.history) ≡ w.report

-- from its first double cycle in sync on it keeps its precision, by the law; and by computing its greatest skew is at most that
pub record WorkedRunKeepsPrecision (w : WorkedRun) : Type 0 where
  pub kept : KeepsTogether w.run (alone_cycles w.history) w.synced
  pub greatest : w.greatest.skew ≤ℤ pos (precision_of w.run.params)
