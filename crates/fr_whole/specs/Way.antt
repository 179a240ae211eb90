-- When the clocks of a run that begin apart are in sync, and how far they lie apart on the way.
use Rattle.std.specs.Prelude.{◌≡◌, false, ℕ, suc, ◌*◌, ◌<◌, ◌≤◌, ◌≤ℤ◌, pos, All, Some}
use Rattle.fr_base.specs.declared.state.State.TheVariants.{Active}
use Rattle.fr_cluster.specs.Values.{Values, amount}
use Rattle.fr_cluster.specs.Sane.{IsSane}
use Rattle.fr_cluster.specs.Setting.{Setting}
use Rattle.fr_cluster.specs.declared.names.ParamName.TheVariants as name
use Rattle.fr_bound.specs.Settling.{AllSettleChecksHold, IsPeakTo, SettlesAt}
use Rattle.fr_drift.specs.Files.{DriftFits}
use Rattle.fr_drift.specs.Questions.{doubles_of}
use Rattle.fr_drift.specs.View.{DriftView}
use Rattle.fr_script.specs.View.{ScriptView}
use Rattle.fr_coverage.specs.Decided.{setting_of}
use Rattle.fr_coverage.specs.Order.{HasNoGap}
use Rattle.fr_precision.specs.Step.{AreSpread}
use Rattle.fr_history.specs.History.{History, Record, record_at}
use Rattle.fr_history.specs.Skew.{skew_at}
use Rattle.fr_history.specs.Sync.{IsInSyncAt}
use Rattle.fr_history.specs.Cycles.{Cycles, some_joins, told_of}
use Rattle.fr_history.specs.Unfollowed.{first_unfollowed_sync_of}
use Rattle.fr_runs.specs.Rounds.{RatesBegin}
use Rattle.fr_runs.specs.Supplied.{IsCovered}
use Rattle.fr_promise.specs.Statement.{IsRunOf}

-- what is computed of clocks that begin so far apart: the double cycle and the peak, with which every check for the way
-- holds
pub record SettlesBy (p : Values) (start rate double peak : ℕ) : Type 0 where
  pub settles : SettlesAt p start rate double
  pub peak_is : IsPeakTo p start rate double peak
  pub checks : AllSettleChecksHold p peak

-- what is told of a run begins so: in its first double cycle all nodes with rows are active, their starts of cycle 0 lie at
-- most so many ticks apart, and the lengths of both cycles so many, and in their range
pub record BeginsWithin (p : Values) (h : History) (start rate : ℕ) : Type 0 where
  pub even : Record
  pub odd : Record
  pub has_even : record_at h 0 ≡ Some even
  pub has_odd : record_at h 1 ≡ Some odd
  pub active_even : All (λ row. row.state ≡ Active) even.rows
  pub active_odd : All (λ row. row.state ≡ Active) odd.rows
  pub spread : AreSpread p (pos start) (pos rate) even.rows odd.rows

-- it is in sync in the double cycle, and no macrotick up to the end of that lies further apart than the peak
pub record ComesIntoSync (p : Values) (h : History) (double peak : ℕ) : Type 0 where
  pub in_sync : IsInSyncAt p h double
  pub skew :
      (cycle macrotick : ℕ) → cycle < 2 * suc double → macrotick < amount p name.gMacroPerCycle
      → skew_at p h cycle macrotick ≤ℤ pos peak

-- so does a covered run that no node joins
abbrev pub RunsSettle : Type 0
RunsSettle =
    (x : Setting) (h : Cycles) (start rate double peak : ℕ)
    → IsCovered x → RatesBegin x → some_joins x ≡ false → IsRunOf x h
    → SettlesBy x.params start rate double peak → double < x.doubles
    → BeginsWithin x.params (told_of h) start rate → ComesIntoSync x.params (told_of h) double peak

-- the first double cycle in sync in which none follows is there, and no later
pub record IsSyncedBy (p : Values) (h : Cycles) (double : ℕ) : Type 0 where
  pub found : ℕ
  pub is : first_unfollowed_sync_of p h ≡ Some found
  pub by : found ≤ double

-- so does the run of files without a gap that no node joins
abbrev pub FilesSettle : Type 0
FilesSettle =
    (p : Values) (d : DriftView) (s : ScriptView) (h : Cycles) (start rate double peak : ℕ)
    → IsSane p → DriftFits p d → some_joins (setting_of p d s) ≡ false → HasNoGap p d s
    → IsRunOf (setting_of p d s) h → SettlesBy p start rate double peak → double < doubles_of d
    → BeginsWithin p (told_of h) start rate → ComesIntoSync p (told_of h) double peak × IsSyncedBy p h double
