-- The run of files without a gap keeps its precision, whoever joins.
use Rattle.std.proofs.Common.{◌≡◌, ℕ, ◌+◌, ◌*◌, List, ℤ, pos, ◌≤ℤ◌, Some, ap, ◌∙◌, subst, arith}
use Rattle.std.specs.Option.{option_map}
use Rattle.std.proofs.lemmas.List.{length-map}
use Rattle.fr_cluster.specs.Setting.{Setting}
use Rattle.fr_cluster.specs.Values.{Values}
use Rattle.fr_cluster.specs.Sane.{IsSane}
use Rattle.fr_bound.specs.Bounds.{precision_of}
use Rattle.fr_drift.specs.Files.{DriftFits}
use Rattle.fr_drift.specs.View.{DriftView}
use Rattle.fr_script.specs.Files.{IsScriptFile, ScriptFits}
use Rattle.fr_script.specs.View.{ScriptView}
use Rattle.fr_coverage.specs.Decided.{setting_of}
use Rattle.fr_coverage.specs.Order.{HasNoGap}
use Rattle.fr_history.specs.History.{record_at}
use Rattle.fr_history.specs.Sync.{IsInSyncAt}
use Rattle.fr_history.specs.Cycles.{Cycle, Cycles, cycle_at, told_of}
use Rattle.fr_history.specs.Unfollowed.{IsUnfollowedSyncAt, RowsAreInSyncAt}
use Rattle.fr_runs.proofs.Parts.{told_at}
use Rattle.fr_runs.proofs.Covers.{coverage_suffices}
use Rattle.fr_runs.specs.Whole.{IsUnfollowedRun}
use Rattle.fr_runs.proofs.Joining.{listeners_join}
use Rattle.fr_runs.proofs.Together.{unfollowed_runs_keep_together}
use Rattle.fr_promise.specs.Files.{FilesKeepPrecision, GreatestSkewIsWithin}
use Rattle.fr_promise.specs.Statement.{IsRunOf, KeepsPrecision, TheHeadline}
use Rattle.fr_promise.proofs.Drifts.{drift_of_a_file_fits}
use Rattle.fr_promise.proofs.Stating.{files_are_covered, rates_begin, starts_begin}
use Rattle.fr_promise.proofs.Within.{terms_are_within}

told_cycle : (h : Cycles) (n : ℕ) (c : Cycle) → cycle_at h n ≡ Some c → record_at (told_of h) n ≡ Some c.told
told_cycle h n c is = told_at h n ∙ ap (option_map (λ (d : Cycle). d.told)) is

-- cycles are in sync in a double cycle where what is told of them is
told_sync : (x : Setting) (h : Cycles) (double : ℕ) → RowsAreInSyncAt x.params h double → IsInSyncAt x.params (told_of h) double
told_sync x h double s = record {
  even = s.even.told;
  odd = s.odd.told;
  has_even = told_cycle h (2 * double) s.even s.has_even;
  has_odd = told_cycle h (2 * double + 1) s.odd s.has_odd;
  in_sync = s.in_sync;
}

-- a whole run that is covered keeps its precision from each double cycle in sync on in which none follows
pub runs_keep_precision : (x : Setting) (h : Cycles) (double : ℕ) → IsUnfollowedRun x h double → KeepsPrecision x h double
runs_keep_precision x h double run =
    let together = unfollowed_runs_keep_together x h double run in
    record {
      skew = together.precise.skew;
      synced = λ m from within. told_sync x h m (together.synced m from within);
      active = together.precise.active;
      after = together.after;
      uncut = together.precise.uncut;
      within = λ m earlier even odd from less d. terms_are_within x h double run m earlier even odd from less d;
      joins = λ node join there at from. listeners_join x h double node join run there at from;
    }

unfollowed_run : (p : Values) (d : DriftView) (s : ScriptView) (h : Cycles) (double : ℕ) → IsSane p → DriftFits p d → ScriptFits p s → HasNoGap p d s
    → IsRunOf (setting_of p d s) h → IsUnfollowedSyncAt p h double → IsUnfollowedRun (setting_of p d s) h double
unfollowed_run p d s h double sane fits script none run sync = record {
  covered = coverage_suffices (setting_of p d s) (files_are_covered p d s sane script none);
  rates = rates_begin p d s sane fits;
  starts = λ joins. starts_begin p d s fits;
  lawful = run.lawful;
  whole = run.whole;
  unfollowed = sync;
}

pub files_keep_precision : FilesKeepPrecision
files_keep_precision p d s h double sane fits script none run sync =
    runs_keep_precision (setting_of p d s) h double (unfollowed_run p d s h double sane fits script none run sync)

script_of_a_file_fits : (p : Values) (s : ScriptView) (bytes : List ℕ) → IsScriptFile p s bytes → ScriptFits p s
script_of_a_file_fits p s bytes file = record { records = _; none_refused = file.none_refused; stands = file.stands }

pub the_headline : TheHeadline
the_headline p d s drift script h double sane drift_file script_file none run first =
    files_keep_precision p d s h double sane (drift_of_a_file_fits p d drift drift_file) (script_of_a_file_fits p s script script_file) none run first.unfollowed

pub greatest_skew_is_within : GreatestSkewIsWithin
greatest_skew_is_within p d s h skew cycle macrotick sane fits script none run sync greatest =
    let kept : KeepsPrecision (setting_of p d s) h 0 = files_keep_precision p d s h 0 sane fits script none run sync in
    let long = length-map h (λ (c : Cycle). c.told) in
    let there = greatest.cycle_in in
    subst (λ (most : ℤ). most ≤ℤ pos (precision_of p)) greatest.reached (kept.skew cycle macrotick (omega arith) (omega (arith, there, long)) greatest.macrotick_in)
