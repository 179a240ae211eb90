-- Rows that say over: in each of their cycles the skew is above the precision, in each run that the log can be of.
use Rattle.std.specs.Prelude.{◌≡◌, ◌+◌, ◌*◌, ◌/◌, ◌<ℤ◌, ℕ, suc, pos, false, true, All, List, ◌++◌, length, Some, slice_get}
use Rattle.std.specs.List.{flat_map}
use Rattle.std.specs.Option.{option_to_list}
use Rattle.fr_base.specs.declared.channel.Channel.{Channel}
use Rattle.fr_cluster.specs.Setting.{Setting}
use Rattle.fr_cluster.specs.Values.{Values}
use Rattle.fr_history.specs.Cycles.{Cycle, Cycles}
use Rattle.fr_runs.specs.Numbers.{HasDouble}
use Rattle.fr_log.specs.View.{LogView}
use Rattle.fr_course.specs.declared.stamps.Delays.{Delays}
use Rattle.fr_observe.specs.Observing.{even_low, odd_low, seen_doubles}
use Rattle.fr_sightings.specs.Sightings.{offending_frames_of, sightings_of}
use Rattle.fr_judging.specs.Hearing.{log_precision}
use Rattle.fr_findings.specs.Verdict.{Basis, DoubleCycle, double_at, even_says, log_basis, odd_says, over_row, verdict_of}
use Rattle.fr_findings.specs.declared.progress.OverRow.{OverRow}
use Rattle.fr_findings.specs.declared.verdict.Verdict.TheVariants as verdict
use Rattle.fr_seen.specs.Clocks.{StraightClock}
use Rattle.fr_seen.specs.LogSeen.{log_senders, run_double, sender_rows}
use Rattle.fr_seen.specs.Skews.{HasSkew}
use Rattle.fr_seen.specs.Contradictions.{IsObservedRun}
use Rattle.fr_seen.specs.LogDoubles.{IsDoubleThere}

-- those of a double cycle
abbrev pub over_in : Basis → DoubleCycle → List OverRow
over_in b d =
    option_to_list (over_row (2 * d.number) (even_low b.scale d.senders) (even_says b d))
    ++ option_to_list (over_row (2 * d.number + 1) (odd_low b.scale d.senders) (odd_says b d))

abbrev pub over_at : Values → LogView → ℕ → List OverRow
over_at p l double = over_in (log_basis p l) (double_at (log_basis p l) (sightings_of p l) (offending_frames_of p l) double)

-- those of a log, in their order
unfoldable pub over_rows : Values → LogView → List OverRow
over_rows p l = flat_map (over_at p l) (seen_doubles (sightings_of p l))

-- where the verdict is over, it has the first of them, and how many there are
abbrev pub OverIsCounted : Type 0
OverIsCounted =
    (p : Values) (l : LogView) (first : OverRow) (count : ℕ)
    → verdict_of p l ≡ verdict.Over first count
    → (slice_get (over_rows p l) 0 ≡ Some first) × (count ≡ length (over_rows p l))

-- the skew of the senders of a log in the cycle of a row is no less than the row has it
pub record HasOver (x : Setting) (l : LogView) (row : OverRow) (double : ℕ) (even odd : Cycle) : Type 0 where
  pub in_even : row.cycle ≡ 2 * double → HasSkew x.params false (sender_rows even (log_senders x l double)) row.low
  pub in_odd : row.cycle ≡ suc (2 * double) → HasSkew x.params true (sender_rows odd (log_senders x l double)) row.low

-- that is above the precision; and the run has the double cycle
pub record RowIsOver (x : Setting) (h : Cycles) (base : ℕ) (l : LogView) (row : OverRow) : Type 0 where
  pub above : pos (log_precision x.params l) <ℤ row.low
  pub there : IsDoubleThere h (run_double base (row.cycle / 2))
  pub skew :
      (double : ℕ) (even odd : Cycle) → HasDouble h (run_double base double) even odd → HasOver x l row double even odd

-- it is so of each row that says over, in each run that the log is seen of
abbrev pub OverIsSo : Type 0
OverIsSo =
    (x : Setting) (h : Cycles) (base : ℕ) (delays : ℕ → Channel → Delays) (clock : ℕ → StraightClock) (l : LogView)
    → IsObservedRun x h base delays clock l → All (RowIsOver x h base l) (over_rows x.params l)
