-- A double cycle of a log in the run: that the run has it, and how its senders lie as their courses tell.
use Rattle.std.specs.Prelude.{◌≤ℤ◌, ℕ, ℤ, pos, List, map, All, Contains}
use Rattle.fr_base.specs.Within.{IsBetween, LieWithin}
use Rattle.fr_base.specs.declared.channel.Channel.{Channel}
use Rattle.fr_base.specs.declared.node_row.NodeRow.{NodeRow}
use Rattle.fr_bound.specs.Sync.{cycle_length_of}
use Rattle.fr_cluster.specs.Sane.{IsSane}
use Rattle.fr_cluster.specs.Setting.{Setting}
use Rattle.fr_cluster.specs.Values.{Values}
use Rattle.fr_history.specs.Cycles.{Cycle, Cycles}
use Rattle.fr_history.specs.History.{row_for}
use Rattle.fr_runs.specs.Numbers.{HasDouble}
use Rattle.fr_log.specs.View.{LogView}
use Rattle.fr_course.specs.Computed.{length_ticks}
use Rattle.fr_course.specs.Readings.{reading_scale}
use Rattle.fr_course.specs.Spread.{lengths_apart, starts_apart}
use Rattle.fr_course.specs.declared.stamps.Delays.{Delays}
use Rattle.fr_observe.specs.Observing.{courses_of, seen_doubles}
use Rattle.fr_sightings.specs.Sightings.{sightings_of}
use Rattle.fr_sightings.specs.declared.sender.Sender.{Sender}
use Rattle.fr_seen.specs.Clocks.{IsWithinDrift, StraightClock}
use Rattle.fr_seen.specs.LogSeen.{IsSenderOn, run_double, sender_rows}
use Rattle.fr_seen.specs.Contradictions.{IsObservedRun}

-- ---- senders on their courses, in sync or not

-- the starts and the lengths of cycles of some rows, in ticks
abbrev pub starts_in : List NodeRow → List ℤ
starts_in rows = map (λ row. row.start) rows

abbrev pub lengths_in : Values → List NodeRow → List ℤ
lengths_in p rows = map (cycle_length_of p) rows

-- the lengths of both of its cycles are some that the course of a sender allows
pub record IsAsLong (x : Setting) (drift : ℕ) (even odd : Cycle) (s : Sender) : Type 0 where
  pub even_long :
      IsBetween (length_ticks (reading_scale drift x.params) s.course).low
      (length_ticks (reading_scale drift x.params) s.course).high (cycle_length_of x.params (row_for even.told.rows s.node))
  pub odd_long :
      IsBetween (length_ticks (reading_scale drift x.params) s.course).low
      (length_ticks (reading_scale drift x.params) s.course).high (cycle_length_of x.params (row_for odd.told.rows s.node))

-- how far the starts of senders lie apart, and the lengths of their cycles, is from the least to the greatest that their
-- courses allow: so much at most, and no bound on them is less than the least. And each length is one that its course allows
pub record LieAsSeen (x : Setting) (drift : ℕ) (even odd : Cycle) (senders : List Sender) : Type 0 where
  pub starts_to :
      LieWithin (starts_apart (reading_scale drift x.params) (courses_of senders)).high (starts_in (sender_rows even senders))
  pub even_lengths_to :
      LieWithin (lengths_apart (reading_scale drift x.params) (courses_of senders)).high
      (lengths_in x.params (sender_rows even senders))
  pub odd_lengths_to :
      LieWithin (lengths_apart (reading_scale drift x.params) (courses_of senders)).high
      (lengths_in x.params (sender_rows odd senders))
  pub starts_from :
      (bound : ℤ) → pos 0 ≤ℤ bound → LieWithin bound (starts_in (sender_rows even senders))
      → (starts_apart (reading_scale drift x.params) (courses_of senders)).low ≤ℤ bound
  pub lengths_from :
      (bound : ℤ) → pos 0 ≤ℤ bound → LieWithin bound (lengths_in x.params (sender_rows even senders))
      → (lengths_apart (reading_scale drift x.params) (courses_of senders)).low ≤ℤ bound
  pub long : All (IsAsLong x drift even odd) senders

abbrev pub SendersLieAsSeen : Type 0
SendersLieAsSeen =
    (x : Setting) (drift : ℕ) (clock : StraightClock) (even odd : Cycle) (senders : List Sender)
    → IsSane x.params → IsWithinDrift drift clock → All (IsSenderOn x drift clock even odd) senders
    → LieAsSeen x drift even odd senders

-- ---- a double cycle of the log in the run

pub record IsDoubleThere (h : Cycles) (double : ℕ) : Type 0 where
  pub even : Cycle
  pub odd : Cycle
  pub has : HasDouble h double even odd

-- the run has each that has rows in the text of the log
abbrev pub DoublesAreThere : Type 0
DoublesAreThere =
    (x : Setting) (h : Cycles) (base : ℕ) (delays : ℕ → Channel → Delays) (clock : ℕ → StraightClock) (l : LogView)
    (double : ℕ)
    → IsObservedRun x h base delays clock l → Contains (seen_doubles (sightings_of x.params l)) double
    → IsDoubleThere h (run_double base double)
