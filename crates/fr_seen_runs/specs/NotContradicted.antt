-- That no run contradicts a log that is seen of it: what its faults exclude, and what its verdict says.
use Rattle.std.specs.Prelude.{◌≡◌, ◌+◌, ◌*◌, ◌/◌, ◌≤◌, ℕ, suc, pos, true, false, [], Contains, Some}
use Rattle.fr_base.specs.declared.channel.Channel.{Channel}
use Rattle.fr_cluster.specs.Setting.{Setting}
use Rattle.fr_cluster.specs.Values.{Values}
use Rattle.fr_history.specs.Cycles.{Cycle, Cycles}
use Rattle.fr_runs.specs.Numbers.{HasDouble}
use Rattle.fr_log.specs.View.{LogView}
use Rattle.fr_course.specs.Readings.{reading_scale}
use Rattle.fr_course.specs.declared.stamps.Delays.{Delays}
use Rattle.fr_observe.specs.Observing.{seen_doubles}
use Rattle.fr_sightings.specs.Senders.{sightings_in}
use Rattle.fr_sightings.specs.Sightings.{sightings_of}
use Rattle.fr_seen.specs.Clocks.{StraightClock}
use Rattle.fr_seen.specs.LogSeen.{log_senders, run_double, sender_rows}
use Rattle.fr_seen.specs.OwnSlots.{SlotsAreOwn}
use Rattle.fr_seen.specs.Skews.{StaysWithin}
use Rattle.fr_seen.specs.Contradictions.{IsAsLogStates, IsObservedRun}
use Rattle.fr_seen.specs.LogDoubles.{IsDoubleThere}
use Rattle.fr_observe.specs.declared.fault.Fault.{Fault}
use Rattle.fr_observe.specs.Faults.{asks_judged, asks_own_slots, own_faults, slot_faults}
use Rattle.fr_findings.specs.Counting.{last_row_cycle}
use Rattle.fr_findings.specs.declared.progress.Reach.{Reach}
use Rattle.fr_sightings.specs.Sightings.{irregular_of, untimely_of}
use Rattle.fr_judging.specs.Hearing.{log_precision}
use Rattle.fr_findings.specs.Verdict.{verdict_of}
use Rattle.fr_findings.specs.declared.verdict.Verdict.TheVariants as verdict

-- ---- a double cycle

-- nothing in one contradicts a run that the log is seen of, in sync or not
abbrev pub OwnFaultsAreNone : Type 0
OwnFaultsAreNone =
    (x : Setting) (h : Cycles) (base : ℕ) (delays : ℕ → Channel → Delays) (clock : ℕ → StraightClock) (l : LogView)
    (double : ℕ)
    → IsObservedRun x h base delays clock l → Contains (seen_doubles (sightings_of x.params l)) double
    → own_faults x.params (reading_scale l.drift x.params) l (sightings_in (sightings_of x.params l) double)
    (sightings_in (untimely_of x.params l) double) double (log_senders x l double)
    ≡ []

-- nor is there an irregular frame, where each whole frame in the slot of a node is one that the node sends
abbrev pub SlotFaultsAreNone : Type 0
SlotFaultsAreNone =
    (x : Setting) (h : Cycles) (l : LogView) (double : ℕ)
    → SlotsAreOwn x h l → slot_faults x.params (sightings_in (irregular_of x.params l) double) ≡ []

-- ---- the verdict

-- where the verdict is no, there is no run that is as the log states; and where the fault does not ask for that, there is no run at
-- all that the log is seen of. By a fault that asks for own slots, this is said of runs where each whole frame in the slot of a node
-- is one that the node sends
abbrev pub NoRunIsContradicted : Type 0
NoRunIsContradicted =
    (x : Setting) (h : Cycles) (base : ℕ) (delays : ℕ → Channel → Delays) (clock : ℕ → StraightClock) (l : LogView)
    (fault : Fault)
    → IsObservedRun x h base delays clock l → IsAsLogStates x h base l
    → (asks_own_slots fault ≡ true → SlotsAreOwn x h l) → verdict_of x.params l ≡ verdict.No fault → ⊥

abbrev pub NoRunHasOwnFaults : Type 0
NoRunHasOwnFaults =
    (x : Setting) (h : Cycles) (base : ℕ) (delays : ℕ → Channel → Delays) (clock : ℕ → StraightClock) (l : LogView)
    (fault : Fault)
    → IsObservedRun x h base delays clock l → (asks_own_slots fault ≡ true → SlotsAreOwn x h l)
    → verdict_of x.params l ≡ verdict.No fault → asks_judged fault ≡ true

-- the skew of the senders of a log stays within the precision in a cycle of the log
pub record IsWithinReach (x : Setting) (l : LogView) (reach : Reach) (double : ℕ) (even odd : Cycle) : Type 0 where
  pub in_even :
      reach.from ≤ 2 * double → 2 * double ≤ reach.to
      → StaysWithin x.params false (sender_rows even (log_senders x l double)) (pos (log_precision x.params l))
  pub in_odd :
      reach.from ≤ suc (2 * double) → suc (2 * double) ≤ reach.to
      → StaysWithin x.params true (sender_rows odd (log_senders x l double)) (pos (log_precision x.params l))

-- where the verdict is within, each of its cycles is one of a double cycle that each run has that the log is seen of
abbrev pub WithinIsThere : Type 0
WithinIsThere =
    (x : Setting) (h : Cycles) (base : ℕ) (delays : ℕ → Channel → Delays) (clock : ℕ → StraightClock) (l : LogView)
    (reach : Reach) (cycle : ℕ)
    → IsObservedRun x h base delays clock l → verdict_of x.params l ≡ verdict.Within reach → reach.from ≤ cycle
    → cycle ≤ reach.to → IsDoubleThere h (run_double base (cycle / 2))

-- where the verdict is within, it is so in each of its cycles, in each run that the log is seen of
abbrev pub WithinIsSo : Type 0
WithinIsSo =
    (x : Setting) (h : Cycles) (base : ℕ) (delays : ℕ → Channel → Delays) (clock : ℕ → StraightClock) (l : LogView)
    (reach : Reach) (double : ℕ) (even odd : Cycle)
    → IsObservedRun x h base delays clock l → verdict_of x.params l ≡ verdict.Within reach
    → HasDouble h (run_double base double) even odd → IsWithinReach x l reach double even odd

-- and the last of its cycles is the last but one of those that have rows
abbrev pub WithinReachesEnd : Type 0
WithinReachesEnd =
    (p : Values) (l : LogView) (reach : Reach)
    → verdict_of p l ≡ verdict.Within reach → last_row_cycle (sightings_of p l) ≡ Some (reach.to + 1)
