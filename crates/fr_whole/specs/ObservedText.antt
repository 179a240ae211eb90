-- What the text of a log is, and what it means in each run that the log is seen of.
use Rattle.std.specs.Prelude.{◌≡◌, ◌↔◌, ◌+◌, ◌/◌, ◌≤◌, ◌||◌, ℕ, suc, pos, false, true, All, List, [], ◌++◌, length, Contains, Some, slice_get}
use Rattle.fr_base.specs.declared.channel.Channel.{Channel}
use Rattle.fr_bound.specs.declared.judging.Heard.{Heard}
use Rattle.fr_cluster.specs.Setting.{Setting}
use Rattle.fr_cluster.specs.Values.{Values}
use Rattle.fr_history.specs.Cycles.{Cycle, Cycles}
use Rattle.fr_runs.specs.Numbers.{HasDouble}
use Rattle.fr_log.specs.View.{LogView}
use Rattle.fr_course.specs.Readings.{reading_scale}
use Rattle.fr_course.specs.declared.stamps.Delays.{Delays}
use Rattle.fr_sightings.specs.Sightings.{sightings_of}
use Rattle.fr_sightings.specs.Sure.{are_numbers_sure}
use Rattle.fr_observe.specs.Faults.{asks_judged, asks_own_slots, first_of_faults}
use Rattle.fr_observe.specs.Observing.{even_high, even_low, odd_high, odd_low, says_of, seen_doubles}
use Rattle.fr_observe.specs.declared.fault.Fault.{Fault}
use Rattle.fr_judging.specs.Hearing.{log_heard, log_precision}
use Rattle.fr_findings.specs.Counting.{last_row_cycle}
use Rattle.fr_findings.specs.Text.{observe_text, verdict_row}
use Rattle.fr_findings.specs.Verdict.{verdict_of}
use Rattle.fr_findings.specs.declared.progress.OverRow.{OverRow}
use Rattle.fr_findings.specs.declared.progress.Reach.{Reach}
use Rattle.fr_findings.specs.declared.verdict.Verdict.TheVariants as verdict
use Rattle.fr_sharp.specs.JudgedSteps.{IsHeardIn}
use Rattle.fr_seen.specs.Clocks.{StraightClock}
use Rattle.fr_seen.specs.LogSeen.{NextRowsHold, RowsHold, SaysSo, log_senders, run_double, sender_rows}
use Rattle.fr_seen.specs.OwnSlots.{SlotsAreOwn}
use Rattle.fr_seen.specs.Contradictions.{IsAsLogStates, IsAsLogStatesBefore, IsObservedRun}
use Rattle.fr_seen_runs.specs.InTime.{IsReadNear}
use Rattle.fr_seen.specs.LogDoubles.{IsDoubleThere}
use Rattle.fr_seen_runs.specs.NotContradicted.{IsWithinReach}
use Rattle.fr_seen_runs.specs.OverRows.{RowIsOver, over_rows}
use Rattle.fr_seen_runs.specs.Standings.{Missing, MissingIsSo, SpreadIsSo, log_missing, log_spreads}
use Rattle.fr_seen_runs.specs.ToldDoubles.{TellsDoubles}
use Rattle.fr_seen_runs.specs.ToldFaults.{log_faults}

-- ---- runs

-- a whole run of these parameters that the log is seen of, in sync or not
pub record ObservedRun (p : Values) (l : LogView) : Type 0 where
  pub setting : Setting
  pub cycles : Cycles
  pub base : ℕ
  pub delays : ℕ → Channel → Delays
  pub clock : ℕ → StraightClock
  pub of_params : setting.params ≡ p
  pub observed : IsObservedRun setting cycles base delays clock l

-- one that the log is read of, near from a double cycle on that none of its frames is before
pub record NearRun (p : Values) (l : LogView) : Type 0 where
  pub setting : Setting
  pub cycles : Cycles
  pub base : ℕ
  pub delays : ℕ → Channel → Delays
  pub clock : ℕ → StraightClock
  pub from : ℕ
  pub of_params : setting.params ≡ p
  pub read : IsReadNear setting cycles base delays clock l from

-- a run is as the log states
abbrev pub IsStated : (p : Values) (l : LogView) → ObservedRun p l → Type 0
IsStated p l run = IsAsLogStates run.setting run.cycles run.base l

-- each whole frame of the log in the slot of a node that it does not name arbitrary is one that the node sends there
abbrev pub HasOwnSlots : (p : Values) (l : LogView) → ObservedRun p l → Type 0
HasOwnSlots p l run = SlotsAreOwn run.setting run.cycles l

-- these are its cycles in a double cycle of the log
abbrev pub AreCyclesAt : (p : Values) (l : LogView) → ObservedRun p l → ℕ → Cycle → Cycle → Type 0
AreCyclesAt p l run double even odd = HasDouble run.cycles (run_double run.base double) even odd

-- ---- rows

-- what the row of the even cycle of a double cycle says of the precision is so, and what that of the odd one says
abbrev pub EvenSaysSo : (p : Values) (l : LogView) → ObservedRun p l → ℕ → Cycle → Type 0
EvenSaysSo p l run double even =
    SaysSo p false (sender_rows even (log_senders run.setting l double)) (pos (log_precision p l))
    (says_of (pos (log_precision p l)) (even_low (reading_scale l.drift p) (log_senders run.setting l double))
    (even_high (reading_scale l.drift p) (log_senders run.setting l double)))

abbrev pub OddSaysSo : (p : Values) (l : LogView) → ObservedRun p l → ℕ → Cycle → Type 0
OddSaysSo p l run double odd =
    SaysSo p true (sender_rows odd (log_senders run.setting l double)) (pos (log_precision p l))
    (says_of (pos (log_precision p l)) (odd_low (reading_scale l.drift p) (log_senders run.setting l double))
    (odd_high (reading_scale l.drift p) (log_senders run.setting l double)))

-- the rows of cycles and nodes are so: the run has each double cycle that has rows; the skew of the senders, the lengths of their
-- cycles and their offset terms lie within the limits of the rows, the greatest skew of an odd cycle and the terms where the run has the
-- next double cycle too; and what the words of the rows say is so
pub record RowsAreSo (p : Values) (l : LogView) (run : ObservedRun p l) : Type 0 where
  pub there :
      (double : ℕ) → Contains (seen_doubles (sightings_of p l)) double
      → IsDoubleThere run.cycles (run_double run.base double)
  pub rows :
      (double : ℕ) (even odd : Cycle) → AreCyclesAt p l run double even odd
      → RowsHold run.setting l.drift (run.clock (run_double run.base double)) even odd (log_senders run.setting l double)
  pub next_rows :
      (double : ℕ) (even odd next_even next_odd : Cycle) → AreCyclesAt p l run double even odd
      → HasDouble run.cycles (suc (run_double run.base double)) next_even next_odd
      → NextRowsHold run.setting l.drift odd (log_senders run.setting l double)
  pub even_says : (double : ℕ) (even odd : Cycle) → AreCyclesAt p l run double even odd → EvenSaysSo p l run double even
  pub odd_says :
      (double : ℕ) (even odd next_even next_odd : Cycle) → AreCyclesAt p l run double even odd
      → HasDouble run.cycles (suc (run_double run.base double)) next_even next_odd → OddSaysSo p l run double odd

-- the faults that the text tells exclude what they say: each asks for runs as the log states or for own slots; so where the run is as
-- the log states each asks for own slots, where its slots are own each asks for runs as the log states, and where both are so there is none
pub record FaultsAreSo (p : Values) (l : LogView) (run : ObservedRun p l) : Type 0 where
  pub either : All (λ fault. (asks_judged fault || asks_own_slots fault) ≡ true) (log_faults p l)
  pub stated : IsStated p l run → All (λ fault. asks_own_slots fault ≡ true) (log_faults p l)
  pub own : HasOwnSlots p l run → All (λ fault. asks_judged fault ≡ true) (log_faults p l)
  pub none : IsStated p l run → HasOwnSlots p l run → log_faults p l ≡ []

-- ---- verdicts

-- where the verdict is no, by a fault: the run is not as the log states; and where the fault does not ask for that, there is no such run
-- at all. By a fault that asks for own slots, this is said of runs whose slots are own
pub record IsContradicted (p : Values) (l : LogView) (fault : Fault) (run : ObservedRun p l) : Type 0 where
  pub not_stated : (asks_own_slots fault ≡ true → HasOwnSlots p l run) → IsStated p l run → ⊥
  pub asks : (asks_own_slots fault ≡ true → HasOwnSlots p l run) → asks_judged fault ≡ true

-- where it is within, the run has each of its cycles, and in these the skew of the senders is no greater than the precision
pub record KeepsReach (p : Values) (l : LogView) (reach : Reach) (run : ObservedRun p l) : Type 0 where
  pub there :
      (cycle : ℕ) → reach.from ≤ cycle → cycle ≤ reach.to → IsDoubleThere run.cycles (run_double run.base (cycle / 2))
  pub within :
      (double : ℕ) (even odd : Cycle) → AreCyclesAt p l run double even odd
      → IsWithinReach run.setting l reach double even odd

-- ---- the text

-- a text is that of a log, its last row the verdict's; and in each run of these parameters that the log is seen of
pub record IsObservedText (p : Values) (l : LogView) (text : List ℕ) : Type 0 where
  pub shown : text ≡ observe_text p l
  pub front : List ℕ
  pub ends : text ≡ front ++ verdict_row (verdict_of p l)
  -- between its precision and its census it has the rows of double cycles, and in these all that is told of what follows
  pub told : TellsDoubles p l text
  -- the rows of cycles and nodes are so, and faults exclude what they say
  pub rows : (run : ObservedRun p l) → RowsAreSo p l run
  pub faults : (run : ObservedRun p l) → FaultsAreSo p l run
  -- a verdict of no contradicts it, and it is no exactly where a fault is told, by the first
  pub no : (run : ObservedRun p l) (fault : Fault) → verdict_of p l ≡ verdict.No fault → IsContradicted p l fault run
  pub first : (fault : Fault) → (verdict_of p l ≡ verdict.No fault) ↔ (first_of_faults (log_faults p l) ≡ Some fault)
  -- in each row that says over the skew of the senders is no less than the row has it, and above the precision; and a verdict of over
  -- has the first of these rows, and how many there are
  pub over : (run : ObservedRun p l) → All (RowIsOver run.setting run.cycles run.base l) (over_rows p l)
  pub counted :
      (row : OverRow) (count : ℕ) → verdict_of p l ≡ verdict.Over row count
      → (slice_get (over_rows p l) 0 ≡ Some row) × (count ≡ length (over_rows p l))
  -- a verdict of within is so in each of its cycles, of which the last is the last but one that has rows
  pub within : (run : ObservedRun p l) (reach : Reach) → verdict_of p l ≡ verdict.Within reach → KeepsReach p l reach run
  pub reaches : (reach : Reach) → verdict_of p l ≡ verdict.Within reach → last_row_cycle (sightings_of p l) ≡ Some (reach.to + 1)
  -- where it is as the log states, the rows of spread are so
  pub spreads :
      (run : ObservedRun p l) (what : Heard) → IsStated p l run → log_heard p l ≡ Some what
      → All (SpreadIsSo run.setting run.cycles run.base l what) (log_spreads p l)
  -- where it is so in the double cycles before that of a row of what was missed, and in that one all nodes hear all, also beside arbitrary
  -- sync nodes, or none is deaf, without these, the row is so
  pub missed :
      (run : ObservedRun p l) (m : Missing) (hearing : Heard)
      → IsAsLogStatesBefore run.setting run.cycles run.base l (run_double run.base m.number)
      → IsHeardIn hearing run.setting (run_double run.base m.number) → Contains (log_missing p l) m
      → MissingIsSo run.setting run.base m
  -- where the numbers are sure, the log is seen of each near run that it is read of: so all of this is so in that run
  pub sure :
      are_numbers_sure p l ≡ true → (run : NearRun p l)
      → IsObservedRun run.setting run.cycles run.base run.delays run.clock l
