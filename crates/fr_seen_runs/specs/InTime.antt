-- A log that is read of a run, whether or not its frames come in time; and that they do, where the nodes of the run start near each
-- other, and the numbers of the cluster and of the log suffice.
use Rattle.std.specs.Prelude.{◌≡◌, ◌≤◌, ◌*◌, ◌%◌, ◌-ℤ◌, ◌+ℤ◌, ◌*ℤ◌, ◌≤ℤ◌, ℕ, ℤ, pos, true, List, length, map, All, Contains, IfSome}
use Rattle.std.specs.List.{AllZip}
use Rattle.fr_base.specs.Within.{IsBetween, IsWithin, LieWithin}
use Rattle.fr_base.specs.declared.channel.Channel.{Channel}
use Rattle.fr_base.specs.declared.node_row.NodeRow.{NodeRow}
use Rattle.fr_bound.specs.Bounds.{nominal}
use Rattle.fr_bound.specs.Checks.{left_of}
use Rattle.fr_bound.specs.Judged.{IsJudgedDouble}
use Rattle.fr_bound.specs.declared.judging.Known.{Known}
use Rattle.fr_cluster.specs.Setting.{Setting}
use Rattle.fr_cluster.specs.Values.{Values}
use Rattle.fr_time.specs.Cycles.{double_cycle_of}
use Rattle.fr_time.specs.Instant.{action_instant}
use Rattle.fr_history.specs.Cycles.{Cycle, Cycles}
use Rattle.fr_runs.specs.Numbers.{HasDouble}
use Rattle.fr_log.specs.View.{IsLog, LogView}
use Rattle.fr_course.specs.Course.{breadth_of}
use Rattle.fr_course.specs.Readings.{fast_million, slow_million}
use Rattle.fr_course.specs.declared.stamps.Delays.{Delays}
use Rattle.fr_course.specs.declared.stamps.Observer.{Observer}
use Rattle.fr_sightings.specs.Senders.{delays_in, observer_of}
use Rattle.fr_sightings.specs.Sure.{are_numbers_sure}
use Rattle.fr_findings.specs.Verdict.{verdict_of}
use Rattle.fr_findings.specs.declared.verdict.Verdict.TheVariants as verdict
use Rattle.fr_observe.specs.Faults.{asks_own_slots}
use Rattle.fr_observe.specs.declared.fault.Fault.{Fault}
use Rattle.fr_seen.specs.Clocks.{IsStamped, IsWithinDrift, StraightClock}
use Rattle.fr_seen.specs.LogSeen.{BeginsAsCounted, IsToldOf, judged_of}
use Rattle.fr_seen.specs.Observed.{IsInWindow, IsSentIn, SentFrame, stamped_apart}
use Rattle.fr_seen.specs.OwnSlots.{SlotsAreOwn}
use Rattle.fr_seen.specs.RunRows.{IsTimedRun}
use Rattle.fr_seen.specs.Contradictions.{IsAsLogStates, IsObservedRun}
use Rattle.fr_runs.specs.SharpHistories.{IsKnownAt}

-- ---- a log that is read

-- when a frame arrives at the observer, in ticks
abbrev pub arrives_at : Setting → SentFrame → ℤ
arrives_at x sent = action_instant x.params sent.row sent.frame.slot +ℤ sent.delay

-- between two arrivals the observer's clock keeps its drift, however long that is, and stamps are off by no more than their
-- breadth: in ticks, as often as a million
abbrev pub KeepsDrift : Setting → Observer → SentFrame → SentFrame → Type 0
KeepsDrift x observer sent later =
    IsBetween
    ((slow_million observer.drift *ℤ (arrives_at x later -ℤ arrives_at x sent)) -ℤ (pos nominal *ℤ breadth_of observer))
    ((fast_million observer.drift *ℤ (arrives_at x later -ℤ arrives_at x sent)) +ℤ (pos nominal *ℤ breadth_of observer))
    (pos nominal *ℤ stamped_apart observer sent later)

-- a log is read of a run: it is seen of it, but that its frames come in time; in place of that the observer's clock keeps its
-- drift between any two of them
pub record IsReadOf
    (x : Setting) (h : Cycles) (base : ℕ) (observer : Observer) (delays : ℕ → Channel → Delays) (clock : ℕ → StraightClock)
    (log : List SentFrame)
    : Type 0 where
  pub whole_base : base % 64 ≡ 0
  pub within_drift : (double : ℕ) → IsWithinDrift observer.drift (clock double)
  pub sent : All (IsSentIn x h base) log
  pub read :
      (frame : SentFrame) (double : ℕ) → Contains log frame → IsInWindow frame.cycle double
      → IsStamped observer (delays frame.node frame.frame.channel) (clock double)
      (action_instant x.params frame.row frame.frame.slot) frame.delay frame.frame.stamp
  pub jitter :
      (frame later : SentFrame) (double : ℕ) → Contains log frame → Contains log later
      → IsInWindow frame.cycle double → IsInWindow later.cycle double
      → later.node ≡ frame.node → later.frame.channel ≡ frame.frame.channel
      → IsWithin (pos (delays frame.node frame.frame.channel).jitter) (later.delay -ℤ frame.delay)
  pub once :
      (frame other : SentFrame) → Contains log frame → Contains log other → other.cycle ≡ frame.cycle
      → other.frame.slot ≡ frame.frame.slot → other.frame.channel ≡ frame.frame.channel → other.frame ≡ frame.frame
  pub keeps_drift :
      (frame later : SentFrame) → Contains log frame → Contains log later → arrives_at x frame ≤ℤ arrives_at x later
      → KeepsDrift x observer frame later

-- as it is read from a file, with the delays and the clock of its head
pub record IsLogRead
    (x : Setting) (h : Cycles) (base : ℕ) (delays : ℕ → Channel → Delays) (clock : ℕ → StraightClock) (l : LogView)
    : Type 0 where
  pub sent : List SentFrame
  pub read : IsReadOf x h base (observer_of l) delays clock sent
  pub told : AllZip IsToldOf (judged_of x.params l) sent
  pub limits :
      (node : ℕ) (channel : Channel) → IfSome (delays_in l node channel) (λ limits. delays node channel ≡ limits)
  pub first : BeginsAsCounted sent

-- a whole run that the log is read of
pub record IsReadRun
    (x : Setting) (h : Cycles) (base : ℕ) (delays : ℕ → Channel → Delays) (clock : ℕ → StraightClock) (l : LogView)
    : Type 0 where
  pub timed : IsTimedRun x h
  pub whole : length h ≡ 2 * x.doubles
  pub log : IsLog l
  pub read : IsLogRead x h base delays clock l

-- ---- near

-- the starts of some rows lie near each other: no further apart than the offset limit at the shortest microtick, in ticks
abbrev pub StartsLieNear : Values → List NodeRow → Type 0
StartsLieNear p rows = LieWithin (pos (left_of 3 p)) (map (λ row. row.start) rows)

-- from some double cycle on the nodes with rows do so, whoever they are: no check need hold, and nodes may join
pub record IsNearFrom (x : Setting) (h : Cycles) (from : ℕ) : Type 0 where
  pub near :
      (double : ℕ) (even odd : Cycle) → from ≤ double → HasDouble h double even odd → StartsLieNear x.params even.told.rows

-- in a double cycle that is judged they do, by the third check of its own reach
abbrev pub JudgedIsNear : Type 0
JudgedIsNear =
    (x : Setting) (flutter : ℕ) (h : Cycles) (double : ℕ) (known : Known) (even odd : Cycle)
    → IsKnownAt x h double known → IsJudgedDouble x.params flutter known → HasDouble h double even odd
    → StartsLieNear x.params even.told.rows

-- a whole run that the log is read of, near from some double cycle on; no frame of the log is of an earlier one
pub record IsReadNear
    (x : Setting) (h : Cycles) (base : ℕ) (delays : ℕ → Channel → Delays) (clock : ℕ → StraightClock) (l : LogView)
    (from : ℕ)
    : Type 0 where
  pub run : IsReadRun x h base delays clock l
  pub near : IsNearFrom x h from
  pub behind : All (λ sent. from ≤ double_cycle_of sent.cycle) run.read.sent

-- then its frames come in time, where the numbers are sure of that: the log is seen of the run
abbrev pub NearIsTimely : Type 0
NearIsTimely =
    (x : Setting) (h : Cycles) (base : ℕ) (delays : ℕ → Channel → Delays) (clock : ℕ → StraightClock) (l : LogView)
    (from : ℕ)
    → IsReadNear x h base delays clock l from → are_numbers_sure x.params l ≡ true
    → IsObservedRun x h base delays clock l

-- so where the verdict of such a log is no, whatever its fault, there is no such run that is as the log states. By a
-- fault that asks for own slots, this is said of runs where each whole frame in the slot of a node is one that the node sends
abbrev pub NoNearRunIsContradicted : Type 0
NoNearRunIsContradicted =
    (x : Setting) (h : Cycles) (base : ℕ) (delays : ℕ → Channel → Delays) (clock : ℕ → StraightClock) (l : LogView)
    (from : ℕ) (fault : Fault)
    → IsReadNear x h base delays clock l from → IsAsLogStates x h base l → are_numbers_sure x.params l ≡ true
    → (asks_own_slots fault ≡ true → SlotsAreOwn x h l) → verdict_of x.params l ≡ verdict.No fault → ⊥
