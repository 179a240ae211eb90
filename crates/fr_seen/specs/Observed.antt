-- A log of an observer's frames, seen of a run: when a run can have given it.
use Rattle.std.specs.Prelude.{◌≡◌, ◌⊎◌, ◌<ℤ◌, ◌≤◌, ◌*◌, ◌%◌, ◌-ℤ◌, ◌+ℤ◌, ◌*ℤ◌, neg_ℤ, ℕ, suc, ℤ, pos, true, false, List, All, map, Contains, Some}
use Rattle.fr_base.specs.Within.{IsBetween, IsWithin}
use Rattle.fr_base.specs.declared.channel.Channel.{Channel}
use Rattle.fr_base.specs.declared.node_row.NodeRow.{NodeRow}
use Rattle.fr_base.specs.declared.state.State.TheVariants.{Active}
use Rattle.fr_cluster.specs.Sane.{IsSane}
use Rattle.fr_cluster.specs.Setting.{Setting}
use Rattle.fr_cluster.specs.Values.{Values, amount}
use Rattle.fr_cluster.specs.declared.names.ParamName.TheVariants as name
use Rattle.fr_time.specs.Cycles.{cycle_count, double_cycle_of}
use Rattle.fr_time.specs.Instant.{action_instant}
use Rattle.fr_time.specs.Senders.{sender_of}
use Rattle.fr_time.specs.Slots.{action_point_of}
use Rattle.fr_time.specs.declared.senders.Sending.{Sending}
use Rattle.fr_history.specs.Cycles.{Cycle, Cycles, cycle_at}
use Rattle.fr_history.specs.History.{row_of}
use Rattle.fr_history.specs.Offers.{is_on}
use Rattle.fr_runs.specs.Numbers.{HasDouble}
use Rattle.fr_course.specs.Numbering.{is_timely, longest_silence, next_number}
use Rattle.fr_course.specs.declared.intervals.Interval.{Interval}
use Rattle.fr_course.specs.Readings.{meet_all, reading_scale}
use Rattle.fr_course.specs.declared.courses.Course.{Course}
use Rattle.fr_course.specs.declared.stamps.Delays.{Delays}
use Rattle.fr_course.specs.declared.stamps.Observer.{Observer}
use Rattle.fr_course.specs.Course.{course_from, span_of, stamped}
use Rattle.fr_seen.specs.Clocks.{IsStamped, IsWithinDrift, StraightClock}
use Rattle.fr_seen.specs.RunRows.{IsTimedRun}
use Rattle.fr_seen.specs.Skews.{IsOnCourse}
use Rattle.fr_seen.specs.TermsSeen.{GoesOn}

-- ---- numbers

-- of a number with this count that lies so near another one it is found
abbrev pub NumbersAreFound : Type 0
NumbersAreFound =
    (last number turns : ℤ) (count : ℕ) → number ≡ pos count +ℤ (pos 64 *ℤ turns)
    → IsBetween (neg_ℤ (pos 32)) (pos 31) (number -ℤ last) → next_number last count ≡ number

-- frames that come no earlier, after no longer silence and in time are of so near cycles
abbrev pub TimelyFramesAreNear : Type 0
TimelyFramesAreNear =
    (p : Values) (apart cycles macroticks : ℤ) → IsSane p → is_timely p apart cycles macroticks ≡ true
    → IsBetween (pos 0) (longest_silence p) apart → neg_ℤ p.macros <ℤ macroticks → macroticks <ℤ p.macros
    → IsBetween (neg_ℤ (pos 1)) (pos 31) cycles

-- ---- a log

-- a frame of a log: the number of its cycle there, its slot and channel, its cycle count, and its stamp in units
pub record SeenFrame : Type 0 where
  pub number : ℤ
  pub slot : ℕ
  pub channel : Channel
  pub count : ℕ
  pub stamp : ℤ

-- what the log does not tell of it: the cycle of the run, the node that sent it with its row there, and how long it was under
-- way to the observer, in ticks
pub record SentFrame : Type 0 where
  pub frame : SeenFrame
  pub cycle : ℕ
  pub node : ℕ
  pub row : NodeRow
  pub delay : ℤ

-- a correct node sends it in its slot in this cycle of the run, so many cycles behind that of its number
pub record IsSentIn (x : Setting) (h : Cycles) (base : ℕ) (sent : SentFrame) : Type 0 where
  pub numbered : pos sent.cycle ≡ sent.frame.number +ℤ pos base
  pub counted : sent.frame.count ≡ cycle_count sent.cycle
  pub told : Cycle
  pub has_cycle : cycle_at h sent.cycle ≡ Some told
  pub slot_from : 1 ≤ sent.frame.slot
  pub slot_to : sent.frame.slot ≤ amount x.params name.gNumberOfStaticSlots
  pub sending : Sending
  pub sends : sender_of x.params sent.frame.slot sent.cycle ≡ Some sending
  pub by_node : sending.node ≡ sent.node
  pub correct : x.is_arbitrary sent.node ≡ false
  pub has_row : row_of told.told.rows sent.node ≡ Some sent.row
  pub active : sent.row.state ≡ Active
  pub on_channel : is_on x sent.node sent.frame.channel ≡ true

-- a cycle is one of a double cycle or of the next one
abbrev pub IsInWindow : ℕ → ℕ → Type 0
IsInWindow cycle double = (double_cycle_of cycle ≡ double) ⊎ (double_cycle_of cycle ≡ suc double)

-- how many macroticks behind the start of its cycle a frame is sent
abbrev pub sent_macrotick : Setting → SentFrame → ℤ
sent_macrotick x sent = pos (action_point_of x.params sent.frame.slot)

-- how much later one frame of a log is stamped than another, in ticks of the observer's clock
abbrev pub stamped_apart : Observer → SentFrame → SentFrame → ℤ
stamped_apart observer sent later = pos observer.unit *ℤ (later.frame.stamp -ℤ sent.frame.stamp)

-- a log is seen of a run: its frames are sent there; over two double cycles that follow each other the observer's clock is
-- straight, with a rate within its drift, and stamps each of their frames at its arrival; delays keep their limits and their
-- jitter; no frame is there twice; and where no long silence lies between two of them they come in time
pub record IsSeenOf
    (x : Setting) (h : Cycles) (base : ℕ) (observer : Observer) (delays : ℕ → Channel → Delays) (clock : ℕ → StraightClock)
    (log : List SentFrame)
    : Type 0 where
  pub whole_base : base % 64 ≡ 0
  pub within_drift : (double : ℕ) → IsWithinDrift observer.drift (clock double)
  pub sent : All (IsSentIn x h base) log
  pub read :
      (frame : SentFrame) (double : ℕ) → Contains log frame → IsInWindow frame.cycle double
      → IsStamped observer (delays frame.node frame.frame.channel) (clock double)
      (action_instant x.params frame.row frame.frame.slot) frame.delay frame.frame.stamp
  pub jitter :
      (frame later : SentFrame) (double : ℕ) → Contains log frame → Contains log later
      → IsInWindow frame.cycle double → IsInWindow later.cycle double
      → later.node ≡ frame.node → later.frame.channel ≡ frame.frame.channel
      → IsWithin (pos (delays frame.node frame.frame.channel).jitter) (later.delay -ℤ frame.delay)
  pub once :
      (frame other : SentFrame) → Contains log frame → Contains log other → other.cycle ≡ frame.cycle
      → other.frame.slot ≡ frame.frame.slot → other.frame.channel ≡ frame.frame.channel → other.frame ≡ frame.frame
  pub timely :
      (frame later : SentFrame) → Contains log frame → Contains log later
      → IsBetween (pos 0) (longest_silence x.params) (stamped_apart observer frame later)
      → is_timely x.params (stamped_apart observer frame later) (later.frame.number -ℤ frame.frame.number)
      (sent_macrotick x later -ℤ sent_macrotick x frame)
      ≡ true

-- then the numbers of its frames are found from each to any later one that no long silence lies before
abbrev pub SeenNumbersAreFound : Type 0
SeenNumbersAreFound =
    (x : Setting) (h : Cycles) (base : ℕ) (observer : Observer) (delays : ℕ → Channel → Delays) (clock : ℕ → StraightClock)
    (log : List SentFrame) (frame later : SentFrame)
    → IsSane x.params → IsSeenOf x h base observer delays clock log → Contains log frame → Contains log later
    → IsBetween (pos 0) (longest_silence x.params) (stamped_apart observer frame later)
    → next_number frame.frame.number later.frame.count ≡ later.frame.number

-- ---- courses by a log

-- where the action point of a frame can lie, and how far apart two of one node on a channel
abbrev pub box_of : Observer → (ℕ → Channel → Delays) → SentFrame → Interval
box_of observer delays sent = stamped observer (delays sent.node sent.frame.channel) sent.frame.stamp

abbrev pub span_between : Observer → (ℕ → Channel → Delays) → SentFrame × SentFrame → Interval
span_between observer delays pair =
    span_of observer (delays pair.0.node pair.0.frame.channel) pair.0.frame.stamp pair.1.frame.stamp

-- a frame of a log that a node sent in a slot of a cycle
pub record IsSentBy (log : List SentFrame) (node slot cycle : ℕ) (sent : SentFrame) : Type 0 where
  pub there : Contains log sent
  pub by_node : sent.node ≡ node
  pub in_slot : sent.frame.slot ≡ slot
  pub in_cycle : sent.cycle ≡ cycle

-- two frames of it on one channel, of one cycle and another
pub record ArePaired (log : List SentFrame) (node slot cycle later : ℕ) (pair : SentFrame × SentFrame) : Type 0 where
  pub first : IsSentBy log node slot cycle pair.0
  pub second : IsSentBy log node slot later pair.1
  pub channel : pair.1.frame.channel ≡ pair.0.frame.channel

-- some frames of both cycles of a double cycle, and pairs of them
pub record Picked : Type 0 where
  pub even : List SentFrame
  pub odd : List SentFrame
  pub pairs : List (SentFrame × SentFrame)

pub record ArePicked (log : List SentFrame) (node slot double : ℕ) (picked : Picked) : Type 0 where
  pub in_even : All (IsSentBy log node slot (2 * double)) picked.even
  pub in_odd : All (IsSentBy log node slot (suc (2 * double))) picked.odd
  pub paired : All (ArePaired log node slot (2 * double) (suc (2 * double))) picked.pairs

-- a course is that of the node by these frames
abbrev pub IsCourseBy : Setting → Observer → (ℕ → Channel → Delays) → ℕ → Picked → Course → Type 0
IsCourseBy x observer delays slot picked course =
    course_from (reading_scale observer.drift x.params) (pos (action_point_of x.params slot))
    (meet_all (map (box_of observer delays) picked.even))
    (meet_all (map (box_of observer delays) picked.odd))
    (meet_all (map (span_between observer delays) picked.pairs))
    ≡ Some course

-- a node with a row in both cycles of a double cycle, whose slot is a static one
pub record HasRows (x : Setting) (h : Cycles) (node slot double : ℕ) (even odd : NodeRow) : Type 0 where
  pub even_cycle : Cycle
  pub odd_cycle : Cycle
  pub has : HasDouble h double even_cycle odd_cycle
  pub even_row : row_of even_cycle.told.rows node ≡ Some even
  pub odd_row : row_of odd_cycle.told.rows node ≡ Some odd
  pub slot_from : 1 ≤ slot
  pub slot_to : slot ≤ amount x.params name.gNumberOfStaticSlots

-- its course by frames of a log that is seen of the run holds, read by the clock of its double cycle or of the one before
abbrev pub SeenCoursesHold : Type 0
SeenCoursesHold =
    (x : Setting) (h : Cycles) (base : ℕ) (observer : Observer) (delays : ℕ → Channel → Delays) (clock : ℕ → StraightClock)
    (log : List SentFrame) (node slot double window : ℕ) (even odd : NodeRow) (picked : Picked) (course : Course)
    → IsTimedRun x h → IsSeenOf x h base observer delays clock log → HasRows x h node slot double even odd
    → ArePicked log node slot double picked → (double ≡ window) ⊎ (double ≡ suc window)
    → IsCourseBy x observer delays slot picked course
    → IsOnCourse x.params observer.drift (clock window) (record { course = course; even = even; odd = odd })

-- and in two double cycles one after the other it goes on, so that its terms are seen
abbrev pub SeenNodesGoOn : Type 0
SeenNodesGoOn =
    (x : Setting) (h : Cycles) (base : ℕ) (observer : Observer) (delays : ℕ → Channel → Delays) (clock : ℕ → StraightClock)
    (log : List SentFrame) (node slot double : ℕ) (even odd next_even next_odd : NodeRow) (picked next_picked : Picked)
    (course next_course : Course) (onward : List (SentFrame × SentFrame))
    → IsTimedRun x h → IsSeenOf x h base observer delays clock log
    → HasRows x h node slot double even odd → HasRows x h node slot (suc double) next_even next_odd
    → ArePicked log node slot double picked → ArePicked log node slot (suc double) next_picked
    → All (ArePaired log node slot (suc (2 * double)) (2 * suc double)) onward
    → IsCourseBy x observer delays slot picked course → IsCourseBy x observer delays slot next_picked next_course
    → GoesOn x.params observer.drift (clock double)
    (record {
      first = record { course = course; even = even; odd = odd };
      second = record { course = next_course; even = next_even; odd = next_odd };
    })
    (meet_all (map (span_between observer delays) onward))
