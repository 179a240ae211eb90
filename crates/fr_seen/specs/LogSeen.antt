-- A log as it is read, seen of a run; and what the rows of its text then say of the nodes of the run.
use Rattle.std.specs.Prelude.{◌≡◌, ◌+◌, ◌/◌, ℕ, suc, ℤ, pos, ◌+ℤ◌, Bool, false, true, List, [], ◌∷◌, All, Contains, filter_map, map, Option, None, IfSome, IsSome}
use Rattle.std.specs.List.{AllZip}
use Rattle.fr_base.specs.Within.{IsBetween}
use Rattle.fr_base.specs.declared.channel.Channel.{Channel}
use Rattle.fr_base.specs.declared.node_row.NodeRow.{NodeRow}
use Rattle.fr_bound.specs.Sync.{cycle_length_of}
use Rattle.fr_cluster.specs.Sane.{IsSane}
use Rattle.fr_cluster.specs.Setting.{Setting}
use Rattle.fr_cluster.specs.Values.{Values}
use Rattle.fr_history.specs.Cycles.{Cycle, Cycles}
use Rattle.fr_history.specs.History.{row_for, row_of}
use Rattle.fr_runs.specs.Numbers.{HasDouble}
use Rattle.fr_log.specs.View.{IsLog, LogView}
use Rattle.fr_log.specs.declared.entry.Entry.{Entry}
use Rattle.fr_course.specs.Readings.{reading_scale}
use Rattle.fr_course.specs.declared.courses.Course.{Course}
use Rattle.fr_course.specs.declared.stamps.Delays.{Delays}
use Rattle.fr_observe.specs.Observing.{even_high, even_low, odd_high, odd_low, says_of, senders_of, terms_of}
use Rattle.fr_sightings.specs.Senders.{delays_in, observer_of}
use Rattle.fr_sightings.specs.Sightings.{fate_of, sighting_in, sightings_of, untimely_of}
use Rattle.fr_observe.specs.declared.says.Says.{Says}
use Rattle.fr_observe.specs.declared.says.Says.TheVariants.{Over, Within, Open}
use Rattle.fr_sightings.specs.declared.sender.Sender.{Sender}
use Rattle.fr_sightings.specs.declared.sighting.Sighting.{Sighting}
use Rattle.fr_seen.specs.Clocks.{LastsIn, StraightClock}
use Rattle.fr_seen.specs.Observed.{IsSeenOf, SentFrame}
use Rattle.fr_seen.specs.RunRows.{IsTimedRun}
use Rattle.fr_seen.specs.Skews.{HasSkew, IsOnCourse, SeenNode, SeenTwice, StaysWithin}
use Rattle.fr_seen.specs.TermsSeen.{GoesOn}

-- ---- a log that is seen

-- the frames of a log that are judged, in their order: what each of its entries is as the first one, so that its number
-- is its count
abbrev pub judged_in : Values → LogView → Entry → Option Sighting
judged_in p l e = sighting_in (fate_of p l None e)

unfoldable pub judged_of : Values → LogView → List Sighting
judged_of p l = filter_map (judged_in p l) l.entries

-- what is told of a frame that was sent, but for its number
pub record IsToldOf (judged : Sighting) (sent : SentFrame) : Type 0 where
  pub by_node : sent.node ≡ judged.node
  pub slot : sent.frame.slot ≡ judged.slot
  pub channel : sent.frame.channel ≡ judged.channel
  pub count : sent.frame.count ≡ judged.count
  pub stamp : sent.frame.stamp ≡ pos judged.stamp

-- the cycle count of the first of some frames is the number of its cycle
abbrev pub BeginsAsCounted : List SentFrame → Type 0
BeginsAsCounted [] = Unit {0}
BeginsAsCounted (first ∷ others) = first.frame.number ≡ pos first.frame.count

-- a log is seen of a run: what is judged of its entries is what was sent there, so many cycles behind those of their
-- numbers; delays keep the limits that the log says, and the observer's clock those of its head
pub record IsLogSeen
    (x : Setting) (h : Cycles) (base : ℕ) (delays : ℕ → Channel → Delays) (clock : ℕ → StraightClock) (l : LogView)
    : Type 0 where
  pub sent : List SentFrame
  pub seen : IsSeenOf x h base (observer_of l) delays clock sent
  pub told : AllZip IsToldOf (judged_of x.params l) sent
  pub limits :
      (node : ℕ) (channel : Channel) → IfSome (delays_in l node channel) (λ limits. delays node channel ≡ limits)
  pub first : BeginsAsCounted sent

-- ---- its sightings

-- a sighting is that of a frame that was sent, and has the number of its cycle
pub record IsSightingOf (sighting : Sighting) (sent : SentFrame) : Type 0 where
  pub number : sent.frame.number ≡ pos sighting.number
  pub told : IsToldOf sighting sent

-- it is that of one of some frames
pub record IsAmongSent (log : List SentFrame) (sighting : Sighting) : Type 0 where
  pub sent : SentFrame
  pub there : Contains log sent
  pub is : IsSightingOf sighting sent

-- so is each sighting of a log that is seen of a run: none of them has a wrong number
abbrev pub SightingsAreSent : Type 0
SightingsAreSent =
    (x : Setting) (h : Cycles) (base : ℕ) (delays : ℕ → Channel → Delays) (clock : ℕ → StraightClock) (l : LogView)
    → IsSane x.params → IsLog l → (seen : IsLogSeen x h base delays clock l)
    → All (IsAmongSent seen.sent) (sightings_of x.params l)

-- and none of its judged frames comes at another time than its cycle count says
abbrev pub NoFrameIsUntimely : Type 0
NoFrameIsUntimely =
    (x : Setting) (h : Cycles) (base : ℕ) (delays : ℕ → Channel → Delays) (clock : ℕ → StraightClock) (l : LogView)
    → IsSane x.params → IsLog l → IsLogSeen x h base delays clock l → untimely_of x.params l ≡ []

-- ---- its senders

-- those of a double cycle
abbrev pub log_senders : Setting → LogView → ℕ → List Sender
log_senders x l double = senders_of (reading_scale l.drift x.params) x.params l (sightings_of x.params l) double

-- the double cycle of the run that is one of the log
abbrev pub run_double : ℕ → ℕ → ℕ
run_double base double = double + base / 2

-- a sender with its rows in a double cycle, and with those of the next one
abbrev pub seen_in : Cycle → Cycle → Sender → SeenNode
seen_in even odd s =
    record { course = s.course; even = row_for even.told.rows s.node; odd = row_for odd.told.rows s.node }

abbrev pub seen_next : Cycle → Cycle → ℕ → Course → SeenNode
seen_next even odd node course =
    record { course = course; even = row_for even.told.rows node; odd = row_for odd.told.rows node }

abbrev pub seen_twice : Cycle → Cycle → Cycle → Cycle → Sender → Course → SeenTwice
seen_twice even odd next_even next_odd s course =
    record { first = seen_in even odd s; second = seen_next next_even next_odd s.node course }

-- a node has rows in both cycles
pub record HasBoth (even odd : Cycle) (node : ℕ) : Type 0 where
  pub in_even : IsSome (row_of even.told.rows node)
  pub in_odd : IsSome (row_of odd.told.rows node)

-- a sender is a node with both rows, and its course holds of these
pub record IsSenderOn (x : Setting) (drift : ℕ) (clock : StraightClock) (even odd : Cycle) (s : Sender) : Type 0 where
  pub rows : HasBoth even odd s.node
  pub on : IsOnCourse x.params drift clock (seen_in even odd s)

-- and where it is one of the next double cycle too, it goes on
pub record GoesOnBy
    (x : Setting) (drift : ℕ) (clock : StraightClock) (even odd next_even next_odd : Cycle) (s : Sender)
    (course : Course)
    : Type 0 where
  pub rows : HasBoth next_even next_odd s.node
  pub goes : GoesOn x.params drift clock (seen_twice even odd next_even next_odd s course) s.onward

abbrev pub SenderGoesOn : Setting → ℕ → StraightClock → Cycle → Cycle → Cycle → Cycle → Sender → Type 0
SenderGoesOn x drift clock even odd next_even next_odd s =
    IfSome s.next (GoesOnBy x drift clock even odd next_even next_odd s)

abbrev pub SendersAreOnCourse : Type 0
SendersAreOnCourse =
    (x : Setting) (h : Cycles) (base : ℕ) (delays : ℕ → Channel → Delays) (clock : ℕ → StraightClock) (l : LogView)
    (double : ℕ) (even odd : Cycle)
    → IsTimedRun x h → IsLog l → IsLogSeen x h base delays clock l → HasDouble h (run_double base double) even odd
    → All (IsSenderOn x l.drift (clock (run_double base double)) even odd) (log_senders x l double)

abbrev pub SendersGoOn : Type 0
SendersGoOn =
    (x : Setting) (h : Cycles) (base : ℕ) (delays : ℕ → Channel → Delays) (clock : ℕ → StraightClock) (l : LogView)
    (double : ℕ) (even odd next_even next_odd : Cycle)
    → IsTimedRun x h → IsLog l → IsLogSeen x h base delays clock l → HasDouble h (run_double base double) even odd
    → HasDouble h (suc (run_double base double)) next_even next_odd
    → All (SenderGoesOn x l.drift (clock (run_double base double)) even odd next_even next_odd) (log_senders x l double)

-- ---- the rows of its text

-- the rows of senders in a cycle
abbrev pub sender_rows : Cycle → List Sender → List NodeRow
sender_rows cycle senders = map (λ s. row_for cycle.told.rows s.node) senders

-- what the row of the even cycle says of their skew, and that of the odd cycle, holds: but for its upper limit, which
-- rests on the next double cycle
pub record CycleRowsHold (x : Setting) (drift : ℕ) (even odd : Cycle) (senders : List Sender) : Type 0 where
  pub even_from : HasSkew x.params false (sender_rows even senders) (even_low (reading_scale drift x.params) senders)
  pub even_to :
      IfSome (even_high (reading_scale drift x.params) senders) (StaysWithin x.params false (sender_rows even senders))
  pub odd_from : HasSkew x.params true (sender_rows odd senders) (odd_low (reading_scale drift x.params) senders)

abbrev pub OddRowHolds : Setting → ℕ → Cycle → List Sender → Type 0
OddRowHolds x drift odd senders =
    IfSome (odd_high (reading_scale drift x.params) senders) (StaysWithin x.params true (sender_rows odd senders))

-- both of its cycles last as long as the row of a node says, read by the observer's clock
pub record NodeRowHolds (x : Setting) (clock : StraightClock) (even odd : Cycle) (s : Sender) : Type 0 where
  pub even_lasts : LastsIn clock s.course.length (cycle_length_of x.params (row_for even.told.rows s.node))
  pub odd_lasts : LastsIn clock s.course.length (cycle_length_of x.params (row_for odd.told.rows s.node))

-- and its offset term is what that row says
abbrev pub TermHolds : Setting → ℕ → Cycle → Sender → Type 0
TermHolds x drift odd s =
    IfSome (terms_of (reading_scale drift x.params) s)
    (λ term. IsBetween term.low term.high (row_for odd.told.rows s.node).offset)

-- what the text of a log says of a double cycle
pub record RowsHold
    (x : Setting) (drift : ℕ) (clock : StraightClock) (even odd : Cycle) (senders : List Sender)
    : Type 0 where
  pub rows : All (λ s. HasBoth even odd s.node) senders
  pub cycles : CycleRowsHold x drift even odd senders
  pub nodes : All (NodeRowHolds x clock even odd) senders

-- and what it says of that by the next one
pub record NextRowsHold (x : Setting) (drift : ℕ) (odd : Cycle) (senders : List Sender) : Type 0 where
  pub cycle : OddRowHolds x drift odd senders
  pub terms : All (TermHolds x drift odd) senders

-- it is so in each run that the log is seen of, in sync or not
abbrev pub ObservedRowsHold : Type 0
ObservedRowsHold =
    (x : Setting) (h : Cycles) (base : ℕ) (delays : ℕ → Channel → Delays) (clock : ℕ → StraightClock) (l : LogView)
    (double : ℕ) (even odd : Cycle)
    → IsTimedRun x h → IsLog l → IsLogSeen x h base delays clock l → HasDouble h (run_double base double) even odd
    → RowsHold x l.drift (clock (run_double base double)) even odd (log_senders x l double)

abbrev pub ObservedNextRowsHold : Type 0
ObservedNextRowsHold =
    (x : Setting) (h : Cycles) (base : ℕ) (delays : ℕ → Channel → Delays) (clock : ℕ → StraightClock) (l : LogView)
    (double : ℕ) (even odd next_even next_odd : Cycle)
    → IsTimedRun x h → IsLog l → IsLogSeen x h base delays clock l → HasDouble h (run_double base double) even odd
    → HasDouble h (suc (run_double base double)) next_even next_odd
    → NextRowsHold x l.drift odd (log_senders x l double)

-- the word of a cycle's row is so: over, that the instants of some macrotick lie further apart than the precision;
-- within, that those of none do
abbrev pub SaysSo : Values → Bool → List NodeRow → ℤ → Says → Type 0
SaysSo p odd rows precision Over = HasSkew p odd rows (precision +ℤ pos 1)
SaysSo p odd rows precision Within = StaysWithin p odd rows precision
SaysSo p odd rows precision Open = Unit {0}

abbrev pub EvenWordsHold : Type 0
EvenWordsHold =
    (x : Setting) (h : Cycles) (base : ℕ) (delays : ℕ → Channel → Delays) (clock : ℕ → StraightClock) (l : LogView)
    (double : ℕ) (even odd : Cycle) (precision : ℤ)
    → IsTimedRun x h → IsLog l → IsLogSeen x h base delays clock l → HasDouble h (run_double base double) even odd
    → SaysSo x.params false (sender_rows even (log_senders x l double)) precision
    (says_of precision (even_low (reading_scale l.drift x.params) (log_senders x l double))
    (even_high (reading_scale l.drift x.params) (log_senders x l double)))

abbrev pub OddWordsHold : Type 0
OddWordsHold =
    (x : Setting) (h : Cycles) (base : ℕ) (delays : ℕ → Channel → Delays) (clock : ℕ → StraightClock) (l : LogView)
    (double : ℕ) (even odd next_even next_odd : Cycle) (precision : ℤ)
    → IsTimedRun x h → IsLog l → IsLogSeen x h base delays clock l → HasDouble h (run_double base double) even odd
    → HasDouble h (suc (run_double base double)) next_even next_odd
    → SaysSo x.params true (sender_rows odd (log_senders x l double)) precision
    (says_of precision (odd_low (reading_scale l.drift x.params) (log_senders x l double))
    (odd_high (reading_scale l.drift x.params) (log_senders x l double)))
