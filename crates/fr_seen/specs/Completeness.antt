-- That what can be seen is said: how wide at most the corners of a sender's course are that has frames in both cycles on a
-- channel; where two such senders lie too far apart for their stamps to hide it, the row of the cycle says over; and where all
-- lie near enough, it says within.
use Rattle.std.specs.Prelude.{◌≡◌, ◌⊎◌, ◌+◌, ◌*◌, ℕ, suc, Bool, false, true, ℤ, pos, ◌+ℤ◌, ◌-ℤ◌, ◌*ℤ◌, ◌≤ℤ◌, ◌<ℤ◌, Contains, Some, IsSome}
use Rattle.fr_base.specs.declared.channel.Channel.{Channel}
use Rattle.fr_bound.specs.Bounds.{longest_micro, nominal}
use Rattle.fr_bound.specs.Sync.{cycle_length_of}
use Rattle.fr_cluster.specs.Setting.{Setting}
use Rattle.fr_time.specs.Instant.{instant_of}
use Rattle.fr_time.specs.Position.{grid_for}
use Rattle.fr_history.specs.Cycles.{Cycle, Cycles}
use Rattle.fr_history.specs.History.{row_for}
use Rattle.fr_runs.specs.Numbers.{HasDouble}
use Rattle.fr_log.specs.View.{LogView}
use Rattle.fr_course.specs.Course.{breadth_of, even_start, even_turn, odd_start, odd_turn}
use Rattle.fr_course.specs.Readings.{fast_million, least_reading, most_reading, reading_scale, slow_million}
use Rattle.fr_course.specs.declared.courses.Course.{Course}
use Rattle.fr_course.specs.declared.intervals.Interval.{Interval}
use Rattle.fr_course.specs.Scales.{Scale}
use Rattle.fr_course.specs.declared.stamps.Delays.{Delays}
use Rattle.fr_course.specs.declared.stamps.Observer.{Observer}
use Rattle.fr_observe.specs.Observing.{even_high, even_low, odd_high, odd_low, says_of}
use Rattle.fr_observe.specs.declared.says.Says.{Says}
use Rattle.fr_observe.specs.declared.says.Says.TheVariants.{Over, Within}
use Rattle.fr_sightings.specs.Senders.{delays_in, first_stamp, observer_of, sightings_in}
use Rattle.fr_sightings.specs.Sightings.{sightings_of}
use Rattle.fr_sightings.specs.declared.sender.Sender.{Sender}
use Rattle.fr_seen.specs.Clocks.{StraightClock}
use Rattle.fr_seen.specs.LogSeen.{log_senders, run_double}
use Rattle.fr_seen.specs.Contradictions.{IsObservedRun}

-- ---- how wide corners are, in ticks of the observer's clock

-- so wide is the interval in which a stamp has an action point, by the limits of its delay
abbrev pub stamp_width : Observer → Delays → ℤ
stamp_width observer delays =
    breadth_of observer +ℤ (most_reading observer.drift (pos delays.most) -ℤ least_reading observer.drift (pos delays.least))

-- so wide at most is that of a cycle's length, by two stamps of a channel and the jitter of delays
abbrev pub length_width : Scale → Observer → Delays → ℤ
length_width scale observer delays =
    (pos 2 *ℤ (breadth_of observer +ℤ most_reading observer.drift (pos delays.jitter))) +ℤ (pos 2 *ℤ scale.change)

-- and that of a corner: both, a microtick of rounding, and two roundings of readings
abbrev pub corner_width : Scale → Observer → Delays → ℤ
corner_width scale observer delays =
    (stamp_width observer delays +ℤ length_width scale observer delays) +ℤ (scale.micro_to +ℤ pos 2)

-- an interval is no wider
abbrev pub IsNoWider : ℤ → Interval → Type 0
IsNoWider width interval = (interval.high -ℤ interval.low) ≤ℤ width

-- so are all four corners of a course
pub record HasNarrowCorners (scale : Scale) (width : ℤ) (course : Course) : Type 0 where
  pub even_starts : IsNoWider width (even_start scale course)
  pub odd_starts : IsNoWider width (odd_start scale course)
  pub even_turns : IsNoWider width (even_turn scale course)
  pub odd_turns : IsNoWider width (odd_turn scale course)

-- a sender has frames in both cycles of a double cycle on a channel, by whose limits its corners are no wider
pub record IsSharp (x : Setting) (l : LogView) (double : ℕ) (width : ℤ) (s : Sender) : Type 0 where
  pub channel : Channel
  pub limits : Delays
  pub limited : delays_in l s.node channel ≡ Some limits
  pub in_even : IsSome (first_stamp (sightings_in (sightings_of x.params l) double) s.node channel (2 * double))
  pub in_odd : IsSome (first_stamp (sightings_in (sightings_of x.params l) double) s.node channel (2 * double + 1))
  pub width_to : corner_width (reading_scale l.drift x.params) (observer_of l) limits ≤ℤ width

-- so its corners are
abbrev pub CornersAreNarrow : Type 0
CornersAreNarrow =
    (x : Setting) (h : Cycles) (base : ℕ) (delays : ℕ → Channel → Delays) (clock : ℕ → StraightClock) (l : LogView)
    (double : ℕ) (even odd : Cycle) (width : ℤ) (s : Sender)
    → IsObservedRun x h base delays clock l → HasDouble h (run_double base double) even odd
    → Contains (log_senders x l double) s → IsSharp x l double width s
    → HasNarrowCorners (reading_scale l.drift x.params) width s.course

-- ---- over

-- how many millionths of a tick of the observer's clock two corners so wide can hide: as often as a million
abbrev pub hidden_by : Scale → ℤ → ℤ
hidden_by scale width = pos nominal *ℤ (pos 2 *ℤ (width +ℤ scale.micro_to))

-- ticks that are above the precision by more than that, as the slowest clock reads them and the fastest the precision
abbrev pub IsBeyond : Scale → ℤ → ℤ → ℤ → Type 0
IsBeyond scale width precision apart =
    ((fast_million scale.drift *ℤ precision) +ℤ hidden_by scale width) <ℤ (slow_million scale.drift *ℤ apart)

-- two sharp senders of a double cycle of a log
pub record HasTwoSharp (x : Setting) (l : LogView) (double : ℕ) (width : ℤ) (early late : Sender) : Type 0 where
  pub early_there : Contains (log_senders x l double) early
  pub late_there : Contains (log_senders x l double) late
  pub early_sharp : IsSharp x l double width early
  pub late_sharp : IsSharp x l double width late

-- when the cycle of a sender starts, and when its macrotick comes at which an offset correction would start
abbrev pub starting_in : Cycle → Sender → ℤ
starting_in cycle s = (row_for cycle.told.rows s.node).start

abbrev pub turn_in : Setting → Bool → Cycle → Sender → ℤ
turn_in x odd cycle s = instant_of (grid_for x.params) (row_for cycle.told.rows s.node) odd x.params.correction

-- how much later than that of another sender a macrotick of a cycle comes, less a microtick
abbrev pub behind_by : Setting → Bool → Cycle → ℤ → Sender → Sender → ℤ
behind_by x odd cycle macrotick early late =
    (instant_of (grid_for x.params) (row_for cycle.told.rows late.node) odd macrotick
    -ℤ instant_of (grid_for x.params) (row_for cycle.told.rows early.node) odd macrotick)
    -ℤ pos (longest_micro x.params)

-- what the rows of both cycles of a double cycle say
abbrev pub EvenSays : Setting → LogView → ℕ → ℤ → Says → Type 0
EvenSays x l double precision says =
    says_of precision (even_low (reading_scale l.drift x.params) (log_senders x l double))
    (even_high (reading_scale l.drift x.params) (log_senders x l double))
    ≡ says

abbrev pub OddSays : Setting → LogView → ℕ → ℤ → Says → Type 0
OddSays x l double precision says =
    says_of precision (odd_low (reading_scale l.drift x.params) (log_senders x l double))
    (odd_high (reading_scale l.drift x.params) (log_senders x l double))
    ≡ says

-- one sender comes so much behind another at the start of a cycle, or at the macrotick at which an offset correction would
-- start: the row of that cycle says over
pub record CornersAreTold
    (x : Setting) (l : LogView) (double : ℕ) (even odd : Cycle) (width precision : ℤ) (early late : Sender)
    : Type 0 where
  pub even_starts :
      IsBeyond (reading_scale l.drift x.params) width precision (starting_in even late -ℤ starting_in even early)
      → EvenSays x l double precision Over
  pub even_turns :
      IsBeyond (reading_scale l.drift x.params) width precision (turn_in x false even late -ℤ turn_in x false even early)
      → EvenSays x l double precision Over
  pub odd_starts :
      IsBeyond (reading_scale l.drift x.params) width precision (starting_in odd late -ℤ starting_in odd early)
      → OddSays x l double precision Over
  pub odd_turns :
      IsBeyond (reading_scale l.drift x.params) width precision (turn_in x true odd late -ℤ turn_in x true odd early)
      → OddSays x l double precision Over

abbrev pub FarSendersAreTold : Type 0
FarSendersAreTold =
    (x : Setting) (h : Cycles) (base : ℕ) (delays : ℕ → Channel → Delays) (clock : ℕ → StraightClock) (l : LogView)
    (double : ℕ) (even odd : Cycle) (width precision : ℤ) (early late : Sender)
    → IsObservedRun x h base delays clock l → HasDouble h (run_double base double) even odd
    → HasTwoSharp x l double width early late → pos 0 ≤ℤ precision
    → CornersAreTold x l double even odd width precision early late

-- it comes so much behind, and a microtick, at any macrotick: of an even cycle, and its row or that of the odd one says over;
-- of an odd one, up to where an offset correction would start, and its row does
pub record MacroticksAreTold
    (x : Setting) (l : LogView) (double : ℕ) (even odd : Cycle) (width precision : ℤ) (early late : Sender)
    : Type 0 where
  pub in_even :
      (macrotick : ℤ) → pos 0 ≤ℤ macrotick → macrotick ≤ℤ x.params.macros
      → IsBeyond (reading_scale l.drift x.params) width precision (behind_by x false even macrotick early late)
      → EvenSays x l double precision Over ⊎ OddSays x l double precision Over
  pub in_odd :
      (macrotick : ℤ) → pos 0 ≤ℤ macrotick → macrotick ≤ℤ x.params.correction
      → IsBeyond (reading_scale l.drift x.params) width precision (behind_by x true odd macrotick early late)
      → OddSays x l double precision Over

abbrev pub FarMacroticksAreTold : Type 0
FarMacroticksAreTold =
    (x : Setting) (h : Cycles) (base : ℕ) (delays : ℕ → Channel → Delays) (clock : ℕ → StraightClock) (l : LogView)
    (double : ℕ) (even odd : Cycle) (width precision : ℤ) (early late : Sender)
    → IsObservedRun x h base delays clock l → HasDouble h (run_double base double) even odd
    → HasTwoSharp x l double width early late → pos 0 ≤ℤ precision
    → MacroticksAreTold x l double even odd width precision early late

-- at any macrotick of an odd cycle, where both are such senders of the next double cycle too: its row or that of the next cycle
-- says over
abbrev pub FarOddMacroticksAreTold : Type 0
FarOddMacroticksAreTold =
    (x : Setting) (h : Cycles) (base : ℕ) (delays : ℕ → Channel → Delays) (clock : ℕ → StraightClock) (l : LogView)
    (double : ℕ) (even odd next_even next_odd : Cycle) (width precision macrotick : ℤ)
    (early late next_early next_late : Sender)
    → IsObservedRun x h base delays clock l → HasDouble h (run_double base double) even odd
    → HasDouble h (suc (run_double base double)) next_even next_odd
    → HasTwoSharp x l double width early late → HasTwoSharp x l (double + 1) width next_early next_late
    → next_early.node ≡ early.node → next_late.node ≡ late.node → pos 0 ≤ℤ precision
    → pos 0 ≤ℤ macrotick → macrotick ≤ℤ x.params.macros
    → IsBeyond (reading_scale l.drift x.params) width precision (behind_by x true odd macrotick early late)
    → OddSays x l double precision Over ⊎ EvenSays x l (double + 1) precision Over

-- ---- within

-- so many ticks, as the fastest clock reads them, with what corners can hide are no more than the precision on the slowest
abbrev pub IsNearEnough : Scale → ℤ → ℤ → ℤ → Type 0
IsNearEnough scale width precision apart =
    ((fast_million scale.drift *ℤ apart) +ℤ hidden_by scale width) ≤ℤ (slow_million scale.drift *ℤ precision)

-- there are senders, all of them sharp
pub record AreAllSharp (x : Setting) (l : LogView) (double : ℕ) (width : ℤ) : Type 0 where
  pub some : Sender
  pub there : Contains (log_senders x l double) some
  pub sharp : (s : Sender) → Contains (log_senders x l double) s → IsSharp x l double width s

-- no two of the senders of a double cycle start a cycle further apart, in ticks
abbrev pub StartWithin : Setting → LogView → ℕ → Cycle → ℤ → Type 0
StartWithin x l double cycle apart =
    (one other : Sender) → Contains (log_senders x l double) one → Contains (log_senders x l double) other
    → (starting_in cycle one -ℤ starting_in cycle other) ≤ℤ apart

-- where both starts are near enough, the row of the even cycle says within
abbrev pub NearSendersAreWithin : Type 0
NearSendersAreWithin =
    (x : Setting) (h : Cycles) (base : ℕ) (delays : ℕ → Channel → Delays) (clock : ℕ → StraightClock) (l : LogView)
    (double : ℕ) (even odd : Cycle) (width precision apart : ℤ)
    → IsObservedRun x h base delays clock l → HasDouble h (run_double base double) even odd
    → AreAllSharp x l double width → pos 0 ≤ℤ precision
    → StartWithin x l double even apart → StartWithin x l double odd apart
    → IsNearEnough (reading_scale l.drift x.params) width precision apart
    → EvenSays x l double precision Within

-- the point of a cycle at which an offset correction would start, in ticks, as often as a cycle has macroticks
abbrev pub turning_in : Setting → Cycle → Sender → ℤ
turning_in x cycle s =
    (x.params.macros *ℤ starting_in cycle s)
    +ℤ (x.params.correction *ℤ cycle_length_of x.params (row_for cycle.told.rows s.node))

-- no two of these points lie further apart, in ticks
abbrev pub TurnWithin : Setting → LogView → ℕ → Cycle → ℤ → Type 0
TurnWithin x l double cycle apart =
    (one other : Sender) → Contains (log_senders x l double) one → Contains (log_senders x l double) other
    → (turning_in x cycle one -ℤ turning_in x cycle other) ≤ℤ (x.params.macros *ℤ apart)

-- all senders have such frames in the next double cycle too
abbrev pub AreSharpNext : Setting → LogView → ℕ → ℤ → Type 0
AreSharpNext x l double width = (s : Sender) → Contains (log_senders x l double) s → IsSharp x l (double + 1) width s

-- where the starts of the odd and of the next cycle and these points of the odd one are near enough, its row says within
abbrev pub NearOddSendersAreWithin : Type 0
NearOddSendersAreWithin =
    (x : Setting) (h : Cycles) (base : ℕ) (delays : ℕ → Channel → Delays) (clock : ℕ → StraightClock) (l : LogView)
    (double : ℕ) (even odd next_even next_odd : Cycle) (width precision apart : ℤ)
    → IsObservedRun x h base delays clock l → HasDouble h (run_double base double) even odd
    → HasDouble h (suc (run_double base double)) next_even next_odd
    → AreAllSharp x l double width → AreSharpNext x l double width → pos 0 ≤ℤ precision
    → StartWithin x l double odd apart → TurnWithin x l double odd apart → StartWithin x l double next_even apart
    → IsNearEnough (reading_scale l.drift x.params) width precision apart
    → OddSays x l double precision Within
