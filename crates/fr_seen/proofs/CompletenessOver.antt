-- The rows of cycles in which sharp senders lie far apart say over.
use Rattle.std.proofs.Common.{◌≡◌, ◌≤◌, ℕ, true, false, Option, ℤ, pos, List, All, refl, sym, subst, arith}
use Rattle.std.specs.Prelude.{◌+ℤ◌, ◌-ℤ◌, ◌*ℤ◌, ◌≤ℤ◌, ◌<ℤ◌, int_lt, Contains}
use Rattle.std.specs.Int.{int_max}
use Rattle.std.proofs.lemmas.Int.{ints}
use Rattle.std.proofs.lemmas.List.Elements.{All-contains, All-weaker}
use Rattle.std.proofs.lemmas.Simd.{map-map}
use Rattle.fr_base.specs.declared.channel.Channel.{Channel}
use Rattle.fr_bound.specs.Bounds.{longest_micro, nominal}
use Rattle.fr_bound.specs.Sync.{cycle_length_of}
use Rattle.fr_cluster.specs.Setting.{Setting}
use Rattle.fr_midpoint.proofs.Products.{addz-mulz, lez_of_mulz-lez, mulz-lez, mulz_comm}
use Rattle.fr_history.specs.Cycles.{Cycle, Cycles}
use Rattle.fr_history.specs.History.{row_for}
use Rattle.fr_runs.specs.Numbers.{HasDouble}
use Rattle.fr_log.specs.View.{LogView}
use Rattle.fr_course.specs.Course.{even_start, even_turn, odd_start, odd_turn}
use Rattle.fr_course.specs.Readings.{fast_million, least_ticks, reading_scale, slow_million}
use Rattle.fr_course.specs.Spread.{least_at, least_spread}
use Rattle.fr_course.specs.declared.courses.Course.{Course}
use Rattle.fr_course.specs.declared.intervals.Interval.{Interval}
use Rattle.fr_course.specs.Scales.{Scale}
use Rattle.fr_course.specs.declared.stamps.Delays.{Delays}
use Rattle.fr_observe.specs.Observing.{courses_of, even_high, even_low, odd_high, odd_low, says_of}
use Rattle.fr_observe.specs.declared.says.Says.TheVariants.{Over}
use Rattle.fr_sightings.specs.declared.sender.Sender.{Sender}
use Rattle.fr_seen.specs.Clocks.{reading_at, reading_of, IsWithinDrift, ReadsIn, StraightClock}
use Rattle.fr_seen.specs.Courses.{HasCorners, PointReadsIn, rounded_down}
use Rattle.fr_seen.specs.LogSeen.{IsSenderOn, log_senders, run_double}
use Rattle.fr_seen.proofs.CornerLaws.{corners_lie_lem}
use Rattle.fr_seen.proofs.CourseLaws.{apart_reads}
use Rattle.fr_seen.proofs.Doubles.{numbers_of}
use Rattle.fr_seen.proofs.Intervals.{in_order}
use Rattle.fr_seen.proofs.Pairs.{max_left, max_right}
use Rattle.fr_seen.specs.Completeness.{CornersAreTold, EvenSays, FarSendersAreTold, HasNarrowCorners, IsBeyond, IsNoWider, OddSays, starting_in, turn_in}
use Rattle.fr_seen.specs.Contradictions.{IsObservedRun}
use Rattle.fr_seen.proofs.CompletenessSenders.{senders_on, sharp_corners}
use Rattle.fr_seen.proofs.CompletenessTicks.{fast_some, micro_from, near_ends, pair_reached, slow_some, ticks_above}

pub trans : (a b c : ℤ) → a ≤ℤ b → b ≤ℤ c → a ≤ℤ c
trans a b c h k = omega (arith, ints)

-- ---- far apart

-- what is beyond is behind: a product with the slowest clock is above 0
pub behind : (drift : ℕ) (t width k x : ℤ) → drift ≤ 1_000 → pos 0 ≤ℤ k → pos 0 ≤ℤ t → pos 0 ≤ℤ width
    → ((fast_million drift *ℤ k) +ℤ (pos nominal *ℤ (pos 2 *ℤ (width +ℤ t)))) <ℤ (slow_million drift *ℤ x) → pos 0 ≤ℤ x
behind drift t width k x drift_to k_from t_from width_from beyond =
    lez_of_mulz-lez (pos 0) x (slow_million drift) (slow_some drift drift_to)
    (above (pos 0 *ℤ slow_million drift) (fast_million drift *ℤ k) (pos nominal *ℤ (pos 2 *ℤ (width +ℤ t))) (slow_million drift *ℤ x) (x *ℤ slow_million drift) (none (slow_million drift))
    (product (fast_million drift) k (no_less (fast_million drift) (fast_some drift)) k_from) (hidden width t width_from t_from) beyond (mulz_comm x (slow_million drift)))
  where
    no_less : (a : ℤ) → pos 0 <ℤ a → pos 0 ≤ℤ a
    no_less a h = omega (arith, ints)

    none : (a : ℤ) → pos 0 *ℤ a ≡ pos 0
    none a = omega (arith, ints)

    product : (a b : ℤ) → pos 0 ≤ℤ a → pos 0 ≤ℤ b → pos 0 ≤ℤ (a *ℤ b)
    product a b h k = omega (arith, ints, mulz-lez (pos 0) a b h k)

    hidden : (w t : ℤ) → pos 0 ≤ℤ w → pos 0 ≤ℤ t → pos 0 ≤ℤ (pos nominal *ℤ (pos 2 *ℤ (w +ℤ t)))
    hidden w t h k = omega (arith, ints)

    above : (z fk q sx xs : ℤ) → z ≡ pos 0 → pos 0 ≤ℤ fk → pos 0 ≤ℤ q → (fk +ℤ q) <ℤ sx → xs ≡ sx → z ≤ℤ xs
    above z fk q sx xs a b c d e = omega (arith, ints)

-- a reading that is no less than what lies so far apart, but for both widths
pub above_by : (drift : ℕ) (t width k x d y : ℤ) → pos 0 ≤ℤ k → ((fast_million drift *ℤ k) +ℤ (pos nominal *ℤ (pos 2 *ℤ (width +ℤ t)))) <ℤ (slow_million drift *ℤ x)
    → (slow_million drift *ℤ x) ≤ℤ ((d +ℤ (pos 2 *ℤ (width +ℤ t))) *ℤ pos nominal) → d ≤ℤ y → k <ℤ least_ticks drift y
above_by drift t width k x d y from beyond reaches le =
    ticks_above drift y k from
    (less (k *ℤ fast_million drift) (fast_million drift *ℤ k) (pos nominal *ℤ (pos 2 *ℤ (width +ℤ t))) (slow_million drift *ℤ x) ((d +ℤ (pos 2 *ℤ (width +ℤ t))) *ℤ pos nominal) (d *ℤ pos nominal)
    ((pos 2 *ℤ (width +ℤ t)) *ℤ pos nominal) (y *ℤ pos nominal) (mulz_comm k (fast_million drift)) beyond reaches (addz-mulz d (pos 2 *ℤ (width +ℤ t)) (pos nominal))
    (mulz_comm (pos 2 *ℤ (width +ℤ t)) (pos nominal)) (mulz-lez d y (pos nominal) le million_from))
  where
    million_from : pos 0 ≤ℤ pos nominal
    million_from = omega (arith, ints)

    less : (kf fk q sx e dn wn yn : ℤ) → kf ≡ fk → (fk +ℤ q) <ℤ sx → sx ≤ℤ e → e ≡ dn +ℤ wn → wn ≡ q → dn ≤ℤ yn → kf <ℤ yn
    less kf fk q sx e dn wn yn a b c d f g = omega (arith, ints)

pub over_is : (precision low : ℤ) (high : Option ℤ) → precision <ℤ low → says_of precision low high ≡ Over
over_is precision low high less = let is : int_lt precision low ≡ true = above precision low less in rw is refl
  where
    above : (a b : ℤ) → a <ℤ b → int_lt a b ≡ true
    above a b h = grind (arith, ints)

-- ---- senders

module _ (x : Setting) (h : Cycles) (base : ℕ) (delays : ℕ → Channel → Delays) (clock : ℕ → StraightClock) (l : LogView) (run : IsObservedRun x h base delays clock l) (double : ℕ) (even odd : Cycle) (has : HasDouble h (run_double base double) even odd) where
  abbrev Scaled : Scale
  Scaled = reading_scale l.drift x.params

  abbrev Clock : StraightClock
  Clock = clock (run_double base double)

  abbrev Senders : List Sender
  Senders = log_senders x l double

  abbrev On : Sender → Type 0
  On = IsSenderOn x l.drift (clock (run_double base double)) even odd

  pub all_on : All (IsSenderOn x l.drift (clock (run_double base double)) even odd) (log_senders x l double)
  all_on = senders_on x h base delays clock l run double (pos 0) even odd has

  pub drifts : IsWithinDrift l.drift (clock (run_double base double))
  drifts = run.seen.seen.within_drift (run_double base double)

  pub micro_some : pos 0 ≤ℤ (reading_scale l.drift x.params).micro_to
  micro_some = micro_from l.drift Clock drifts (longest_micro x.params)

  pub corners_of : (s : Sender) → IsSenderOn x l.drift (clock (run_double base double)) even odd s
      → HasCorners x.params (reading_scale l.drift x.params) (clock (run_double base double)) s.course (row_for even.told.rows s.node) (row_for odd.told.rows s.node)
  corners_of s on = corners_lie_lem x.params l.drift Clock s.course (row_for even.told.rows s.node) (row_for odd.told.rows s.node) on.on.seen on.on.holds

  module _ (corner : Scale → Course → Interval) where
    abbrev Point : Sender → Interval
    Point s = corner Scaled s.course

    abbrev Order : Sender → Type 0
    Order s = (Point s).low ≤ℤ (Point s).high

    -- what each pair of corners reaches that are there
    pub spread_reached : ((s : Sender) → IsSenderOn x l.drift (clock (run_double base double)) even odd s
        → (corner (reading_scale l.drift x.params) s.course).low ≤ℤ (corner (reading_scale l.drift x.params) s.course).high)
        → (one other : Sender) → Contains (log_senders x l double) one → Contains (log_senders x l double) other
        → ((corner (reading_scale l.drift x.params) one.course).low -ℤ (corner (reading_scale l.drift x.params) other.course).high) ≤ℤ least_at (reading_scale l.drift x.params) corner (courses_of (log_senders x l double))
    spread_reached order one other here there =
        subst (λ intervals. ((Point one).low -ℤ (Point other).high) ≤ℤ least_spread intervals) (sym (map-map (corner Scaled) (λ (s : Sender). s.course) Senders))
        (pair_reached Point Senders one other (All-weaker On Order order Senders all_on) here there)

  pub read_order : (i : Interval) (instant : ℤ) → ReadsIn (clock (run_double base double)) i instant → i.low ≤ℤ i.high
  read_order i instant in_it = in_order Clock.ticks i.low i.high (reading_at Clock instant) drifts.ticks_from in_it.low in_it.high

  pub point_order : (i : Interval) (start macrotick long : ℤ) → PointReadsIn (clock (run_double base double)) x.params.macros i start macrotick long → i.low ≤ℤ i.high
  point_order i start macrotick long in_it =
      in_order (x.params.macros *ℤ Clock.ticks) i.low i.high ((x.params.macros *ℤ reading_at Clock start) +ℤ (macrotick *ℤ reading_of Clock long))
      (product x.params.macros Clock.ticks (numbers_of x.params run.timed.sane).macros_some drifts.ticks_from) in_it.low in_it.high
    where
      one : (b : ℤ) → pos 1 *ℤ b ≡ b
      one b = omega (arith, ints)

      some : (b ob ab : ℤ) → pos 0 <ℤ b → ob ≡ b → ob ≤ℤ ab → pos 0 <ℤ ab
      some b ob ab h k m = omega (arith, ints)

      from : (a : ℤ) → pos 0 <ℤ a → pos 1 ≤ℤ a
      from a h = omega (arith, ints)

      no_less : (a : ℤ) → pos 0 <ℤ a → pos 0 ≤ℤ a
      no_less a h = omega (arith, ints)

      product : (a b : ℤ) → pos 0 <ℤ a → pos 0 <ℤ b → pos 0 <ℤ (a *ℤ b)
      product a b h k = some b (pos 1 *ℤ b) (a *ℤ b) k (one b) (mulz-lez (pos 1) a b (from a h) (no_less b k))

  -- two whose corners, as wide as that, lie over instants that are too far apart
  module _ (width precision : ℤ) (width_from : pos 0 ≤ℤ width) (from : pos 0 ≤ℤ precision) where
    reached : (i j : Interval) (late early y : ℤ) → ReadsIn (clock (run_double base double)) i late → ReadsIn (clock (run_double base double)) j early
        → IsNoWider (width +ℤ (reading_scale l.drift x.params).micro_to) i → IsNoWider (width +ℤ (reading_scale l.drift x.params).micro_to) j
        → IsBeyond (reading_scale l.drift x.params) width precision (late -ℤ early) → (i.low -ℤ j.high) ≤ℤ y → precision <ℤ least_ticks l.drift y
    reached i j late early y here there one other beyond le =
        above_by l.drift Scaled.micro_to width precision (late -ℤ early) (i.low -ℤ j.high) y from beyond
        (near_ends l.drift Clock drifts i j (reading_at Clock late) (reading_at Clock early) (late -ℤ early) (width +ℤ Scaled.micro_to) here there (apart_reads Clock early late) one other
        (behind l.drift Scaled.micro_to width precision (late -ℤ early) drifts.drift_to from micro_some width_from beyond)) le

    -- with the microtick of rounding
    wide : (i : Interval) → IsNoWider width i → IsNoWider (width +ℤ (reading_scale l.drift x.params).micro_to) i
    wide i is = more i.low i.high width Scaled.micro_to is micro_some
      where
        more : (a b w t : ℤ) → (b -ℤ a) ≤ℤ w → pos 0 ≤ℤ t → (b -ℤ a) ≤ℤ (w +ℤ t)
        more a b w t h k = omega (arith, ints)

    wide_down : (i : Interval) → IsNoWider width i → IsNoWider (width +ℤ (reading_scale l.drift x.params).micro_to) (rounded_down (reading_scale l.drift x.params) i)
    wide_down i is = more i.low i.high width Scaled.micro_to is
      where
        more : (a b w t : ℤ) → (b -ℤ a) ≤ℤ w → (b -ℤ (a -ℤ t)) ≤ℤ (w +ℤ t)
        more a b w t h = omega (arith, ints)

    less_down : (a b t y : ℤ) → (a -ℤ b) ≤ℤ y → ((a -ℤ t) -ℤ b) ≤ℤ (y -ℤ t)
    less_down a b t y h = omega (arith, ints)

    abbrev EvenStarts : ℤ
    EvenStarts = least_at Scaled even_start (courses_of Senders)

    abbrev EvenTurns : ℤ
    EvenTurns = least_at Scaled even_turn (courses_of Senders) -ℤ Scaled.micro_to

    abbrev OddStarts : ℤ
    OddStarts = least_at Scaled odd_start (courses_of Senders)

    abbrev OddTurns : ℤ
    OddTurns = least_at Scaled odd_turn (courses_of Senders) -ℤ Scaled.micro_to

    module _ (early late : Sender) (early_there : Contains (log_senders x l double) early) (late_there : Contains (log_senders x l double) late) (early_narrow : HasNarrowCorners (reading_scale l.drift x.params) width early.course) (late_narrow : HasNarrowCorners (reading_scale l.drift x.params) width late.course) where
      first : HasCorners x.params (reading_scale l.drift x.params) (clock (run_double base double)) early.course (row_for even.told.rows early.node) (row_for odd.told.rows early.node)
      first = corners_of early (All-contains On Senders early all_on early_there)

      second : HasCorners x.params (reading_scale l.drift x.params) (clock (run_double base double)) late.course (row_for even.told.rows late.node) (row_for odd.told.rows late.node)
      second = corners_of late (All-contains On Senders late all_on late_there)

      even_low_above : (y : ℤ) → y ≤ℤ int_max (least_at (reading_scale l.drift x.params) even_start (courses_of (log_senders x l double))) (least_at (reading_scale l.drift x.params) even_turn (courses_of (log_senders x l double)) -ℤ (reading_scale l.drift x.params).micro_to)
          → ((z : ℤ) → y ≤ℤ z → precision <ℤ least_ticks l.drift z) → EvenSays x l double precision Over
      unfolding even_low
      even_low_above y le above = over_is precision (even_low Scaled Senders) (even_high Scaled Senders) (above (int_max EvenStarts EvenTurns) le)

      odd_low_above : (y : ℤ) → y ≤ℤ int_max (least_at (reading_scale l.drift x.params) odd_start (courses_of (log_senders x l double))) (least_at (reading_scale l.drift x.params) odd_turn (courses_of (log_senders x l double)) -ℤ (reading_scale l.drift x.params).micro_to)
          → ((z : ℤ) → y ≤ℤ z → precision <ℤ least_ticks l.drift z) → OddSays x l double precision Over
      unfolding odd_low
      odd_low_above y le above = over_is precision (odd_low Scaled Senders) (odd_high Scaled Senders) (above (int_max OddStarts OddTurns) le)

      pub are_told : CornersAreTold x l double even odd width precision early late
      are_told =
          record {
            even_starts = λ beyond.
                let i = even_start Scaled late.course in
                let j = even_start Scaled early.course in
                let y = i.low -ℤ j.high in
                even_low_above y
                (trans y EvenStarts (int_max EvenStarts EvenTurns)
                (spread_reached even_start (λ s on. read_order (even_start Scaled s.course) (starting_in even s) (corners_of s on).even_starts) late early late_there early_there) (max_left EvenStarts EvenTurns))
                (λ z le. reached i j (starting_in even late) (starting_in even early) z second.even_starts first.even_starts (wide i late_narrow.even_starts) (wide j early_narrow.even_starts) beyond le);
            even_turns = λ beyond.
                let i = rounded_down Scaled (even_turn Scaled late.course) in
                let j = rounded_down Scaled (even_turn Scaled early.course) in
                let y = i.low -ℤ j.high in
                even_low_above y
                (trans y EvenTurns (int_max EvenStarts EvenTurns)
                (less_down (even_turn Scaled late.course).low j.high Scaled.micro_to (least_at Scaled even_turn (courses_of Senders))
                (spread_reached even_turn
                (λ s on. point_order (even_turn Scaled s.course) (starting_in even s) x.params.correction (cycle_length_of x.params (row_for even.told.rows s.node)) (corners_of s on).even_point) late early late_there early_there)) (max_right EvenStarts EvenTurns))
                (λ z le. reached i j (turn_in x false even late) (turn_in x false even early) z second.even_turns first.even_turns (wide_down (even_turn Scaled late.course) late_narrow.even_turns)
                (wide_down (even_turn Scaled early.course) early_narrow.even_turns) beyond le);
            odd_starts = λ beyond.
                let i = odd_start Scaled late.course in
                let j = odd_start Scaled early.course in
                let y = i.low -ℤ j.high in
                odd_low_above y
                (trans y OddStarts (int_max OddStarts OddTurns)
                (spread_reached odd_start (λ s on. read_order (odd_start Scaled s.course) (starting_in odd s) (corners_of s on).odd_starts) late early late_there early_there) (max_left OddStarts OddTurns))
                (λ z le. reached i j (starting_in odd late) (starting_in odd early) z second.odd_starts first.odd_starts (wide i late_narrow.odd_starts) (wide j early_narrow.odd_starts) beyond le);
            odd_turns = λ beyond.
                let i = rounded_down Scaled (odd_turn Scaled late.course) in
                let j = rounded_down Scaled (odd_turn Scaled early.course) in
                let y = i.low -ℤ j.high in
                odd_low_above y
                (trans y OddTurns (int_max OddStarts OddTurns)
                (less_down (odd_turn Scaled late.course).low j.high Scaled.micro_to (least_at Scaled odd_turn (courses_of Senders))
                (spread_reached odd_turn
                (λ s on. point_order (odd_turn Scaled s.course) (starting_in odd s) x.params.correction (cycle_length_of x.params (row_for odd.told.rows s.node)) (corners_of s on).odd_point) late early late_there early_there)) (max_right OddStarts OddTurns))
                (λ z le. reached i j (turn_in x true odd late) (turn_in x true odd early) z second.odd_turns first.odd_turns (wide_down (odd_turn Scaled late.course) late_narrow.odd_turns)
                (wide_down (odd_turn Scaled early.course) early_narrow.odd_turns) beyond le);
          }

pub far_senders_are_told : FarSendersAreTold
far_senders_are_told x h base delays clock l double even odd width precision early late run has two from =
    let first = sharp_corners x h base delays clock l run double width even odd early has two.early_there two.early_sharp in
    let second = sharp_corners x h base delays clock l run double width even odd late has two.late_there two.late_sharp in
    let corner = even_start (reading_scale l.drift x.params) early.course in
    let on = All-contains (IsSenderOn x l.drift (clock (run_double base double)) even odd) (log_senders x l double) early (all_on x h base delays clock l run double even odd has) two.early_there in
    let order =
    read_order x h base delays clock l run double even odd has corner (starting_in even early) (corners_of x h base delays clock l run double even odd has early on).even_starts in
    are_told x h base delays clock l run double even odd has width precision (some corner.low corner.high width order first.even_starts) from early late two.early_there two.late_there first second
  where
    some : (a b w : ℤ) → a ≤ℤ b → (b -ℤ a) ≤ℤ w → pos 0 ≤ℤ w
    some a b w h k = omega (arith, ints)
