-- The rows of odd cycles whose senders all lie near say within.
use Rattle.std.proofs.Common.{◌≡◌, ℕ, suc, Option, Some, ℤ, pos, List, [], ◌∷◌, All, map, refl, ap, sym, ◌∙◌, subst, arith}
use Rattle.std.specs.Prelude.{◌+ℤ◌, ◌-ℤ◌, ◌*ℤ◌, ◌≤ℤ◌, ◌<ℤ◌, Contains, IfSome, true, unwrap_or}
use Rattle.std.specs.Int.{int_max}
use Rattle.std.specs.Option.{option_map}
use Rattle.std.proofs.lemmas.Int.{ints}
use Rattle.std.proofs.lemmas.List.Elements.{All-contains_itself, All-head, All-tail, All-weaker}
use Rattle.std.proofs.lemmas.Simd.{map-map}
use Rattle.fr_base.specs.declared.channel.Channel.{Channel}
use Rattle.fr_bound.specs.Bounds.{nominal}
use Rattle.fr_bound.specs.Sync.{cycle_length_of}
use Rattle.fr_cluster.specs.Setting.{Setting}
use Rattle.fr_midpoint.proofs.Products.{mulz-lez, mulz-lez_left, mulz-subz, mulz_assoc, mulz_comm}
use Rattle.fr_history.specs.Cycles.{Cycle, Cycles}
use Rattle.fr_history.specs.History.{row_for}
use Rattle.fr_runs.specs.Numbers.{HasDouble}
use Rattle.fr_log.specs.View.{LogView}
use Rattle.fr_course.specs.Course.{even_start, odd_start, odd_turn}
use Rattle.fr_course.specs.Readings.{fast_million, reading_scale, slow_million}
use Rattle.fr_course.specs.Spread.{most_at, most_odd_skew, most_spread}
use Rattle.fr_course.specs.declared.courses.Course.{Course}
use Rattle.fr_course.specs.Scales.{Scale}
use Rattle.fr_course.specs.declared.stamps.Delays.{Delays}
use Rattle.fr_observe.specs.Observing.{all_there, courses_of, next_courses, odd_high, odd_low, says_of}
use Rattle.fr_observe.specs.declared.says.Says.TheVariants.{Within}
use Rattle.fr_sightings.specs.declared.sender.Sender.{Sender}
use Rattle.fr_seen.specs.Clocks.{reading_at, reading_of, ReadsIn, StraightClock}
use Rattle.fr_seen.specs.LogSeen.{log_senders, run_double, sender_rows}
use Rattle.fr_seen.specs.Skews.{StaysWithin}
use Rattle.fr_seen.proofs.Intervals.{on_max}
use Rattle.fr_seen.proofs.Pairs.{max_left, most_spread_above}
use Rattle.fr_seen.proofs.RowLaws.{observed_next_rows_hold, observed_rows_hold}
use Rattle.fr_seen.specs.Completeness.{AreAllSharp, AreSharpNext, IsNearEnough, IsNoWider, NearOddSendersAreWithin, OddSays, StartWithin, TurnWithin, starting_in, turning_in}
use Rattle.fr_seen.specs.Contradictions.{IsObservedRun}
use Rattle.fr_seen.proofs.CompletenessMacroticks.{parted_drifts, point_reads}
use Rattle.fr_seen.proofs.CompletenessNext.{HasNextStart, next_starts}
use Rattle.fr_seen.proofs.CompletenessOver.{corners_of, drifts, read_order, trans}
use Rattle.fr_seen.proofs.CompletenessSenders.{sharp_corners}
use Rattle.fr_seen.proofs.CompletenessTicks.{ends_within, fast_some, pairs_most}
use Rattle.fr_seen.proofs.CompletenessWithin.{fits_ticks, intervals_fit, corners_fit, on_of, skew_order, with_there, within_is}

-- ---- near, with two microticks

near_twice : (fa sk d w t : ℤ) → ((d -ℤ (pos 2 *ℤ w)) *ℤ pos nominal) ≤ℤ fa → (fa +ℤ (pos nominal *ℤ (pos 2 *ℤ (w +ℤ t)))) ≤ℤ sk → (((d +ℤ t) +ℤ t) *ℤ pos nominal) ≤ℤ sk
near_twice fa sk d w t k m = omega (arith, ints)

none_twice : (fa sk w t : ℤ) → pos 0 ≤ℤ fa → pos 0 ≤ℤ w → (fa +ℤ (pos nominal *ℤ (pos 2 *ℤ (w +ℤ t)))) ≤ℤ sk → (((pos 0 +ℤ t) +ℤ t) *ℤ pos nominal) ≤ℤ sk
none_twice fa sk w t f h m = omega (arith, ints)

no_less : (a : ℤ) → pos 0 <ℤ a → pos 0 ≤ℤ a
no_less a h = omega (arith, ints)

product : (a b : ℤ) → pos 0 <ℤ a → pos 0 ≤ℤ b → pos 0 ≤ℤ (a *ℤ b)
product a b h k = omega (arith, ints, mulz-lez (pos 0) a b (less a h) k)
  where
    less : (a : ℤ) → pos 0 <ℤ a → pos 0 ≤ℤ a
    less a h = omega (arith, ints)

-- ---- the next courses of senders that have one

abbrev next_of : Sender → Course
next_of s = unwrap_or s.next s.course

all_there_is : (senders : List Sender) → All (λ (s : Sender). s.next ≡ Some (unwrap_or s.next s.course)) senders
    → all_there (map (λ (s : Sender). s.next) senders) ≡ Some (map (λ (s : Sender). unwrap_or s.next s.course) senders)
all_there_is [] all = refl
all_there_is (s ∷ senders) all =
    let Has : Sender → Type 0 = λ s. s.next ≡ Some (unwrap_or s.next s.course) in
    ap (λ (o : Option Course). all_there (o ∷ map (λ (s : Sender). s.next) senders)) (All-head Has s senders all)
    ∙ ap (λ (o : Option (List Course)). option_map (λ rest. unwrap_or s.next s.course ∷ rest) o) (all_there_is senders (All-tail Has s senders all))

some_next : (o : Option Course) (here next : Course) → o ≡ Some next → o ≡ Some (unwrap_or o here)
some_next o here next is = is ∙ ap Some (sym (ap (λ (p : Option Course). unwrap_or p here) is))

-- ---- senders

module _ (x : Setting) (h : Cycles) (base : ℕ) (delays : ℕ → Channel → Delays) (clock : ℕ → StraightClock) (l : LogView) (run : IsObservedRun x h base delays clock l) (double : ℕ) (even odd : Cycle) (has : HasDouble h (run_double base double) even odd) (next_even next_odd : Cycle) (next_has : HasDouble h (suc (run_double base double)) next_even next_odd) where
  abbrev Scaled : Scale
  Scaled = reading_scale l.drift x.params

  abbrev Clock : StraightClock
  Clock = clock (run_double base double)

  abbrev Senders : List Sender
  Senders = log_senders x l double

  abbrev Parted : StraightClock
  Parted = record { ticks = x.params.macros *ℤ Clock.ticks; counts = x.params.macros *ℤ Clock.counts; zero = Clock.zero }

  abbrev point_reading : Sender → ℤ
  point_reading s =
      (x.params.macros *ℤ reading_at Clock (row_for odd.told.rows s.node).start) +ℤ (x.params.correction *ℤ reading_of Clock (cycle_length_of x.params (row_for odd.told.rows s.node)))

  module _ (width precision apart : ℤ) (width_from : pos 0 ≤ℤ width) (from : pos 0 ≤ℤ precision) (apart_from : pos 0 ≤ℤ apart) (near : IsNearEnough (reading_scale l.drift x.params) width precision apart)
      (sharp : AreAllSharp x l double width) (sharp_next : AreSharpNext x l double width)
    where
      abbrev Fits : ℤ → Type 0
      Fits y = ((y +ℤ Scaled.micro_to) *ℤ pos nominal) ≤ℤ (slow_million l.drift *ℤ precision)

      -- points no further apart read so
      points_within : (one other : Sender) → (turning_in x odd one -ℤ turning_in x odd other) ≤ℤ (x.params.macros *ℤ apart)
          → (((x.params.macros *ℤ reading_at (clock (run_double base double)) (row_for odd.told.rows one.node).start) +ℤ (x.params.correction *ℤ reading_of (clock (run_double base double)) (cycle_length_of x.params (row_for odd.told.rows one.node))))
          -ℤ ((x.params.macros *ℤ reading_at (clock (run_double base double)) (row_for odd.told.rows other.node).start) +ℤ (x.params.correction *ℤ reading_of (clock (run_double base double)) (cycle_length_of x.params (row_for odd.told.rows other.node)))))
          ≤ℤ ((x.params.macros *ℤ (clock (run_double base double)).counts) *ℤ apart)
      points_within one other le =
          let g = x.params.macros in
          let o = x.params.correction in
          let c = Clock.counts in
          let last = row_for odd.told.rows one.node in
          let first = row_for odd.told.rows other.node in
          chain (point_reading one) (point_reading other) (c *ℤ turning_in x odd one) (c *ℤ turning_in x odd other) (g *ℤ Clock.zero) (c *ℤ (turning_in x odd one -ℤ turning_in x odd other)) (c *ℤ (g *ℤ apart)) ((g *ℤ c) *ℤ apart)
          (point_reads x h base delays clock l run double even odd has g o c Clock.zero last.start (cycle_length_of x.params last))
          (point_reads x h base delays clock l run double even odd has g o c Clock.zero first.start (cycle_length_of x.params first)) (mulz-subz (turning_in x odd one) (turning_in x odd other) c)
          (mulz-lez_left (turning_in x odd one -ℤ turning_in x odd other) (g *ℤ apart) c le (no_less c (drifts x h base delays clock l run double even odd has).counts_from))
          (ap (λ z. z *ℤ apart) (mulz_comm g c) ∙ mulz_assoc c g apart)
        where
          chain : (rl re cl ce gz d e m : ℤ) → rl ≡ cl +ℤ gz → re ≡ ce +ℤ gz → d ≡ cl -ℤ ce → d ≤ℤ e → m ≡ e → (rl -ℤ re) ≤ℤ m
          chain rl re cl ce gz d e m h i j k n = omega (arith, ints)

      turns_fit : TurnWithin x l double odd apart
          → (((most_at (reading_scale l.drift x.params) odd_turn (courses_of (log_senders x l double)) +ℤ (reading_scale l.drift x.params).micro_to) +ℤ (reading_scale l.drift x.params).micro_to) *ℤ pos nominal) ≤ℤ (slow_million l.drift *ℤ precision)
      turns_fit within =
          let Twice : ℤ → Type 0 = λ y. Fits (y +ℤ Scaled.micro_to) in
          subst (λ intervals. Twice (most_spread intervals)) (sym (map-map (odd_turn Scaled) (λ (s : Sender). s.course) Senders))
          (pairs_most (λ (s : Sender). odd_turn Scaled s.course) Twice
          (none_twice (fast_million l.drift *ℤ apart) (slow_million l.drift *ℤ precision) width Scaled.micro_to (product (fast_million l.drift) apart (fast_some l.drift) apart_from) width_from near) Senders
          (λ one other here there.
          let i = odd_turn Scaled one.course in
          let j = odd_turn Scaled other.course in
          let last = (corners_of x h base delays clock l run double even odd has one (on_of x h base delays clock l run double even odd has one here)).odd_point in
          let first = (corners_of x h base delays clock l run double even odd has other (on_of x h base delays clock l run double even odd has other there)).odd_point in
          near_twice (fast_million l.drift *ℤ apart) (slow_million l.drift *ℤ precision) (i.high -ℤ j.low) width Scaled.micro_to
          (ends_within l.drift Parted (parted_drifts x h base delays clock l run double even odd has) i j (point_reading one) (point_reading other) apart width (record { low = last.low; high = last.high })
          (record { low = first.low; high = first.high }) (points_within one other (within one other here there))
          (sharp_corners x h base delays clock l run double width even odd one has here (sharp.sharp one here)).odd_turns
          (sharp_corners x h base delays clock l run double width even odd other has there (sharp.sharp other there)).odd_turns apart_from)
          near))

      next_start : (s : Sender) → Contains (log_senders x l double) s → HasNextStart x h base delays clock l run double width next_even s
      next_start s among = next_starts x h base delays clock l run double width even odd next_even next_odd s has next_has among (sharp_next s among)

      next_is : (s : Sender) → Contains (log_senders x l double) s → s.next ≡ Some (unwrap_or s.next s.course)
      next_is s among = let n = next_start s among in some_next s.next s.course n.next n.is

      got : (s : Sender) (among : Contains (log_senders x l double) s) → (next_start s among).next ≡ unwrap_or s.next s.course
      got s among = sym (ap (λ (o : Option Course). unwrap_or o s.course) (next_start s among).is)

      next_fit : StartWithin x l double next_even apart
          → ((most_at (reading_scale l.drift x.params) even_start (map (λ (s : Sender). unwrap_or s.next s.course) (log_senders x l double)) +ℤ (reading_scale l.drift x.params).micro_to) *ℤ pos nominal) ≤ℤ (slow_million l.drift *ℤ precision)
      next_fit within =
          subst (λ intervals. Fits (most_spread intervals)) (sym (map-map (even_start Scaled) next_of Senders))
          (intervals_fit x h base delays clock l run double even odd has width precision apart width_from from apart_from near (λ (s : Sender). even_start Scaled (next_of s)) (starting_in next_even)
          (λ s among. subst (λ c. ReadsIn Clock (even_start Scaled c) (starting_in next_even s)) (got s among) (next_start s among).reads)
          (λ s among. subst (λ c. IsNoWider width (even_start Scaled c)) (got s among) (next_start s among).narrow) within)

      abbrev Starts : ℤ
      Starts = most_at Scaled odd_start (courses_of Senders)

      abbrev Turns : ℤ
      Turns = most_at Scaled odd_turn (courses_of Senders) +ℤ Scaled.micro_to

      abbrev Nexts : ℤ
      Nexts = most_at Scaled even_start (map next_of Senders)

      module _ (odd_within : StartWithin x l double odd apart) (turn_within : TurnWithin x l double odd apart) (next_within : StartWithin x l double next_even apart) where
        skew_within : most_odd_skew (reading_scale l.drift x.params) (courses_of (log_senders x l double)) (map (λ (s : Sender). unwrap_or s.next s.course) (log_senders x l double)) ≤ℤ precision
        skew_within =
            fits_ticks x h base delays clock l run double even odd has width precision apart width_from from apart_from near (int_max Starts (int_max Turns Nexts))
            (trans (pos 0) Starts (int_max Starts (int_max Turns Nexts)) (most_spread_above (map (odd_start Scaled) (courses_of Senders))) (max_left Starts (int_max Turns Nexts)))
            (on_max Fits Starts (int_max Turns Nexts)
            (corners_fit x h base delays clock l run double even odd has width precision apart width_from from apart_from near odd_start (starting_in odd)
            (λ s among. (corners_of x h base delays clock l run double even odd has s (on_of x h base delays clock l run double even odd has s among)).odd_starts)
            (λ s among. (sharp_corners x h base delays clock l run double width even odd s has among (sharp.sharp s among)).odd_starts) odd_within)
            (on_max Fits Turns Nexts (turns_fit turn_within) (next_fit next_within)))

        high_is : odd_high (reading_scale l.drift x.params) (log_senders x l double)
            ≡ Some (most_odd_skew (reading_scale l.drift x.params) (courses_of (log_senders x l double)) (map (λ (s : Sender). unwrap_or s.next s.course) (log_senders x l double)))
        unfolding odd_high
        high_is =
            with_there Senders sharp.some (option_map (most_odd_skew Scaled (courses_of Senders)) (next_courses Senders)) sharp.there
            ∙ ap (option_map (most_odd_skew Scaled (courses_of Senders)))
            (all_there_is Senders (All-weaker (Contains Senders) (λ (s : Sender). s.next ≡ Some (unwrap_or s.next s.course)) next_is Senders (All-contains_itself Senders)))

        pub odd_is_within : OddSays x l double precision Within
        odd_is_within =
            let high = most_odd_skew Scaled (courses_of Senders) (map next_of Senders) in
            let rows = (observed_rows_hold x h base delays clock l double even odd run.timed run.log run.seen has).cycles in
            let next = observed_next_rows_hold x h base delays clock l double even odd next_even next_odd run.timed run.log run.seen has next_has in
            let stays : StaysWithin x.params true (sender_rows odd Senders) high =
            subst (λ o. IfSome o (StaysWithin x.params true (sender_rows odd Senders))) high_is next.cycle in
            subst (λ o. says_of precision (odd_low Scaled Senders) o ≡ Within) (sym high_is)
            (within_is precision (odd_low Scaled Senders) high (skew_order x.params true (sender_rows odd Senders) (odd_low Scaled Senders) high rows.odd_from stays) skew_within)

pub near_odd_senders_are_within : NearOddSendersAreWithin
near_odd_senders_are_within x h base delays clock l double even odd next_even next_odd width precision apart run has next_has sharp sharp_next from odd_within turn_within next_within near =
    let s = sharp.some in
    let narrow = sharp_corners x h base delays clock l run double width even odd s has sharp.there (sharp.sharp s sharp.there) in
    let corner = odd_start (reading_scale l.drift x.params) s.course in
    let on = on_of x h base delays clock l run double even odd has s sharp.there in
    let order = read_order x h base delays clock l run double even odd has corner (starting_in odd s) (corners_of x h base delays clock l run double even odd has s on).odd_starts in
    odd_is_within x h base delays clock l run double even odd has next_even next_odd next_has width precision apart (some corner.low corner.high width order narrow.odd_starts) from
    (itself (starting_in odd s) apart (odd_within s s sharp.there sharp.there)) near sharp sharp_next odd_within turn_within next_within
  where
    some : (a b w : ℤ) → a ≤ℤ b → (b -ℤ a) ≤ℤ w → pos 0 ≤ℤ w
    some a b w h k = omega (arith, ints)

    itself : (a w : ℤ) → (a -ℤ a) ≤ℤ w → pos 0 ≤ℤ w
    itself a w h = omega (arith, ints)
