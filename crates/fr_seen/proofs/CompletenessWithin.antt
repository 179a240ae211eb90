-- The rows of even cycles whose senders all lie near say within.
use Rattle.std.proofs.Common.{◌≡◌, ◌<◌, ℕ, Bool, true, false, Option, Some, ℤ, pos, List, [], ◌∷◌, map, refl, sym, subst, arith}
use Rattle.std.specs.Prelude.{◌+ℤ◌, ◌-ℤ◌, ◌*ℤ◌, ◌≤ℤ◌, ◌<ℤ◌, IfSome, int_le, int_lt, Contains}
use Rattle.std.specs.Int.{int_max}
use Rattle.std.proofs.lemmas.Int.{ints}
use Rattle.std.proofs.lemmas.List.Elements.{All-contains}
use Rattle.std.proofs.lemmas.Simd.{map-map}
use Rattle.fr_base.specs.declared.channel.Channel.{Channel}
use Rattle.fr_base.specs.declared.node_row.NodeRow.{NodeRow}
use Rattle.fr_bound.specs.Bounds.{nominal}
use Rattle.fr_cluster.specs.Setting.{Setting}
use Rattle.fr_cluster.specs.Values.{Values}
use Rattle.fr_midpoint.proofs.Products.{mulz-lez, mulz_comm}
use Rattle.fr_history.specs.Cycles.{Cycle, Cycles}
use Rattle.fr_runs.specs.Numbers.{HasDouble}
use Rattle.fr_log.specs.View.{LogView}
use Rattle.fr_course.specs.Course.{even_start, odd_start}
use Rattle.fr_course.specs.Readings.{fast_million, most_ticks, reading_scale, slow_million}
use Rattle.fr_course.specs.Spread.{most_at, most_even_skew, most_spread}
use Rattle.fr_course.specs.declared.courses.Course.{Course}
use Rattle.fr_course.specs.declared.intervals.Interval.{Interval}
use Rattle.fr_course.specs.Scales.{Scale}
use Rattle.fr_course.specs.declared.stamps.Delays.{Delays}
use Rattle.fr_observe.specs.Observing.{courses_of, even_high, even_low, says_of, with_senders}
use Rattle.fr_observe.specs.declared.says.Says.TheVariants.{Within}
use Rattle.fr_sightings.specs.declared.sender.Sender.{Sender}
use Rattle.fr_seen.specs.Clocks.{reading_at, ReadsIn, StraightClock}
use Rattle.fr_seen.specs.LogSeen.{IsSenderOn, log_senders, run_double, sender_rows}
use Rattle.fr_seen.specs.Skews.{HasSkew, StaysWithin, spread_among}
use Rattle.fr_seen.proofs.CourseLaws.{apart_reads}
use Rattle.fr_seen.proofs.Intervals.{on_max}
use Rattle.fr_seen.proofs.Pairs.{max_left, most_spread_above}
use Rattle.fr_seen.proofs.RowLaws.{observed_rows_hold}
use Rattle.fr_seen.specs.Completeness.{AreAllSharp, EvenSays, IsNearEnough, IsNoWider, NearSendersAreWithin, starting_in}
use Rattle.fr_seen.specs.Contradictions.{IsObservedRun}
use Rattle.fr_seen.proofs.CompletenessOver.{all_on, corners_of, drifts, micro_some, read_order}
use Rattle.fr_seen.proofs.CompletenessSenders.{sharp_corners}
use Rattle.fr_seen.proofs.CompletenessTicks.{far_ends, fast_some, pairs_most, ticks_within}

trans : (a b c : ℤ) → a ≤ℤ b → b ≤ℤ c → a ≤ℤ c
trans a b c h k = omega (arith, ints)

-- ---- near

pub near_by : (fa sk d w t : ℤ) → pos 0 ≤ℤ t → ((d -ℤ (pos 2 *ℤ w)) *ℤ pos nominal) ≤ℤ fa → (fa +ℤ (pos nominal *ℤ (pos 2 *ℤ (w +ℤ t)))) ≤ℤ sk → ((d +ℤ t) *ℤ pos nominal) ≤ℤ sk
near_by fa sk d w t h k m = omega (arith, ints)

none_by : (fa sk w t : ℤ) → pos 0 ≤ℤ fa → pos 0 ≤ℤ w → pos 0 ≤ℤ t → (fa +ℤ (pos nominal *ℤ (pos 2 *ℤ (w +ℤ t)))) ≤ℤ sk → ((pos 0 +ℤ t) *ℤ pos nominal) ≤ℤ sk
none_by fa sk w t f h k m = omega (arith, ints)

product : (a b : ℤ) → pos 0 <ℤ a → pos 0 ≤ℤ b → pos 0 ≤ℤ (a *ℤ b)
product a b h k = omega (arith, ints, mulz-lez (pos 0) a b (less a h) k)
  where
    less : (a : ℤ) → pos 0 <ℤ a → pos 0 ≤ℤ a
    less a h = omega (arith, ints)

-- ---- words

pub within_is : (precision low high : ℤ) → low ≤ℤ high → high ≤ℤ precision → says_of precision low (Some high) ≡ Within
within_is precision low high order le =
    let first = not_over precision low high order le in
    let second = not_more precision high le in
    rw (first, second) refl
  where
    not_over : (a l h : ℤ) → l ≤ℤ h → h ≤ℤ a → int_lt a l ≡ false
    not_over a l h k m = grind (arith, ints)

    not_more : (a h : ℤ) → h ≤ℤ a → int_le h a ≡ true
    not_more a h k = grind (arith, ints)

pub with_there : (senders : List Sender) (s : Sender) (high : Option ℤ) → Contains senders s → with_senders senders high ≡ high
with_there [] s high (k, less, at) = absurd (none k less)
  where
    none : (k : ℕ) → k < 0 → ⊥
    none k h = omega (arith, h)
with_there (other ∷ senders) s high among = refl

-- the least and the greatest skew of one cycle
pub skew_order : (p : Values) (odd : Bool) (rows : List NodeRow) (low high : ℤ) → HasSkew p odd rows low → StaysWithin p odd rows high → low ≤ℤ high
skew_order p odd rows low high has stays = trans low (spread_among p odd has.macrotick rows) high has.reached (stays has.macrotick has.from (less has.macrotick p.macros has.to))
  where
    less : (a b : ℤ) → a <ℤ b → a ≤ℤ b
    less a b h = omega (arith, ints)

-- ---- senders

module _ (x : Setting) (h : Cycles) (base : ℕ) (delays : ℕ → Channel → Delays) (clock : ℕ → StraightClock) (l : LogView) (run : IsObservedRun x h base delays clock l) (double : ℕ) (even odd : Cycle) (has : HasDouble h (run_double base double) even odd) where
  abbrev Scaled : Scale
  Scaled = reading_scale l.drift x.params

  abbrev Clock : StraightClock
  Clock = clock (run_double base double)

  abbrev Senders : List Sender
  Senders = log_senders x l double

  pub on_of : (s : Sender) → Contains (log_senders x l double) s → IsSenderOn x l.drift (clock (run_double base double)) even odd s
  on_of s among =
      All-contains (IsSenderOn x l.drift (clock (run_double base double)) even odd) Senders s (all_on x h base delays clock l run double even odd has) among

  module _ (width precision apart : ℤ) (width_from : pos 0 ≤ℤ width) (from : pos 0 ≤ℤ precision) (apart_from : pos 0 ≤ℤ apart) (near : IsNearEnough (reading_scale l.drift x.params) width precision apart) where
    -- a distance and a microtick, in millions, are no more than the precision on the slowest clock
    abbrev Fits : ℤ → Type 0
    Fits y = ((y +ℤ Scaled.micro_to) *ℤ pos nominal) ≤ℤ (slow_million l.drift *ℤ precision)

    pub none_fits : ((pos 0 +ℤ (reading_scale l.drift x.params).micro_to) *ℤ pos nominal) ≤ℤ (slow_million l.drift *ℤ precision)
    none_fits =
        none_by (fast_million l.drift *ℤ apart) (slow_million l.drift *ℤ precision) width Scaled.micro_to (product (fast_million l.drift) apart (fast_some l.drift) apart_from) width_from
        (micro_some x h base delays clock l run double even odd has) near

    -- so are those of any two intervals that lie over instants so near
    pub intervals_fit : (c : Sender → Interval) (instant : Sender → ℤ) → ((s : Sender) → Contains (log_senders x l double) s → ReadsIn (clock (run_double base double)) (c s) (instant s))
        → ((s : Sender) → Contains (log_senders x l double) s → IsNoWider width (c s))
        → ((one other : Sender) → Contains (log_senders x l double) one → Contains (log_senders x l double) other → (instant one -ℤ instant other) ≤ℤ apart)
        → ((most_spread (map c (log_senders x l double)) +ℤ (reading_scale l.drift x.params).micro_to) *ℤ pos nominal) ≤ℤ (slow_million l.drift *ℤ precision)
    intervals_fit c instant read narrow within =
        pairs_most c Fits none_fits Senders
        (λ one other here there.
        near_by (fast_million l.drift *ℤ apart) (slow_million l.drift *ℤ precision) ((c one).high -ℤ (c other).low) width Scaled.micro_to (micro_some x h base delays clock l run double even odd has)
        (far_ends l.drift Clock (drifts x h base delays clock l run double even odd has) (c one) (c other) (reading_at Clock (instant one)) (reading_at Clock (instant other)) (instant one -ℤ instant other) width
        (read one here) (read other there) (apart_reads Clock (instant other) (instant one)) (narrow one here) (narrow other there) apart apart_from (within one other here there)) near)

    -- so are those of any two corners
    pub corners_fit : (corner : Scale → Course → Interval) (instant : Sender → ℤ)
        → ((s : Sender) → Contains (log_senders x l double) s → ReadsIn (clock (run_double base double)) (corner (reading_scale l.drift x.params) s.course) (instant s))
        → ((s : Sender) → Contains (log_senders x l double) s → IsNoWider width (corner (reading_scale l.drift x.params) s.course))
        → ((one other : Sender) → Contains (log_senders x l double) one → Contains (log_senders x l double) other → (instant one -ℤ instant other) ≤ℤ apart)
        → ((most_at (reading_scale l.drift x.params) corner (courses_of (log_senders x l double)) +ℤ (reading_scale l.drift x.params).micro_to) *ℤ pos nominal) ≤ℤ (slow_million l.drift *ℤ precision)
    corners_fit corner instant read narrow within =
        subst (λ intervals. Fits (most_spread intervals)) (sym (map-map (corner Scaled) (λ (s : Sender). s.course) Senders))
        (intervals_fit (λ (s : Sender). corner Scaled s.course) instant read narrow within)

    pub fits_ticks : (y : ℤ) → pos 0 ≤ℤ y → ((y +ℤ (reading_scale l.drift x.params).micro_to) *ℤ pos nominal) ≤ℤ (slow_million l.drift *ℤ precision)
        → most_ticks l.drift (y +ℤ (reading_scale l.drift x.params).micro_to) ≤ℤ precision
    fits_ticks y y_from fits =
        let drift = drifts x h base delays clock l run double even odd has in
        ticks_within l.drift (y +ℤ Scaled.micro_to) precision drift.drift_to from (sum y Scaled.micro_to y_from (micro_some x h base delays clock l run double even odd has))
        (turned ((y +ℤ Scaled.micro_to) *ℤ pos nominal) (slow_million l.drift *ℤ precision) (precision *ℤ slow_million l.drift) fits (mulz_comm precision (slow_million l.drift)))
      where
        sum : (a b : ℤ) → pos 0 ≤ℤ a → pos 0 ≤ℤ b → pos 0 ≤ℤ (a +ℤ b)
        sum a b h k = omega (arith, ints)

        turned : (a b c : ℤ) → a ≤ℤ b → c ≡ b → a ≤ℤ c
        turned a b c h k = omega (arith, ints)

    module _ (sharp : AreAllSharp x l double width)
        (even_within : (one other : Sender) → Contains (log_senders x l double) one → Contains (log_senders x l double) other → (starting_in even one -ℤ starting_in even other) ≤ℤ apart)
        (odd_within : (one other : Sender) → Contains (log_senders x l double) one → Contains (log_senders x l double) other → (starting_in odd one -ℤ starting_in odd other) ≤ℤ apart)
      where
        abbrev EvenStarts : ℤ
        EvenStarts = most_at Scaled even_start (courses_of Senders)

        abbrev OddStarts : ℤ
        OddStarts = most_at Scaled odd_start (courses_of Senders)

        even_skew_within : most_even_skew (reading_scale l.drift x.params) (courses_of (log_senders x l double)) ≤ℤ precision
        even_skew_within =
            fits_ticks (int_max EvenStarts OddStarts)
            (trans (pos 0) EvenStarts (int_max EvenStarts OddStarts) (most_spread_above (map (even_start Scaled) (courses_of Senders))) (max_left EvenStarts OddStarts))
            (on_max Fits EvenStarts OddStarts
            (corners_fit even_start (starting_in even) (λ s among. (corners_of x h base delays clock l run double even odd has s (on_of s among)).even_starts)
            (λ s among. (sharp_corners x h base delays clock l run double width even odd s has among (sharp.sharp s among)).even_starts) even_within)
            (corners_fit odd_start (starting_in odd) (λ s among. (corners_of x h base delays clock l run double even odd has s (on_of s among)).odd_starts)
            (λ s among. (sharp_corners x h base delays clock l run double width even odd s has among (sharp.sharp s among)).odd_starts) odd_within))

        high_is : even_high (reading_scale l.drift x.params) (log_senders x l double) ≡ Some (most_even_skew (reading_scale l.drift x.params) (courses_of (log_senders x l double)))
        unfolding even_high
        high_is = with_there Senders sharp.some (Some (most_even_skew Scaled (courses_of Senders))) sharp.there

        pub even_is_within : EvenSays x l double precision Within
        even_is_within =
            let high = most_even_skew Scaled (courses_of Senders) in
            let rows = (observed_rows_hold x h base delays clock l double even odd run.timed run.log run.seen has).cycles in
            let stays : StaysWithin x.params false (sender_rows even Senders) high =
            subst (λ o. IfSome o (StaysWithin x.params false (sender_rows even Senders))) high_is rows.even_to in
            subst (λ o. says_of precision (even_low Scaled Senders) o ≡ Within) (sym high_is)
            (within_is precision (even_low Scaled Senders) high (skew_order x.params false (sender_rows even Senders) (even_low Scaled Senders) high rows.even_from stays) even_skew_within)

pub near_senders_are_within : NearSendersAreWithin
near_senders_are_within x h base delays clock l double even odd width precision apart run has sharp from even_within odd_within near =
    let s = sharp.some in
    let narrow = sharp_corners x h base delays clock l run double width even odd s has sharp.there (sharp.sharp s sharp.there) in
    let corner = even_start (reading_scale l.drift x.params) s.course in
    let on = on_of x h base delays clock l run double even odd has s sharp.there in
    let order = read_order x h base delays clock l run double even odd has corner (starting_in even s) (corners_of x h base delays clock l run double even odd has s on).even_starts in
    even_is_within x h base delays clock l run double even odd has width precision apart (some corner.low corner.high width order narrow.even_starts) from
    (itself (starting_in even s) apart (even_within s s sharp.there sharp.there)) near sharp even_within odd_within
  where
    some : (a b w : ℤ) → a ≤ℤ b → (b -ℤ a) ≤ℤ w → pos 0 ≤ℤ w
    some a b w h k = omega (arith, ints)

    itself : (a w : ℤ) → (a -ℤ a) ≤ℤ w → pos 0 ≤ℤ w
    itself a w h = omega (arith, ints)
