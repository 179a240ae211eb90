-- The law of levels: no receiver's next length comes over a level, since a crowd of senders has no length less than a
-- walk before it.
use Rattle.std.proofs.Common.{◌≡◌, ◌⊎◌, ℕ, ◌+◌, ◌*◌, ◌≤◌, Bool, true, false, ℤ, pos, negsuc, List, [], length, All, inl, inr, ap, sym, ◌∙◌, subst, refl, arith}
use Rattle.std.specs.Prelude.{neg_ℤ, ◌+ℤ◌, ◌-ℤ◌, ◌*ℤ◌, ◌≤ℤ◌, ◌<ℤ◌, ◌&&◌, ◌||◌, int_div, int_le, int_lt, nat_abs, nat_eq, if◌then◌else◌}
use Rattle.std.proofs.lemmas.Bool.Decides.{nat_tests}
use Rattle.std.proofs.lemmas.Int.{ints, by_lt_z}
use Rattle.fr_base.specs.declared.node_row.NodeRow.{NodeRow}
use Rattle.fr_base.specs.declared.Outcome.TheVariants.{Exceeded, Within}
use Rattle.fr_base.specs.Within.{IsWithin}
use Rattle.fr_cluster.specs.Values.{Values, amount}
use Rattle.fr_cluster.specs.Sane.{IsSane}
use Rattle.fr_cluster.specs.declared.names.ParamName.TheVariants as name
use Rattle.fr_midpoint.specs.Midpoint.{discarded, half_of_sum, IsMidpoint}
use Rattle.fr_midpoint.specs.Receivers.{Hears}
use Rattle.fr_midpoint.proofs.Products.{addz-mulz, mulz-lez, mulz-lez_left, negz-mulz, subz-mulz}
use Rattle.fr_time.specs.Position.{floor_of}
use Rattle.fr_time.proofs.Lines.{rest_of}
use Rattle.fr_correct.specs.declared.term.Term.{Term}
use Rattle.fr_correct.specs.Terms.{damped, missing_term, term_of}
use Rattle.fr_correct.proofs.Damped.{damped_cases}
use Rattle.fr_bound.specs.Bounds.{cycle_change, longest_micro, shortest_micro}
use Rattle.fr_bound.specs.SharpBounds.{rate_walk, wide_change}
use Rattle.fr_bound.specs.Sync.{cycle_length_of}
use Rattle.fr_precision.specs.Rows.{longest_cycle, shortest_cycle, HasProperMicro, Sender}
use Rattle.fr_precision.proofs.Figures.{longest_is, shortest_is}
use Rattle.fr_precision.proofs.PlacementLaws.{steady_within}
use Rattle.fr_precision.proofs.Senders.{All-both}
use Rattle.fr_precision.proofs.StepLaws.{unmapped}
use Rattle.fr_promise.specs.HeldWalks.{is_clear_above, is_clear_below, micros_of, walk_is_held, IsHighLevel, IsLowLevel, LevelsHold}
use Rattle.fr_precision.specs.Steady.{PlacesEven}
use Rattle.fr_precision.proofs.CrowdLemmas.{count_by-map, crowd_from, crowd_to, some_from, some_to}
use Rattle.fr_precision.proofs.Signed.{signed_of}

-- ---- over plain numbers

-- of a receiver: damping takes a microtick or more; the walk is what it leaves of the flutter and a microtick, or more,
-- and shorter than a microtick
record IsHeld (c t flutter walk : ℤ) : Type 0 where
  lasts : pos 0 <ℤ t
  damps : pos 1 ≤ℤ c
  takes : ((flutter +ℤ (t -ℤ pos 1)) -ℤ (c *ℤ t)) ≤ℤ walk
  short : walk <ℤ t

-- a value places another's length from above: it lies no further after it than the flutter and a microtick
abbrev IsUpTo : ℤ → ℤ → ℤ → ℤ → ℤ → Type 0
IsUpTo t flutter long value other = (long +ℤ (value *ℤ t)) ≤ℤ (other +ℤ (flutter +ℤ (t -ℤ pos 1)))

-- and from below: no further before it
abbrev IsFrom : ℤ → ℤ → ℤ → ℤ → ℤ → Type 0
IsFrom t flutter long value other = (other -ℤ (flutter +ℤ (t -ℤ pos 1))) ≤ℤ (long +ℤ (value *ℤ t))

times_none : (t : ℤ) → pos 0 *ℤ t ≡ pos 0
times_none t = omega (arith, ints)

times_one : (t : ℤ) → pos 1 *ℤ t ≡ t
times_one t = omega (arith, ints)

-- a length that a midpoint moves up and damping takes back stays below a level. Of the midpoint's two values some
-- sender says the greater, and a member of the crowd the lower
stays_below : (c t flutter walk level long next mid low high value crowd_value other crowd_long : ℤ) → IsHeld c t flutter walk
    → long <ℤ level → next ≡ long +ℤ ((mid -ℤ c) *ℤ t) → (pos 0 <ℤ mid → (mid +ℤ mid) ≤ℤ (low +ℤ high))
    → high ≤ℤ value → IsUpTo t flutter long value other → other <ℤ level
    → low ≤ℤ crowd_value → IsUpTo t flutter long crowd_value crowd_long → crowd_long ≤ℤ ((level -ℤ pos 1) -ℤ walk)
    → next <ℤ level
stays_below c t flutter walk level long next mid low high value crowd_value other crowd_long h below is half from places also_below crowd_from crowd_places clear =
    by_lt_z next level (λ less. less)
    (λ over.
    let t_from : pos 0 ≤ℤ t = omega (arith, ints, h.lasts) in
    let back : (mid -ℤ c) *ℤ t ≡ (mid *ℤ t) -ℤ (c *ℤ t) = subz-mulz mid c t in
    let forward : c <ℤ mid =
    by_lt_z c mid (λ less. less)
    (λ to. absurd (not_back long level next ((mid -ℤ c) *ℤ t) (pos 0 *ℤ t) below is over (mulz-lez (mid -ℤ c) (pos 0) t (no_more mid c to) t_from) (times_none t))) in
    let halved = half (above_none c mid h.damps forward) in
    let high_places : (high *ℤ t) ≤ℤ (value *ℤ t) = mulz-lez high value t from t_from in
    let apart : (high -ℤ mid) *ℤ t ≡ (high *ℤ t) -ℤ (mid *ℤ t) = subz-mulz high mid t in
    let high_to : high ≤ℤ mid =
    by_lt_z mid high
    (λ less.
    absurd
    (
    too_far flutter walk t level long next other (c *ℤ t) (mid *ℤ t) (high *ℤ t) (value *ℤ t) ((mid -ℤ c) *ℤ t) ((high -ℤ mid) *ℤ t) (pos 1 *ℤ t)
    h.takes h.short is back over high_places places also_below apart (mulz-lez (pos 1) (high -ℤ mid) t (one_more mid high less) t_from) (times_one t)
    ))
    (λ to. to) in
    let low_from : mid ≤ℤ crowd_value = omega (arith, ints, halved, high_to, crowd_from) in
    absurd
    (
    jumped flutter walk t level long next crowd_long (c *ℤ t) (mid *ℤ t) (crowd_value *ℤ t) ((mid -ℤ c) *ℤ t)
    h.takes is back over (mulz-lez mid crowd_value t low_from t_from) crowd_places clear
    ))
  where
    no_more : (mid c : ℤ) → mid ≤ℤ c → (mid -ℤ c) ≤ℤ pos 0
    no_more mid c to = omega (arith, ints)

    one_more : (mid high : ℤ) → mid <ℤ high → pos 1 ≤ℤ (high -ℤ mid)
    one_more mid high less = omega (arith, ints)

    above_none : (c mid : ℤ) → pos 1 ≤ℤ c → c <ℤ mid → pos 0 <ℤ mid
    above_none c mid from less = omega (arith, ints)

    not_back : (long level next moved zero : ℤ) → long <ℤ level → next ≡ long +ℤ moved → level ≤ℤ next → moved ≤ℤ zero → zero ≡ pos 0 → ⊥
    not_back long level next moved zero a b d e f = omega (arith, ints)

    too_far : (flutter walk t level long next other ct midt hight valuet moved apart one : ℤ)
        → ((flutter +ℤ (t -ℤ pos 1)) -ℤ ct) ≤ℤ walk → walk <ℤ t → next ≡ long +ℤ moved → moved ≡ midt -ℤ ct → level ≤ℤ next
        → hight ≤ℤ valuet → (long +ℤ valuet) ≤ℤ (other +ℤ (flutter +ℤ (t -ℤ pos 1))) → other <ℤ level → apart ≡ hight -ℤ midt → one ≤ℤ apart → one ≡ t → ⊥
    too_far flutter walk t level long next other ct midt hight valuet moved apart one a b d e f g h i j k l = omega (arith, ints)

    jumped : (flutter walk t level long next other ct midt valuet moved : ℤ)
        → ((flutter +ℤ (t -ℤ pos 1)) -ℤ ct) ≤ℤ walk → next ≡ long +ℤ moved → moved ≡ midt -ℤ ct → level ≤ℤ next
        → midt ≤ℤ valuet → (long +ℤ valuet) ≤ℤ (other +ℤ (flutter +ℤ (t -ℤ pos 1))) → other ≤ℤ ((level -ℤ pos 1) -ℤ walk) → ⊥
    jumped flutter walk t level long next other ct midt valuet moved a b d e f g h = omega (arith, ints)

-- mirrored, it stays above a level
stays_above : (c t flutter walk level long next mid low high value crowd_value other crowd_long : ℤ) → IsHeld c t flutter walk
    → level <ℤ long → next ≡ long +ℤ ((mid +ℤ c) *ℤ t) → (mid <ℤ pos 0 → (low +ℤ high) ≤ℤ (mid +ℤ mid))
    → value ≤ℤ low → IsFrom t flutter long value other → level <ℤ other
    → crowd_value ≤ℤ high → IsFrom t flutter long crowd_value crowd_long → ((level +ℤ pos 1) +ℤ walk) ≤ℤ crowd_long
    → level <ℤ next
stays_above c t flutter walk level long next mid low high value crowd_value other crowd_long h above is half to places also_above crowd_to crowd_places clear =
    back next level
    (
    stays_below c t flutter walk (neg_ℤ level) (neg_ℤ long) (neg_ℤ next) (neg_ℤ mid) (neg_ℤ high) (neg_ℤ low) (neg_ℤ value) (neg_ℤ crowd_value) (neg_ℤ other) (neg_ℤ crowd_long) h
    (omega (arith, ints, above))
    (
    moved next long ((mid +ℤ c) *ℤ t) (neg_ℤ (mid +ℤ c) *ℤ t) ((neg_ℤ mid -ℤ c) *ℤ t) is (negz-mulz (mid +ℤ c) t) (ap (λ x. x *ℤ t) (turned mid c))
    )
    (λ up. halved mid low high (half (omega (arith, ints, up))))
    (omega (arith, ints, to))
    (placed flutter t long (value *ℤ t) (neg_ℤ value *ℤ t) other (negz-mulz value t) places)
    (omega (arith, ints, also_above))
    (omega (arith, ints, crowd_to))
    (placed flutter t long (crowd_value *ℤ t) (neg_ℤ crowd_value *ℤ t) crowd_long (negz-mulz crowd_value t) crowd_places)
    (cleared level walk crowd_long clear)
    )
  where
    back : (next level : ℤ) → neg_ℤ next <ℤ neg_ℤ level → level <ℤ next
    back next level less = omega (arith, ints)

    turned : (mid c : ℤ) → neg_ℤ mid -ℤ c ≡ neg_ℤ (mid +ℤ c)
    turned mid c = omega (arith, ints)

    moved : (next long x y z : ℤ) → next ≡ long +ℤ x → y ≡ neg_ℤ x → z ≡ y → neg_ℤ next ≡ neg_ℤ long +ℤ z
    moved next long x y z a b d = omega (arith, ints)

    halved : (mid low high : ℤ) → (low +ℤ high) ≤ℤ (mid +ℤ mid) → (neg_ℤ mid +ℤ neg_ℤ mid) ≤ℤ (neg_ℤ high +ℤ neg_ℤ low)
    halved mid low high le = omega (arith, ints)

    placed : (flutter t long x y other : ℤ) → y ≡ neg_ℤ x → (other -ℤ (flutter +ℤ (t -ℤ pos 1))) ≤ℤ (long +ℤ x)
        → (neg_ℤ long +ℤ y) ≤ℤ (neg_ℤ other +ℤ (flutter +ℤ (t -ℤ pos 1)))
    placed flutter t long x y other a b = omega (arith, ints)

    cleared : (level walk other : ℤ) → ((level +ℤ pos 1) +ℤ walk) ≤ℤ other → neg_ℤ other ≤ℤ ((neg_ℤ level -ℤ pos 1) -ℤ walk)
    cleared level walk other le = omega (arith, ints)

-- ---- the next length

-- half of a sum is truncated toward 0
half_up : (sum mid : ℤ) → mid ≡ int_div sum (pos 2) → pos 0 <ℤ mid → (mid +ℤ mid) ≤ℤ sum
half_up (pos n) mid half up = omega (arith, ints)
half_up (negsuc n) mid half up = absurd (omega (arith, ints))

half_down : (sum mid : ℤ) → mid ≡ int_div sum (pos 2) → mid <ℤ pos 0 → sum ≤ℤ (mid +ℤ mid)
half_down (pos n) mid half down = absurd (omega (arith, ints))
half_down (negsuc n) mid half down = omega (arith, ints)

-- the next length, at the damped rate, stays below a level above all lengths without rate correction
next_below : (n r c t flutter walk level mid low high value crowd_value other crowd_long : ℤ) → IsHeld c t flutter walk
    → (n *ℤ t) <ℤ level → ((n +ℤ r) *ℤ t) <ℤ level → mid ≡ half_of_sum low high
    → high ≤ℤ value → IsUpTo t flutter ((n +ℤ r) *ℤ t) value other → other <ℤ level
    → low ≤ℤ crowd_value → IsUpTo t flutter ((n +ℤ r) *ℤ t) crowd_value crowd_long → crowd_long ≤ℤ ((level -ℤ pos 1) -ℤ walk)
    → ((n +ℤ damped c (r +ℤ mid)) *ℤ t) <ℤ level
next_below n r c t flutter walk level mid low high value crowd_value other crowd_long h uncorrected below half from places also_below crowd_from crowd_places clear =
    by (damped c (r +ℤ mid)) (damped_cases c (r +ℤ mid) (omega (arith, ints, h.damps)))
  where
    less : (a b level : ℤ) → a ≤ℤ b → b <ℤ level → a <ℤ level
    less a b level le to = omega (arith, ints)

    corrected : (n r mid c b : ℤ) → b ≡ (r +ℤ mid) -ℤ c → n +ℤ b ≡ (n +ℤ r) +ℤ (mid -ℤ c)
    corrected n r mid c b is = omega (arith, ints)

    slower : (c z n b : ℤ) → pos 1 ≤ℤ c → z <ℤ neg_ℤ c → b ≡ z +ℤ c → (n +ℤ b) ≤ℤ n
    slower c z n b a d e = omega (arith, ints)

    same : (n b : ℤ) → b ≡ pos 0 → (n +ℤ b) ≤ℤ n
    same n b is = omega (arith, ints)

    by : (b : ℤ)
        → ((c <ℤ (r +ℤ mid)) × (b ≡ (r +ℤ mid) -ℤ c)) ⊎ (((r +ℤ mid) <ℤ neg_ℤ c) × (b ≡ (r +ℤ mid) +ℤ c)) ⊎ (((r +ℤ mid) ≤ℤ c) × (neg_ℤ c ≤ℤ (r +ℤ mid)) × (b ≡ pos 0))
        → ((n +ℤ b) *ℤ t) <ℤ level
    by b (inl (over, is)) =
        stays_below c t flutter walk level ((n +ℤ r) *ℤ t) ((n +ℤ b) *ℤ t) mid low high value crowd_value other crowd_long h below
        (ap (λ x. x *ℤ t) (corrected n r mid c b is) ∙ addz-mulz (n +ℤ r) (mid -ℤ c) t) (half_up (low +ℤ high) mid half)
        from places also_below crowd_from crowd_places clear
    by b (inr (inl (under, is))) =
        less ((n +ℤ b) *ℤ t) (n *ℤ t) level (mulz-lez (n +ℤ b) n t (slower c (r +ℤ mid) n b h.damps under is) (omega (arith, ints, h.lasts))) uncorrected
    by b (inr (inr (high_to, low_from, is))) =
        less ((n +ℤ b) *ℤ t) (n *ℤ t) level (mulz-lez (n +ℤ b) n t (same n b is) (omega (arith, ints, h.lasts))) uncorrected

-- and above one below them
next_above : (n r c t flutter walk level mid low high value crowd_value other crowd_long : ℤ) → IsHeld c t flutter walk
    → level <ℤ (n *ℤ t) → level <ℤ ((n +ℤ r) *ℤ t) → mid ≡ half_of_sum low high
    → value ≤ℤ low → IsFrom t flutter ((n +ℤ r) *ℤ t) value other → level <ℤ other
    → crowd_value ≤ℤ high → IsFrom t flutter ((n +ℤ r) *ℤ t) crowd_value crowd_long → ((level +ℤ pos 1) +ℤ walk) ≤ℤ crowd_long
    → level <ℤ ((n +ℤ damped c (r +ℤ mid)) *ℤ t)
next_above n r c t flutter walk level mid low high value crowd_value other crowd_long h uncorrected above half to places also_above crowd_to crowd_places clear =
    by (damped c (r +ℤ mid)) (damped_cases c (r +ℤ mid) (omega (arith, ints, h.damps)))
  where
    more : (a b level : ℤ) → b ≤ℤ a → level <ℤ b → level <ℤ a
    more a b level le from = omega (arith, ints)

    corrected : (n r mid c b : ℤ) → b ≡ (r +ℤ mid) +ℤ c → n +ℤ b ≡ (n +ℤ r) +ℤ (mid +ℤ c)
    corrected n r mid c b is = omega (arith, ints)

    faster : (c z n b : ℤ) → pos 1 ≤ℤ c → c <ℤ z → b ≡ z -ℤ c → n ≤ℤ (n +ℤ b)
    faster c z n b a d e = omega (arith, ints)

    same : (n b : ℤ) → b ≡ pos 0 → n ≤ℤ (n +ℤ b)
    same n b is = omega (arith, ints)

    by : (b : ℤ)
        → ((c <ℤ (r +ℤ mid)) × (b ≡ (r +ℤ mid) -ℤ c)) ⊎ (((r +ℤ mid) <ℤ neg_ℤ c) × (b ≡ (r +ℤ mid) +ℤ c)) ⊎ (((r +ℤ mid) ≤ℤ c) × (neg_ℤ c ≤ℤ (r +ℤ mid)) × (b ≡ pos 0))
        → level <ℤ ((n +ℤ b) *ℤ t)
    by b (inl (over, is)) =
        more ((n +ℤ b) *ℤ t) (n *ℤ t) level (mulz-lez n (n +ℤ b) t (faster c (r +ℤ mid) n b h.damps over is) (omega (arith, ints, h.lasts))) uncorrected
    by b (inr (inl (under, is))) =
        stays_above c t flutter walk level ((n +ℤ r) *ℤ t) ((n +ℤ b) *ℤ t) mid low high value crowd_value other crowd_long h above
        (ap (λ x. x *ℤ t) (corrected n r mid c b is) ∙ addz-mulz (n +ℤ r) (mid +ℤ c) t) (half_down (low +ℤ high) mid half)
        to places also_above crowd_to crowd_places clear
    by b (inr (inr (high_to, low_from, is))) =
        more ((n +ℤ b) *ℤ t) (n *ℤ t) level (mulz-lez n (n +ℤ b) t (same n b is) (omega (arith, ints, h.lasts))) uncorrected

-- ---- senders that are clear of a level

times_floor : (n t : ℤ) → pos 0 <ℤ t → (floor_of n t *ℤ t) ≤ℤ n
times_floor n t lasts = from n (floor_of n t *ℤ t) (rest_of n t lasts).from
  where
    from : (n x : ℤ) → pos 0 ≤ℤ (n -ℤ x) → x ≤ℤ n
    from n x le = omega (arith, ints)

-- a multiple that a number reaches is one by no more than the quotient
floor_reaches : (q n t : ℤ) → pos 0 <ℤ t → (q *ℤ t) ≤ℤ n → q ≤ℤ floor_of n t
floor_reaches q n t lasts to =
    by_lt_z (floor_of n t) q
    (λ less.
    absurd
    (
    beyond n t (q *ℤ t) (floor_of n t *ℤ t) ((floor_of n t +ℤ pos 1) *ℤ t) (pos 1 *ℤ t) to (rest_of n t lasts).to
    (mulz-lez (floor_of n t +ℤ pos 1) q t (next (floor_of n t) q less) (omega (arith, ints, lasts))) (addz-mulz (floor_of n t) (pos 1) t) (times_one t)
    ))
    (λ le. le)
  where
    next : (a q : ℤ) → a <ℤ q → (a +ℤ pos 1) ≤ℤ q
    next a q less = omega (arith, ints)

    beyond : (n t x whole more one : ℤ) → x ≤ℤ n → ((n -ℤ whole) +ℤ pos 1) ≤ℤ t → more ≤ℤ x → more ≡ whole +ℤ one → one ≡ t → ⊥
    beyond n t x whole more one a b c d e = omega (arith, ints)

-- a length below a level of which its microtick is clear lies a walk further below
clear_below : (q t walk level : ℤ) → pos 0 <ℤ t → is_clear_below walk level t ≡ true → (q *ℤ t) <ℤ level → (q *ℤ t) ≤ℤ ((level -ℤ pos 1) -ℤ walk)
clear_below q t walk level lasts clear below =
    let reaches = floor_reaches q (level -ℤ pos 1) t lasts (before (q *ℤ t) level below) in
    let short = through q (floor_of (level -ℤ pos 1) t) (floor_of ((level -ℤ pos 1) -ℤ walk) t) reaches clear in
    joined (q *ℤ t) (floor_of ((level -ℤ pos 1) -ℤ walk) t *ℤ t) ((level -ℤ pos 1) -ℤ walk)
    (mulz-lez q (floor_of ((level -ℤ pos 1) -ℤ walk) t) t short (omega (arith, ints, lasts))) (times_floor ((level -ℤ pos 1) -ℤ walk) t lasts)
  where
    before : (x level : ℤ) → x <ℤ level → x ≤ℤ (level -ℤ pos 1)
    before x level less = omega (arith, ints)

    through : (q a b : ℤ) → q ≤ℤ a → int_le a b ≡ true → q ≤ℤ b
    through q a b le h = omega (arith, ints)

    joined : (a b c : ℤ) → a ≤ℤ b → b ≤ℤ c → a ≤ℤ c
    joined a b c d e = omega (arith, ints)

clear_above : (q t walk level : ℤ) → pos 0 <ℤ t → is_clear_above walk level t ≡ true → level <ℤ (q *ℤ t) → ((level +ℤ pos 1) +ℤ walk) ≤ℤ (q *ℤ t)
clear_above q t walk level lasts clear above =
    by_lt_z (level +ℤ walk) (q *ℤ t) (after (q *ℤ t) level walk)
    (λ to.
    let short = through q (floor_of (level +ℤ walk) t) (floor_of level t) (floor_reaches q (level +ℤ walk) t lasts to) clear in
    absurd
    (
    against (q *ℤ t) (floor_of level t *ℤ t) level above
    (mulz-lez q (floor_of level t) t short (omega (arith, ints, lasts))) (times_floor level t lasts)
    ))
  where
    after : (x level walk : ℤ) → (level +ℤ walk) <ℤ x → ((level +ℤ pos 1) +ℤ walk) ≤ℤ x
    after x level walk less = omega (arith, ints)

    through : (q a b : ℤ) → q ≤ℤ a → int_le a b ≡ true → q ≤ℤ b
    through q a b le h = omega (arith, ints)

    against : (a b level : ℤ) → level <ℤ a → a ≤ℤ b → b ≤ℤ level → ⊥
    against a b level c d e = omega (arith, ints)

-- ---- the parameters of a walk that is held

zero_is : (n : ℕ) → nat_eq n 0 ≡ true → n ≡ 0
zero_is n h = grind (arith, nat_tests)

none_times : (n : ℤ) → n *ℤ pos 0 ≡ pos 0
none_times n = omega (arith, ints)

record HeldWalk (p : Values) (flutter : ℕ) : Type 0 where
  still : p.change_bound ≡ pos 0
  narrow : wide_change p ≡ 0
  damps : pos 1 ≤ℤ p.damping
  is : rate_walk p flutter ≡ (pos flutter -ℤ pos 1) +ℤ (pos (shortest_micro p) -ℤ (p.damping *ℤ pos (shortest_micro p)))
  short : rate_walk p flutter <ℤ pos (shortest_micro p)

held_walk : (p : Values) (flutter : ℕ) → IsSane p → walk_is_held p flutter ≡ true → HeldWalk p flutter
held_walk p flutter sane held =
    let tests = parts (nat_eq (nat_abs p.change_bound) 0) (int_lt (pos 0) (rate_walk p flutter)) (int_lt (pos 3 *ℤ rate_walk p flutter) (pos (2 * shortest_micro p))) _ held in
    let s = signed_of p sane in
    let still : p.change_bound ≡ pos 0 = none p.change_bound tests.0 s.w_from in
    let same : cycle_change p ≡ 0 = unchanged (cycle_change p) (p.micros +ℤ p.rate_limit) p.change_bound still s.j_is in
    let narrow : wide_change p ≡ 0 = unwidened (wide_change p) ((p.micros +ℤ p.rate_limit) +ℤ p.offset_limit) p.change_bound still s.wide_is in
    let drift = sane.ranges name.xRateBound in
    let most : amount p name.xRateBound ≤ 1500 = omega (arith, ints, drift.0, drift.1) in
    let walk =
    walk_is flutter (cycle_change p) (wide_change p) (shortest_micro p) (longest_micro p) p.damping (p.damping *ℤ pos (shortest_micro p)) (int_lt (pos 0) p.damping) refl same narrow
    (omega (arith, most)) (omega (arith, most)) tests.2 in
    record {
      still = still;
      narrow = narrow;
      damps = walk.0;
      is = walk.1;
      short = shorter (rate_walk p flutter) (shortest_micro p) tests.1 tests.2;
    }
  where
    parts : (still up short room : Bool) → (still && up && short && room) ≡ true → (still ≡ true) × (up ≡ true) × (short ≡ true)
    parts true true true room is = (refl, refl, refl)
    parts true true false room is = absurd (cc)
    parts true false short room is = absurd (cc)
    parts false up short room is = absurd (cc)

    none : (w : ℤ) → nat_eq (nat_abs w) 0 ≡ true → pos 0 ≤ℤ w → w ≡ pos 0
    none (pos n) h from = ap pos (zero_is n h)
    none (negsuc n) h from = absurd (omega (arith, ints))

    unchanged : (j : ℕ) (n w : ℤ) → w ≡ pos 0 → pos j ≡ n *ℤ w → j ≡ 0
    unchanged j n w none is = let no_times : n *ℤ w ≡ pos 0 = ap (λ x. n *ℤ x) none ∙ none_times n in omega (arith, ints, is, no_times)

    unwidened : (j : ℕ) (n w : ℤ) → w ≡ pos 0 → pos j ≡ (n *ℤ w) +ℤ w → j ≡ 0
    unwidened j n w none is = let no_times : n *ℤ w ≡ pos 0 = ap (λ x. n *ℤ x) none ∙ none_times n in omega (arith, ints, is, no_times, none)

    shorter : (walk : ℤ) (qm : ℕ) → int_lt (pos 0) walk ≡ true → int_lt (pos 3 *ℤ walk) (pos (2 * qm)) ≡ true → walk <ℤ pos qm
    shorter walk qm up h = omega (arith, ints)

    walk_is : (flutter change wide qm qp : ℕ) (c cqm : ℤ) (damps : Bool) → int_lt (pos 0) c ≡ damps → change ≡ 0 → wide ≡ 0 → 3 ≤ qm → qm ≤ qp
        → int_lt (pos 3 *ℤ ((pos (flutter + change + wide) -ℤ pos 1) +ℤ (if damps then pos qm -ℤ cqm else pos qp))) (pos (2 * qm)) ≡ true
        → (pos 1 ≤ℤ c) × (((pos (flutter + change + wide) -ℤ pos 1) +ℤ (if damps then pos qm -ℤ cqm else pos qp)) ≡ (pos flutter -ℤ pos 1) +ℤ (pos qm -ℤ cqm))
    walk_is flutter change wide qm qp c cqm true is same narrow some order h = (omega (arith, ints, is), omega (arith, ints, same, narrow))
    walk_is flutter change wide qm qp c cqm false is same narrow some order h = absurd (omega (arith, ints, h, some, order))

-- a receiver of a walk that is held
is_held : (p : Values) (flutter : ℕ) (t : ℤ) → IsSane p → HeldWalk p flutter → pos (shortest_micro p) ≤ℤ t → IsHeld p.damping t (pos flutter) (rate_walk p flutter)
is_held p flutter t sane held least =
    let s = signed_of p sane in
    let qm = pos (shortest_micro p) in
    let wider : ((p.damping -ℤ pos 1) *ℤ qm) ≤ℤ ((p.damping -ℤ pos 1) *ℤ t) = mulz-lez_left qm t (p.damping -ℤ pos 1) least (omega (arith, ints, held.damps)) in
    record {
      lasts = omega (arith, ints, s.qm_from, least);
      damps = held.damps;
      takes =
          takes (pos flutter) t qm (p.damping *ℤ t) (p.damping *ℤ qm) (pos 1 *ℤ t) (pos 1 *ℤ qm) ((p.damping -ℤ pos 1) *ℤ t) ((p.damping -ℤ pos 1) *ℤ qm) (rate_walk p flutter)
          (subz-mulz p.damping (pos 1) t) (subz-mulz p.damping (pos 1) qm) (times_one t) (times_one qm) wider held.is;
      short = through (rate_walk p flutter) qm t held.short least;
    }
  where
    takes : (flutter t qm ct cqm one_t one_qm less_t less_qm walk : ℤ) → less_t ≡ ct -ℤ one_t → less_qm ≡ cqm -ℤ one_qm → one_t ≡ t → one_qm ≡ qm → less_qm ≤ℤ less_t
        → walk ≡ (flutter -ℤ pos 1) +ℤ (qm -ℤ cqm) → ((flutter +ℤ (t -ℤ pos 1)) -ℤ ct) ≤ℤ walk
    takes flutter t qm ct cqm one_t one_qm less_t less_qm walk a b c d e f = omega (arith, ints)

    through : (a b c : ℤ) → a <ℤ b → b ≤ℤ c → a <ℤ c
    through a b c less le = omega (arith, ints)

-- ---- over rows

-- a sender between two levels, with a microtick no shorter than the shortest
record LiesBetween (p : Values) (low high : ℤ) (sender : Sender) : Type 0 where
  above : low <ℤ cycle_length_of p sender.even
  below : cycle_length_of p sender.even <ℤ high
  least : pos (shortest_micro p) ≤ℤ sender.even.length

-- what a value says of a length from both sides
placed_up : (flutter wide : ℕ) (t long x other : ℤ) → wide ≡ 0 → IsWithin (pos (flutter + wide) +ℤ (t -ℤ pos 1)) ((long +ℤ x) -ℤ other) → (long +ℤ x) ≤ℤ (other +ℤ (pos flutter +ℤ (t -ℤ pos 1)))
placed_up flutter wide t long x other narrow within = omega (arith, ints, narrow, within.high)

placed_down : (flutter wide : ℕ) (t long x other : ℤ) → wide ≡ 0 → IsWithin (pos (flutter + wide) +ℤ (t -ℤ pos 1)) ((long +ℤ x) -ℤ other) → (other -ℤ (pos flutter +ℤ (t -ℤ pos 1))) ≤ℤ (long +ℤ x)
placed_down flutter wide t long x other narrow within = omega (arith, ints, narrow, within.low)

not_less : (a b : ℤ) → int_lt a b ≡ false → b ≤ℤ a
not_less a b h = omega (arith, ints)

-- the next length at the microtick of the odd row
abbrev next_of : Values → NodeRow → ℤ → ℤ
next_of p row mid = (p.micros +ℤ damped p.damping (row.rate +ℤ mid)) *ℤ row.length

stays_under : (p : Values) (flutter crowd : ℕ) (senders : List Sender) (low high : ℤ) (row : NodeRow) (values : List ℤ) (mid : ℤ)
    → IsSane p → HeldWalk p flutter → All (LiesBetween p low high) senders → IsHighLevel p flutter crowd (micros_of senders) high
    → cycle_length_of p row <ℤ high → discarded (length values) ≤ crowd → HasProperMicro p row
    → Hears Sender (λ sender value. PlacesEven p flutter sender row value) senders values → IsMidpoint values mid
    → next_of p row mid <ℤ high
stays_under p flutter crowd senders low high row values mid sane held between level to few micro hears middle =
    let s = signed_of p sane in
    let Says : Sender → ℤ → Type 0 = λ sender value. PlacesEven p flutter sender row value in
    let is_member : Sender → Bool = λ sender. is_clear_below (rate_walk p flutter) high sender.even.length in
    let clear = count_by-map (is_clear_below (rate_walk p flutter) high) (λ (sender : Sender). sender.even.length) senders in
    let most = level.clear in
    let one = some_from (LiesBetween p low high) Says senders values middle.high between hears middle.greatest in
    let member = crowd_from (LiesBetween p low high) Says is_member senders values middle.low between hears middle.least (omega (arith, clear, most, few)) in
    let up_to : (p.micros *ℤ row.length) ≤ℤ (p.micros *ℤ pos (longest_micro p)) = mulz-lez_left row.length (pos (longest_micro p)) p.micros micro.most (omega (arith, ints, s.n_from)) in
    next_below p.micros row.rate p.damping row.length (pos flutter) (rate_walk p flutter) high mid middle.low middle.high one.value member.value (cycle_length_of p one.sender.even) (cycle_length_of p member.sender.even)
    (is_held p flutter row.length sane held micro.least)
    (under (p.micros *ℤ row.length) (p.micros *ℤ pos (longest_micro p)) (pos (longest_cycle p)) high up_to (longest_is p sane) level.above)
    to middle.half
    (not_less one.value middle.high one.is)
    (placed_up flutter (wide_change p) row.length (cycle_length_of p row) (one.value *ℤ row.length) (cycle_length_of p one.sender.even) held.narrow one.says.length)
    one.holds.below
    (not_less member.value middle.low member.is)
    (placed_up flutter (wide_change p) row.length (cycle_length_of p row) (member.value *ℤ row.length) (cycle_length_of p member.sender.even) held.narrow member.says.length)
    (
    clear_below (p.micros +ℤ member.sender.even.rate) member.sender.even.length (rate_walk p flutter) high (omega (arith, ints, s.qm_from, member.holds.least)) member.member
    member.holds.below
    )
  where
    under : (a b c level : ℤ) → a ≤ℤ b → c ≡ b → c <ℤ level → a <ℤ level
    under a b c level d e f = omega (arith, ints)

stays_over : (p : Values) (flutter crowd : ℕ) (senders : List Sender) (low high : ℤ) (row : NodeRow) (values : List ℤ) (mid : ℤ)
    → IsSane p → HeldWalk p flutter → All (LiesBetween p low high) senders → IsLowLevel p flutter crowd (micros_of senders) low
    → low <ℤ cycle_length_of p row → discarded (length values) ≤ crowd → HasProperMicro p row
    → Hears Sender (λ sender value. PlacesEven p flutter sender row value) senders values → IsMidpoint values mid
    → low <ℤ next_of p row mid
stays_over p flutter crowd senders low high row values mid sane held between level from few micro hears middle =
    let s = signed_of p sane in
    let Says : Sender → ℤ → Type 0 = λ sender value. PlacesEven p flutter sender row value in
    let is_member : Sender → Bool = λ sender. is_clear_above (rate_walk p flutter) low sender.even.length in
    let clear = count_by-map (is_clear_above (rate_walk p flutter) low) (λ (sender : Sender). sender.even.length) senders in
    let most = level.clear in
    let one = some_to (LiesBetween p low high) Says senders values middle.low between hears middle.least in
    let member = crowd_to (LiesBetween p low high) Says is_member senders values middle.high between hears middle.greatest (omega (arith, clear, most, few)) in
    let from_least : (p.micros *ℤ pos (shortest_micro p)) ≤ℤ (p.micros *ℤ row.length) = mulz-lez_left (pos (shortest_micro p)) row.length p.micros micro.least (omega (arith, ints, s.n_from)) in
    next_above p.micros row.rate p.damping row.length (pos flutter) (rate_walk p flutter) low mid middle.low middle.high one.value member.value (cycle_length_of p one.sender.even) (cycle_length_of p member.sender.even)
    (is_held p flutter row.length sane held micro.least)
    (over (p.micros *ℤ row.length) (p.micros *ℤ pos (shortest_micro p)) (pos (shortest_cycle p)) low from_least (shortest_is p sane) level.below)
    from middle.half
    (not_less middle.low one.value one.is)
    (placed_down flutter (wide_change p) row.length (cycle_length_of p row) (one.value *ℤ row.length) (cycle_length_of p one.sender.even) held.narrow one.says.length)
    one.holds.above
    (not_less middle.high member.value member.is)
    (placed_down flutter (wide_change p) row.length (cycle_length_of p row) (member.value *ℤ row.length) (cycle_length_of p member.sender.even) held.narrow member.says.length)
    (
    clear_above (p.micros +ℤ member.sender.even.rate) member.sender.even.length (rate_walk p flutter) low (omega (arith, ints, s.qm_from, member.holds.least)) member.member
    member.holds.above
    )
  where
    over : (a b c level : ℤ) → b ≤ℤ a → c ≡ b → level <ℤ c → level <ℤ a
    over a b c level d e f = omega (arith, ints)

-- a term that was not cut is the rate before
uncut_is : (limit x : ℤ) → (term_of limit x).outcome ≡ Within → (term_of limit x).value ≡ x
uncut_is limit x is = by (int_lt limit x) (int_lt x (neg_ℤ limit)) is
  where
    by : (over under : Bool) → (if over || under then Exceeded else Within) ≡ Within → (if over then limit else (if under then neg_ℤ limit else x)) ≡ x
    by true under is = absurd (cc)
    by false true is = absurd (cc)
    by false false is = refl

pub levels_hold_lem : LevelsHold
levels_hold_lem p flutter crowd senders low high row values term even sane is_held_walk proper lowest highest between from to few round uncut next = by_term round.is_term
  where
    same_length : (w one other : ℤ) → w ≡ pos 0 → IsWithin w (other -ℤ one) → other ≡ one
    same_length w one other none within = omega (arith, ints, none, within.low, within.high)

    by_term : ((values ≡ []) × (term ≡ missing_term row.rate)) ⊎ ((mid : ℤ) × IsMidpoint values mid × (term ≡ term_of p.rate_limit (damped p.damping (row.rate +ℤ mid))))
        → (low <ℤ cycle_length_of p even) × (cycle_length_of p even <ℤ high)
    by_term (inl (none, is)) = let missing = ap (λ (t : Term). t.outcome) is in absurd (cc)
    by_term (inr (mid, middle, is)) =
        let held = held_walk p flutter sane is_held_walk in
        let b = damped p.damping (row.rate +ℤ mid) in
        let rate : even.rate ≡ b = next.rate ∙ ap (λ (t : Term). t.value) is ∙ uncut_is p.rate_limit b (sym (ap (λ (t : Term). t.outcome) is) ∙ uncut) in
        let micro : even.length ≡ row.length = same_length p.change_bound row.length even.length held.still (steady_within p row even sane next.steady) in
        let long : next_of p row mid ≡ cycle_length_of p even = sym (ap (λ (x : ℤ). (p.micros +ℤ x) *ℤ even.length) rate ∙ ap (λ (x : ℤ). (p.micros +ℤ b) *ℤ x) micro) in
        let lie =
        All-both (λ (sender : Sender). (low <ℤ cycle_length_of p sender.even) × (cycle_length_of p sender.even <ℤ high)) (λ (sender : Sender). pos (shortest_micro p) ≤ℤ sender.even.length) (LiesBetween p low high) senders
        (λ sender lies least. record { above = lies.0; below = lies.1; least = least })
        (unmapped (λ (row : NodeRow). (low <ℤ cycle_length_of p row) × (cycle_length_of p row <ℤ high)) (λ (sender : Sender). sender.even) senders between)
        (unmapped (λ (micro : ℤ). pos (shortest_micro p) ≤ℤ micro) (λ (sender : Sender). sender.even.length) senders proper) in (
          subst (λ (x : ℤ). low <ℤ x) long (stays_over p flutter crowd senders low high row values mid sane held lie lowest from few round.micro round.hears middle),
          subst (λ (x : ℤ). x <ℤ high) long (stays_under p flutter crowd senders low high row values mid sane held lie highest to few round.micro round.hears middle),
        )
