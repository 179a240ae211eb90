-- Intervals of readings that are narrow, and the ticks that lie between what they hold.
use Rattle.std.proofs.Common.{◌≡◌, ℕ, ◌≤◌, ℤ, pos, Bool, true, false, List, [], ◌∷◌, All, map, refl, ap, sym, ◌∙◌, arith}
use Rattle.std.specs.Prelude.{◌+ℤ◌, ◌-ℤ◌, ◌*ℤ◌, ◌≤ℤ◌, ◌<ℤ◌, neg_ℤ, int_lt, if◌then◌else◌, Contains}
use Rattle.std.specs.Int.{int_max}
use Rattle.std.proofs.lemmas.Int.{ints, by_lt_z}
use Rattle.std.proofs.lemmas.List.Elements.{All-cons, All-contains, All-contains_itself, All-head, All-nil, All-tail, All-weaker}
use Rattle.fr_midpoint.proofs.Products.{lez_of_mulz-lez, mulz-lez, mulz-lez_left, mulz-subz, mulz_assoc, mulz_comm, mulz_from, negz-mulz}
use Rattle.fr_bound.specs.Bounds.{nominal}
use Rattle.fr_course.proofs.Floors.{ceiling_above}
use Rattle.fr_course.specs.Readings.{ceiling_of, fast_million, least_ticks, most_reading, most_ticks, slow_million}
use Rattle.fr_course.specs.Spread.{least_distance, least_from, least_spread, most_distance, most_from, most_spread}
use Rattle.fr_course.specs.declared.intervals.Interval.{Interval}
use Rattle.fr_seen.specs.Clocks.{HasReading, IsWithinDrift, StraightClock}
use Rattle.fr_seen.proofs.Intervals.{on_max}
use Rattle.fr_seen.proofs.Pairs.{max_left, max_right}
use Rattle.fr_seen.proofs.Readings.{most_reading_lem}
use Rattle.fr_seen.specs.Completeness.{IsNoWider}

le_itself : (a : ℤ) → a ≤ℤ a
le_itself a = omega (arith, ints)

no_less : (a : ℤ) → pos 0 <ℤ a → pos 0 ≤ℤ a
no_less a h = omega (arith, ints)

trans : (a b c : ℤ) → a ≤ℤ b → b ≤ℤ c → a ≤ℤ c
trans a b c h k = omega (arith, ints)

million_from : pos 0 ≤ℤ pos nominal
million_from = omega (arith, ints)

million_some : pos 0 <ℤ pos nominal
million_some = omega (arith, ints)

pub fast_some : (drift : ℕ) → pos 0 <ℤ fast_million drift
fast_some drift = omega (arith, ints)

pub slow_some : (drift : ℕ) → drift ≤ 1_000 → pos 0 <ℤ slow_million drift
slow_some drift le = omega (arith, ints)

-- ---- numbers of ticks that a reading can be

below_product : (a b : ℤ) → a ≤ℤ pos 0 → pos 0 ≤ℤ b → (a *ℤ b) ≤ℤ pos 0
below_product a b h k = omega (arith, ints, mulz-lez a (pos 0) b h k)

-- a reading that is above so many ticks of the fastest clock
pub ticks_above : (drift : ℕ) (reading k : ℤ) → pos 0 ≤ℤ k → (k *ℤ fast_million drift) <ℤ (reading *ℤ pos nominal) → k <ℤ least_ticks drift reading
ticks_above drift reading k from above = by (int_lt reading (pos 0)) refl
  where
    product_from : pos 0 ≤ℤ (k *ℤ fast_million drift)
    product_from = mulz_from k (fast_million drift) from (no_less (fast_million drift) (fast_some drift))

    from_lt : (a : ℤ) → int_lt a (pos 0) ≡ true → a ≤ℤ pos 0
    from_lt a is = grind (arith, ints)

    none : (a b : ℤ) → pos 0 ≤ℤ a → a <ℤ b → b ≤ℤ pos 0 → ⊥
    none a b h i j = omega (arith, ints)

    over : (kf yn cf : ℤ) → kf <ℤ yn → yn ≤ℤ cf → cf ≤ℤ kf → ⊥
    over kf yn cf h i j = omega (arith, ints)

    by : (negative : Bool) → int_lt reading (pos 0) ≡ negative → k <ℤ ceiling_of (reading *ℤ pos nominal) (if negative then slow_million drift else fast_million drift)
    by true is = absurd (none (k *ℤ fast_million drift) (reading *ℤ pos nominal) product_from above (below_product reading (pos nominal) (from_lt reading is) million_from))
    by false is =
        let ceiling = ceiling_of (reading *ℤ pos nominal) (fast_million drift) in
        by_lt_z
        k
        ceiling
        (λ less. less)
        (λ no_more.
        absurd (over (k *ℤ fast_million drift) (reading *ℤ pos nominal) (ceiling *ℤ fast_million drift) above (ceiling_above (reading *ℤ pos nominal) (fast_million drift) (fast_some drift))
        (mulz-lez ceiling k (fast_million drift) no_more (no_less (fast_million drift) (fast_some drift)))))

-- one that is within so many of the slowest
pub ticks_within : (drift : ℕ) (reading k : ℤ) → drift ≤ 1_000 → pos 0 ≤ℤ k → pos 0 ≤ℤ reading → (reading *ℤ pos nominal) ≤ℤ (k *ℤ slow_million drift) → most_ticks drift reading ≤ℤ k
ticks_within drift reading k drift_to from reading_from within = turned (least_ticks drift (neg_ℤ reading)) k (by (int_lt (neg_ℤ reading) (pos 0)) refl)
  where
    turned : (c k : ℤ) → neg_ℤ k ≤ℤ c → neg_ℤ c ≤ℤ k
    turned c k h = omega (arith, ints)

    enough : (part : ℤ) → pos 0 <ℤ part → (neg_ℤ k *ℤ part) ≤ℤ (neg_ℤ reading *ℤ pos nominal) → neg_ℤ k ≤ℤ ceiling_of (neg_ℤ reading *ℤ pos nominal) part
    enough part some le =
        let ceiling = ceiling_of (neg_ℤ reading *ℤ pos nominal) part in
        lez_of_mulz-lez (neg_ℤ k) ceiling part some (trans (neg_ℤ k *ℤ part) (neg_ℤ reading *ℤ pos nominal) (ceiling *ℤ part) le (ceiling_above (neg_ℤ reading *ℤ pos nominal) part some))

    both : (ks yn nks nyn : ℤ) → yn ≤ℤ ks → nks ≡ neg_ℤ ks → nyn ≡ neg_ℤ yn → nks ≤ℤ nyn
    both ks yn nks nyn h i j = omega (arith, ints)

    not_less : (a : ℤ) → int_lt (neg_ℤ a) (pos 0) ≡ false → pos 0 ≤ℤ a → pos 0 ≤ℤ neg_ℤ a
    not_less a is h = grind (arith, ints)

    down : (a : ℤ) → pos 0 ≤ℤ a → neg_ℤ a ≤ℤ pos 0
    down a h = omega (arith, ints)

    by : (negative : Bool) → int_lt (neg_ℤ reading) (pos 0) ≡ negative
        → neg_ℤ k ≤ℤ ceiling_of (neg_ℤ reading *ℤ pos nominal) (if negative then slow_million drift else fast_million drift)
    by true is =
        enough (slow_million drift) (slow_some drift drift_to)
        (both (k *ℤ slow_million drift) (reading *ℤ pos nominal) (neg_ℤ k *ℤ slow_million drift) (neg_ℤ reading *ℤ pos nominal) within (negz-mulz k (slow_million drift)) (negz-mulz reading (pos nominal)))
    by false is =
        enough (fast_million drift) (fast_some drift)
        (trans (neg_ℤ k *ℤ fast_million drift) (pos 0) (neg_ℤ reading *ℤ pos nominal)
        (below_product (neg_ℤ k) (fast_million drift) (down k from) (no_less (fast_million drift) (fast_some drift)))
        (mulz_from (neg_ℤ reading) (pos nominal) (not_less reading is reading_from) million_from))

-- ---- what two narrow intervals hold

swapped : (a b c : ℤ) → a *ℤ (b *ℤ c) ≡ b *ℤ (a *ℤ c)
swapped a b c = sym (mulz_assoc a b c) ∙ ap (λ x. x *ℤ c) (mulz_comm a b) ∙ mulz_assoc b a c

module _ (drift : ℕ) (clock : StraightClock) (is : IsWithinDrift drift clock) where
  ticks_from : pos 0 ≤ℤ clock.ticks
  ticks_from = no_less clock.ticks is.ticks_from

  -- so long on the clock is so long for the slowest one, and for the fastest one
  slowly : (x y : ℤ) → pos 0 ≤ℤ x → (clock.counts *ℤ x) ≤ℤ (clock.ticks *ℤ y) → (slow_million drift *ℤ x) ≤ℤ (y *ℤ pos nominal)
  slowly x y from le =
      let s = slow_million drift in
      let n = pos nominal in
      let p = clock.counts in
      let q = clock.ticks in
      lez_of_mulz-lez (s *ℤ x) (y *ℤ n) q is.ticks_from
      (chain ((s *ℤ x) *ℤ q) (x *ℤ (s *ℤ q)) (x *ℤ (n *ℤ p)) (n *ℤ (p *ℤ x)) (n *ℤ (q *ℤ y)) ((y *ℤ n) *ℤ q)
      (ap (λ z. z *ℤ q) (mulz_comm s x) ∙ mulz_assoc x s q) (mulz-lez_left (s *ℤ q) (n *ℤ p) x is.slow from) (swapped x n p ∙ ap (λ z. n *ℤ z) (mulz_comm x p))
      (mulz-lez_left (p *ℤ x) (q *ℤ y) n le million_from) (ap (λ z. z *ℤ q) (mulz_comm y n) ∙ mulz_assoc n y q ∙ ap (λ z. n *ℤ z) (mulz_comm y q)))
    where
      chain : (a b c d e g : ℤ) → a ≡ b → b ≤ℤ c → c ≡ d → d ≤ℤ e → g ≡ e → a ≤ℤ g
      chain a b c d e g h i j k l = omega (arith, ints)

  quickly : (x y : ℤ) → pos 0 ≤ℤ x → (clock.ticks *ℤ y) ≤ℤ (clock.counts *ℤ x) → (y *ℤ pos nominal) ≤ℤ (fast_million drift *ℤ x)
  quickly x y from le =
      let f = fast_million drift in
      let n = pos nominal in
      let p = clock.counts in
      let q = clock.ticks in
      lez_of_mulz-lez (y *ℤ n) (f *ℤ x) q is.ticks_from
      (chain ((y *ℤ n) *ℤ q) (n *ℤ (q *ℤ y)) (n *ℤ (p *ℤ x)) (x *ℤ (n *ℤ p)) (x *ℤ (f *ℤ q)) ((f *ℤ x) *ℤ q)
      (ap (λ z. z *ℤ q) (mulz_comm y n) ∙ mulz_assoc n y q ∙ ap (λ z. n *ℤ z) (mulz_comm y q)) (mulz-lez_left (q *ℤ y) (p *ℤ x) n le million_from)
      (ap (λ z. n *ℤ z) (mulz_comm p x) ∙ swapped n x p) (mulz-lez_left (n *ℤ p) (f *ℤ q) x is.fast from) (ap (λ z. z *ℤ q) (mulz_comm f x) ∙ mulz_assoc x f q))
    where
      chain : (a b c d e g : ℤ) → a ≡ b → b ≤ℤ c → c ≡ d → d ≤ℤ e → g ≡ e → a ≤ℤ g
      chain a b c d e g h i j k l = omega (arith, ints)

  pub micro_from : (ticks : ℕ) → pos 0 ≤ℤ most_reading drift (pos ticks)
  micro_from ticks =
      let most = most_reading drift (pos ticks) in
      lez_of_mulz-lez (pos 0) most clock.ticks is.ticks_from
      (from (pos 0 *ℤ clock.ticks) (clock.counts *ℤ pos ticks) (clock.ticks *ℤ most) (most *ℤ clock.ticks) (none clock.ticks) (mulz_from clock.counts (pos ticks) (no_less clock.counts is.counts_from) (natural ticks))
      (most_reading_lem drift clock (pos ticks) is) (mulz_comm most clock.ticks))
    where
      none : (a : ℤ) → pos 0 *ℤ a ≡ pos 0
      none a = omega (arith, ints)

      natural : (a : ℕ) → pos 0 ≤ℤ pos a
      natural a = omega (arith, ints)

      from : (z a b c : ℤ) → z ≡ pos 0 → pos 0 ≤ℤ a → a ≤ℤ b → c ≡ b → z ≤ℤ c
      from z a b c h i j k = omega (arith, ints)

  -- the ends next to each other of what lies so far apart or further lie apart by no less than both widths less
  pub ends_apart : (i j : Interval) (r s x width : ℤ) → HasReading clock i r → HasReading clock j s → (clock.counts *ℤ x) ≤ℤ (r -ℤ s) → IsNoWider width i → IsNoWider width j → pos 0 ≤ℤ x
      → (slow_million drift *ℤ x) ≤ℤ (((i.low -ℤ j.high) +ℤ (pos 2 *ℤ width)) *ℤ pos nominal)
  ends_apart i j r s x width here there apart one other from =
      slowly x ((i.low -ℤ j.high) +ℤ (pos 2 *ℤ width)) from
      (chain (clock.counts *ℤ x) r s (clock.ticks *ℤ i.high) (clock.ticks *ℤ j.low) (clock.ticks *ℤ (i.high -ℤ j.low)) (clock.ticks *ℤ ((i.low -ℤ j.high) +ℤ (pos 2 *ℤ width))) apart here.high there.low
      (mulz-subz i.high j.low clock.ticks)
      (mulz-lez_left (i.high -ℤ j.low) ((i.low -ℤ j.high) +ℤ (pos 2 *ℤ width)) clock.ticks (ends i.low i.high j.low j.high width one other) ticks_from))
    where
      ends : (il ih jl jh w : ℤ) → (ih -ℤ il) ≤ℤ w → (jh -ℤ jl) ≤ℤ w → (ih -ℤ jl) ≤ℤ ((il -ℤ jh) +ℤ (pos 2 *ℤ w))
      ends il ih jl jh w h k = omega (arith, ints)

      chain : (px r s qh ql d e : ℤ) → px ≤ℤ (r -ℤ s) → r ≤ℤ qh → ql ≤ℤ s → d ≡ qh -ℤ ql → d ≤ℤ e → px ≤ℤ e
      chain px r s qh ql d e a b c g f = omega (arith, ints)

  -- and those away from each other of what lies no further apart by no more than both widths more
  pub ends_within : (i j : Interval) (r s most width : ℤ) → HasReading clock i r → HasReading clock j s → (r -ℤ s) ≤ℤ (clock.counts *ℤ most) → IsNoWider width i → IsNoWider width j → pos 0 ≤ℤ most
      → (((i.high -ℤ j.low) -ℤ (pos 2 *ℤ width)) *ℤ pos nominal) ≤ℤ (fast_million drift *ℤ most)
  ends_within i j r s most width here there apart one other from =
      quickly most ((i.high -ℤ j.low) -ℤ (pos 2 *ℤ width)) from
      (chain r s (clock.ticks *ℤ i.low) (clock.ticks *ℤ j.high) (clock.ticks *ℤ (i.low -ℤ j.high)) (clock.ticks *ℤ ((i.high -ℤ j.low) -ℤ (pos 2 *ℤ width))) (clock.counts *ℤ most) here.low there.high
      (mulz-subz i.low j.high clock.ticks)
      (mulz-lez_left ((i.high -ℤ j.low) -ℤ (pos 2 *ℤ width)) (i.low -ℤ j.high) clock.ticks (ends i.low i.high j.low j.high width one other) ticks_from) apart)
    where
      ends : (il ih jl jh w : ℤ) → (ih -ℤ il) ≤ℤ w → (jh -ℤ jl) ≤ℤ w → ((ih -ℤ jl) -ℤ (pos 2 *ℤ w)) ≤ℤ (il -ℤ jh)
      ends il ih jl jh w h k = omega (arith, ints)

      chain : (r s ql qh d e m : ℤ) → ql ≤ℤ r → s ≤ℤ qh → d ≡ ql -ℤ qh → e ≤ℤ d → (r -ℤ s) ≤ℤ m → e ≤ℤ m
      chain r s ql qh d e m b c g f k = omega (arith, ints)

  module _ (i j : Interval) (r s x width : ℤ) (here : HasReading clock i r) (there : HasReading clock j s) (apart : r -ℤ s ≡ clock.counts *ℤ x) (one : IsNoWider width i) (other : IsNoWider width j) where
    pub near_ends : pos 0 ≤ℤ x → (slow_million drift *ℤ x) ≤ℤ (((i.low -ℤ j.high) +ℤ (pos 2 *ℤ width)) *ℤ pos nominal)
    near_ends from = ends_apart i j r s x width here there (same (clock.counts *ℤ x) (r -ℤ s) apart) one other from
      where
        same : (a b : ℤ) → b ≡ a → a ≤ℤ b
        same a b h = omega (arith, ints)

    -- and those away from each other by no more than both widths more
    pub far_ends : (most : ℤ) → pos 0 ≤ℤ most → x ≤ℤ most → (((i.high -ℤ j.low) -ℤ (pos 2 *ℤ width)) *ℤ pos nominal) ≤ℤ (fast_million drift *ℤ most)
    far_ends most from le =
        ends_within i j r s most width here there (same (r -ℤ s) (clock.counts *ℤ x) (clock.counts *ℤ most) apart (mulz-lez_left x most clock.counts le (no_less clock.counts is.counts_from))) one other from
      where
        same : (a b c : ℤ) → a ≡ b → b ≤ℤ c → a ≤ℤ c
        same a b c h k = omega (arith, ints)

-- ---- spreads

module _ {X : Type 0} (c : X → Interval) where
  abbrev Ordered : X → Type 0
  Ordered a = (c a).low ≤ℤ (c a).high

  abbrev Reached : ℤ → X → X → Type 0
  Reached bound a b = ((c a).low -ℤ (c b).high) ≤ℤ bound

  one_reached : (a : X) (xs : List X) → All (λ b. Reached (least_from (c a) (map c xs)) a b × Reached (least_from (c a) (map c xs)) b a) xs
  unfolding least_from
  one_reached a [] = All-nil (λ b. Reached (pos 0) a b × Reached (pos 0) b a)
  one_reached a (b ∷ xs) =
      let near = (c a).low -ℤ (c b).high in
      let far = (c b).low -ℤ (c a).high in
      let distance = least_distance (c a) (c b) in
      let rest = least_from (c a) (map c xs) in
      let most = int_max distance rest in
      let Both : ℤ → X → Type 0 = λ bound x. Reached bound a x × Reached bound x a in
      All-cons (Both most) b xs
      (trans near distance most (max_left near far) (max_left distance rest), trans far distance most (max_right near far) (max_left distance rest))
      (All-weaker (Both rest) (Both most)
      (λ x both. (trans ((c a).low -ℤ (c x).high) rest most both.0 (max_right distance rest), trans ((c x).low -ℤ (c a).high) rest most both.1 (max_right distance rest))) xs (one_reached a xs))

  from_above : (a : X) (xs : List X) → pos 0 ≤ℤ least_from (c a) (map c xs)
  unfolding least_from
  from_above a [] = le_itself (pos 0)
  from_above a (b ∷ xs) =
      trans (pos 0) (least_from (c a) (map c xs)) (int_max (least_distance (c a) (c b)) (least_from (c a) (map c xs))) (from_above a xs) (max_right (least_distance (c a) (c b)) (least_from (c a) (map c xs)))

  pub pairs_reached : (xs : List X) → All (λ a. (c a).low ≤ℤ (c a).high) xs → All (λ a. All (λ b. ((c a).low -ℤ (c b).high) ≤ℤ least_spread (map c xs)) xs) xs
  unfolding least_spread
  pairs_reached [] all = All-nil (λ a. All (λ b. Reached (pos 0) a b) [])
  pairs_reached (n ∷ xs) all =
      let from = least_from (c n) (map c xs) in
      let rest = least_spread (map c xs) in
      let most = int_max from rest in
      let one = one_reached n xs in
      let others = pairs_reached xs (All-tail Ordered n xs all) in
      let Near : X → Type 0 = λ a. All (λ b. Reached most a b) (n ∷ xs) in
      let more : (y : ℤ) → y ≤ℤ from → y ≤ℤ most = λ y le. trans y from most le (max_left from rest) in
      All-cons Near n xs
      (All-cons (λ b. Reached most n b) n xs (itself (c n).low (c n).high most (All-head Ordered n xs all) (trans (pos 0) from most (from_above n xs) (max_left from rest)))
      (All-weaker (λ b. Reached from n b × Reached from b n) (λ b. Reached most n b) (λ b both. more ((c n).low -ℤ (c b).high) both.0) xs one))
      (All-weaker (Contains xs) Near
      (λ a here.
      All-cons (λ b. Reached most a b) n xs
      (more ((c a).low -ℤ (c n).high) (All-contains (λ b. Reached from n b × Reached from b n) xs a one here).1)
      (All-weaker (λ b. Reached rest a b) (λ b. Reached most a b) (λ b near. trans ((c a).low -ℤ (c b).high) rest most near (max_right from rest)) xs
      (All-contains (λ a. All (λ b. Reached rest a b) xs) xs a others here)))
      xs (All-contains_itself xs))
    where
      itself : (l h m : ℤ) → l ≤ℤ h → pos 0 ≤ℤ m → (l -ℤ h) ≤ℤ m
      itself l h m a b = omega (arith, ints)

  pub pair_reached : (xs : List X) (a b : X) → All (λ a. (c a).low ≤ℤ (c a).high) xs → Contains xs a → Contains xs b → ((c a).low -ℤ (c b).high) ≤ℤ least_spread (map c xs)
  pair_reached xs a b all here there =
      All-contains (λ b. Reached (least_spread (map c xs)) a b) xs b (All-contains (λ a. All (λ b. Reached (least_spread (map c xs)) a b) xs) xs a (pairs_reached xs all) here) there

  -- what any two of the greatest distances have, and 0, the greatest spread has
  module _ (P : ℤ → Type 0) (none : P (pos 0)) where
    abbrev Apart : X → X → Type 0
    Apart a b = P ((c a).high -ℤ (c b).low)

    one_most : (a : X) (xs : List X) → All (λ b. Apart a b × Apart b a) xs → P (most_from (c a) (map c xs))
    unfolding most_from
    one_most a [] all = none
    one_most a (b ∷ xs) all =
        let Both : X → Type 0 = λ b. Apart a b × Apart b a in
        let both = All-head Both b xs all in
        on_max P (most_distance (c a) (c b)) (most_from (c a) (map c xs)) (on_max P ((c a).high -ℤ (c b).low) ((c b).high -ℤ (c a).low) both.0 both.1) (one_most a xs (All-tail Both b xs all))

    most_listed : (xs : List X) → All (λ a. All (Apart a) xs) xs → P (most_spread (map c xs))
    unfolding most_spread
    most_listed [] all = none
    most_listed (n ∷ xs) all =
        let Near : X → Type 0 = λ a. All (Apart a) (n ∷ xs) in
        let first = All-head Near n xs all in
        let others = All-tail Near n xs all in
        on_max P (most_from (c n) (map c xs)) (most_spread (map c xs))
        (one_most n xs
        (All-weaker (Contains xs) (λ b. Apart n b × Apart b n)
        (λ b here. (All-contains (Apart n) xs b (All-tail (Apart n) n xs first) here, All-head (Apart b) n xs (All-contains Near xs b others here))) xs (All-contains_itself xs)))
        (most_listed xs (All-weaker Near (λ a. All (Apart a) xs) (λ a near. All-tail (Apart a) n xs near) xs others))

    pub pairs_most : (xs : List X) → ((a b : X) → Contains xs a → Contains xs b → P ((c a).high -ℤ (c b).low)) → P (most_spread (map c xs))
    pairs_most xs each =
        most_listed xs
        (All-weaker (Contains xs) (λ a. All (Apart a) xs) (λ a here. All-weaker (Contains xs) (Apart a) (λ b there. each a b here there) xs (All-contains_itself xs)) xs (All-contains_itself xs))
