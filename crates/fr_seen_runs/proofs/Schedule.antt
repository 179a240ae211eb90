-- How far off the schedule a frame comes, in whole numbers.
use Rattle.std.proofs.Common.{◌≡◌, ◌⊎◌, ℤ, pos, true, ap, sym, ◌∙◌, inl, inr, arith}
use Rattle.std.specs.Prelude.{◌+ℤ◌, ◌-ℤ◌, ◌*ℤ◌, ◌≤ℤ◌, ◌<ℤ◌, neg_ℤ}
use Rattle.std.proofs.lemmas.Int.{ints, by_lt_z}
use Rattle.fr_base.specs.Within.{lies_within, IsWithin}
use Rattle.fr_midpoint.proofs.Products.{addz-mulz, lez_of_mulz-lez, mulz-addz, mulz-lez, mulz-lez_left, mulz-negz, mulz-subz, mulz_assoc, mulz_comm, mulz_from, negz-mulz, subz-mulz}
use Rattle.fr_time.specs.Position.{floor_of}
use Rattle.fr_course.proofs.Floors.{floor_above, floor_below}

pub no_less : (a : ℤ) → pos 0 <ℤ a → pos 0 ≤ℤ a
no_less a h = omega (arith, ints)

-- a product of three in another order
pub turn : (a b c : ℤ) → (a *ℤ b) *ℤ c ≡ (a *ℤ c) *ℤ b
turn a b c = mulz_assoc a b c ∙ ap (λ x. a *ℤ x) (mulz_comm b c) ∙ sym (mulz_assoc a c b)

swapped : (a b c : ℤ) → a *ℤ (b *ℤ c) ≡ b *ℤ (a *ℤ c)
swapped a b c = sym (mulz_assoc a b c) ∙ ap (λ x. x *ℤ c) (mulz_comm a b) ∙ mulz_assoc b a c

-- a cycle of so many ticks with so many macroticks; how far off the schedule a double cycle is at most, and what else adds to
-- that; with 16 double cycles it is no more than half a cycle
pub record AreSure (w g e r : ℤ) : Type 0 where
  pub cycle_some : pos 0 <ℤ w
  pub macros_some : pos 0 <ℤ g
  pub double_from : pos 0 ≤ℤ e
  pub rest_from : pos 0 ≤ℤ r
  pub sure : (pos 2 *ℤ ((pos 16 *ℤ e) +ℤ r)) ≤ℤ w

-- what lies so many cycles and macroticks behind another point, as often as a cycle has macroticks
abbrev pub ahead : ℤ → ℤ → ℤ → ℤ → ℤ
ahead w g c m = ((c *ℤ g) +ℤ m) *ℤ w

-- what comes no later than 31 cycles behind another point is no more than 16 double cycles behind it
few_doubles : (w g e r q c m d : ℤ) → AreSure w g e r → neg_ℤ g <ℤ m → ((pos 2 *ℤ q) -ℤ pos 1) ≤ℤ c → ahead w g c m ≤ℤ ((g *ℤ d) +ℤ (g *ℤ ((q *ℤ e) +ℤ r)))
    → d ≤ℤ (pos 31 *ℤ w) → q ≤ℤ pos 16
few_doubles w g e r q c m d s from behind near late =
    by_lt_z (pos 16) q
    (λ more.
    let j = q -ℤ pos 16 in
    let n = (pos 30 +ℤ j) +ℤ j in
    let cycles : ((n +ℤ pos 1) *ℤ g) ≤ℤ (c *ℤ g) = mulz-lez (n +ℤ pos 1) c g (fewer q c behind) (no_less g s.macros_some) in
    let over : (n *ℤ g) ≤ℤ ((c *ℤ g) +ℤ m) = back (n *ℤ g) (pos 1 *ℤ g) g ((n +ℤ pos 1) *ℤ g) (c *ℤ g) m (addz-mulz n (pos 1) g) (once g) cycles from in
    let whole : ((n *ℤ g) *ℤ w) ≤ℤ ahead w g c m = mulz-lez (n *ℤ g) ((c *ℤ g) +ℤ m) w over (no_less w s.cycle_some) in
    let sum : (d +ℤ ((q *ℤ e) +ℤ r)) *ℤ g ≡ (g *ℤ d) +ℤ (g *ℤ ((q *ℤ e) +ℤ r)) = mulz_comm (d +ℤ ((q *ℤ e) +ℤ r)) g ∙ mulz-addz d ((q *ℤ e) +ℤ r) g in
    let reached : (n *ℤ w) ≤ℤ (d +ℤ ((q *ℤ e) +ℤ r)) =
    lez_of_mulz-lez (n *ℤ w) (d +ℤ ((q *ℤ e) +ℤ r)) g s.macros_some
    (chain ((n *ℤ w) *ℤ g) ((n *ℤ g) *ℤ w) (ahead w g c m) ((g *ℤ d) +ℤ (g *ℤ ((q *ℤ e) +ℤ r))) ((d +ℤ ((q *ℤ e) +ℤ r)) *ℤ g) (turn n w g) whole near sum) in
    let part : (j *ℤ (pos 32 *ℤ e)) ≤ℤ (j *ℤ w) = mulz-lez_left (pos 32 *ℤ e) w j (half w e r s.rest_from s.sure) (above q more) in
    let once_more : (pos 1 *ℤ w) ≤ℤ (j *ℤ w) = mulz-lez (pos 1) j w (above_one q more) (no_less w s.cycle_some) in
    absurd
    (
    contrary w e r d (n *ℤ w) (q *ℤ e) (j *ℤ w) (j *ℤ e) ((pos 30 +ℤ j) *ℤ w) (pos 30 *ℤ w) (pos 16 *ℤ e) (pos 1 *ℤ w) (j *ℤ (pos 32 *ℤ e)) s.cycle_some s.sure reached
    (addz-mulz (pos 30 +ℤ j) j w) (addz-mulz (pos 30) j w) (subz-mulz q (pos 16) e) (swapped j (pos 32) e) part once_more late
    ))
    (λ other. other)
  where
    fewer : (q c : ℤ) → ((pos 2 *ℤ q) -ℤ pos 1) ≤ℤ c → (((pos 30 +ℤ (q -ℤ pos 16)) +ℤ (q -ℤ pos 16)) +ℤ pos 1) ≤ℤ c
    fewer q c h = omega (arith, ints)

    once : (g : ℤ) → pos 1 *ℤ g ≡ g
    once g = omega (arith, ints)

    back : (ng og g sum cg m : ℤ) → sum ≡ ng +ℤ og → og ≡ g → sum ≤ℤ cg → neg_ℤ g <ℤ m → ng ≤ℤ (cg +ℤ m)
    back ng og g sum cg m a b h k = omega (arith, ints)

    chain : (a b c d e : ℤ) → a ≡ b → b ≤ℤ c → c ≤ℤ d → e ≡ d → a ≤ℤ e
    chain a b c d e h k l i = omega (arith, ints)

    half : (w e r : ℤ) → pos 0 ≤ℤ r → (pos 2 *ℤ ((pos 16 *ℤ e) +ℤ r)) ≤ℤ w → (pos 32 *ℤ e) ≤ℤ w
    half w e r h k = omega (arith, ints)

    above : (q : ℤ) → pos 16 <ℤ q → pos 0 ≤ℤ (q -ℤ pos 16)
    above q h = omega (arith, ints)

    above_one : (q : ℤ) → pos 16 <ℤ q → pos 1 ≤ℤ (q -ℤ pos 16)
    above_one q h = omega (arith, ints)

    contrary :
        (w e r d nw qe jw je one thirty sixteen ow part : ℤ) → pos 0 <ℤ w → (pos 2 *ℤ ((pos 16 *ℤ e) +ℤ r)) ≤ℤ w → nw ≤ℤ (d +ℤ (qe +ℤ r)) → nw ≡ one +ℤ jw
        → one ≡ (pos 30 *ℤ w) +ℤ jw → je ≡ qe -ℤ (pos 16 *ℤ e) → part ≡ pos 32 *ℤ je → part ≤ℤ jw → (pos 1 *ℤ w) ≤ℤ jw → d ≤ℤ (pos 31 *ℤ w) → ⊥
    contrary w e r d nw qe jw je one thirty sixteen ow part a b c f h i k l m n = omega (arith, ints)

-- ---- what an observer reads

-- a clock of a drift of so many parts per million counts so much in a span, to so much
pub record ReadsSpan (drift breadth span apart : ℤ) : Type 0 where
  pub low : (((pos 1_000_000 -ℤ drift) *ℤ span) -ℤ (pos 1_000_000 *ℤ breadth)) ≤ℤ (pos 1_000_000 *ℤ apart)
  pub high : (pos 1_000_000 *ℤ apart) ≤ℤ (((pos 1_000_000 +ℤ drift) *ℤ span) +ℤ (pos 1_000_000 *ℤ breadth))

-- the drift is a small one, and in a cycle it is so many ticks; the breadth is at most half of a cycle
pub record IsFineReading (w drift v breadth : ℤ) : Type 0 where
  pub cycle_some : pos 0 <ℤ w
  pub drift_from : pos 0 ≤ℤ drift
  pub drift_to : drift ≤ℤ pos 1000
  pub drifts : drift *ℤ w ≡ pos 1_000_000 *ℤ v
  pub breadth_to : (pos 2 *ℤ breadth) ≤ℤ w

-- the span is no longer than 31 cycles, and is read so much off at most
pub record IsSpanRead (w v breadth span apart : ℤ) : Type 0 where
  pub late : span ≤ℤ (pos 31 *ℤ w)
  pub near : IsWithin ((pos 31 *ℤ v) +ℤ breadth) (apart -ℤ span)

pub read_near : (w drift v breadth span apart : ℤ) → IsFineReading w drift v breadth → pos 0 ≤ℤ span → apart ≤ℤ (pos 30 *ℤ w) → ReadsSpan drift breadth span apart
    → IsSpanRead w v breadth span apart
read_near w drift v breadth span apart f from silent reads =
    let k = pos 1_000_000 in
    let whole = pos 31 *ℤ w in
    let less : (drift *ℤ w) ≤ℤ (pos 1000 *ℤ w) = mulz-lez drift (pos 1000) w f.drift_to (no_less w f.cycle_some) in
    let long : (span *ℤ (k -ℤ drift)) ≤ℤ (whole *ℤ (k -ℤ drift)) =
    far w breadth apart ((k -ℤ drift) *ℤ span) (drift *ℤ w) (k *ℤ whole) (drift *ℤ whole) ((k -ℤ drift) *ℤ whole) (span *ℤ (k -ℤ drift)) (whole *ℤ (k -ℤ drift)) f.cycle_some f.breadth_to silent
    less reads.low (subz-mulz k drift whole) (swapped drift (pos 31) w) (mulz_comm span (k -ℤ drift)) (mulz_comm whole (k -ℤ drift)) in
    let late : span ≤ℤ whole = lez_of_mulz-lez span whole (k -ℤ drift) (slow drift f.drift_to) long in
    let drifted : (drift *ℤ span) ≤ℤ (drift *ℤ whole) = mulz-lez_left span whole drift late f.drift_from in
    let some : pos 0 ≤ℤ (drift *ℤ span) = mulz_from drift span f.drift_from from in
    record {
      late = late;
      near =
          record {
            low = below w v breadth span apart (drift *ℤ span) (drift *ℤ w) (drift *ℤ whole) ((k -ℤ drift) *ℤ span) (k *ℤ span) drifted f.drifts (swapped drift (pos 31) w) (subz-mulz k drift span) reads.low;
            high = above w v breadth span apart (drift *ℤ span) (drift *ℤ w) (drift *ℤ whole) ((k +ℤ drift) *ℤ span) (k *ℤ span) drifted f.drifts (swapped drift (pos 31) w) (addz-mulz k drift span) reads.high;
          };
    }
  where
    slow : (drift : ℤ) → drift ≤ℤ pos 1000 → pos 0 <ℤ (pos 1_000_000 -ℤ drift)
    slow drift h = omega (arith, ints)

    far :
        (w b y slow dw kx dx slowest span whole : ℤ) → pos 0 <ℤ w → (pos 2 *ℤ b) ≤ℤ w → y ≤ℤ (pos 30 *ℤ w) → dw ≤ℤ (pos 1000 *ℤ w) → (slow -ℤ (pos 1_000_000 *ℤ b)) ≤ℤ (pos 1_000_000 *ℤ y)
        → slowest ≡ (pos 1_000_000 *ℤ (pos 31 *ℤ w)) -ℤ dx → dx ≡ pos 31 *ℤ dw → span ≡ slow → whole ≡ slowest → span ≤ℤ whole
    far w b y slow dw kx dx slowest span whole a c e h l i j m n = omega (arith, ints)

    below :
        (w v b d y ds dw dx slow ks : ℤ) → ds ≤ℤ dx → dw ≡ pos 1_000_000 *ℤ v → dx ≡ pos 31 *ℤ dw → slow ≡ (pos 1_000_000 *ℤ d) -ℤ ds
        → (slow -ℤ (pos 1_000_000 *ℤ b)) ≤ℤ (pos 1_000_000 *ℤ y) → neg_ℤ ((pos 31 *ℤ v) +ℤ b) ≤ℤ (y -ℤ d)
    below w v b d y ds dw dx slow ks a c e h l = omega (arith, ints)

    above :
        (w v b d y ds dw dx fast ks : ℤ) → ds ≤ℤ dx → dw ≡ pos 1_000_000 *ℤ v → dx ≡ pos 31 *ℤ dw → fast ≡ (pos 1_000_000 *ℤ d) +ℤ ds
        → (pos 1_000_000 *ℤ y) ≤ℤ (fast +ℤ (pos 1_000_000 *ℤ b)) → (y -ℤ d) ≤ℤ ((pos 31 *ℤ v) +ℤ b)
    above w v b d y ds dw dx fast ks a c e h l = omega (arith, ints)

-- ---- in time

near_test : (bound x : ℤ) → IsWithin bound x → lies_within bound x ≡ true
near_test bound x near = by bound x near.low near.high
  where
    by : (b x : ℤ) → neg_ℤ b ≤ℤ x → x ≤ℤ b → lies_within b x ≡ true
    by b x low high = grind (arith, ints)

-- a span that lies near the schedule, and what is read of it
pub record LiesNear (w g e rest s q c m span apart : ℤ) : Type 0 where
  pub from : neg_ℤ g <ℤ m
  pub to : m <ℤ g
  pub near : IsWithin (g *ℤ ((q *ℤ e) +ℤ rest)) ((g *ℤ span) -ℤ ahead w g c m)
  pub some : (((pos 2 *ℤ q) -ℤ pos 1) ≤ℤ c) ⊎ (((pos 2 *ℤ q) -ℤ pos 1) ≤ℤ neg_ℤ c)
  pub span_from : neg_ℤ (pos 31 *ℤ w) ≤ℤ span
  pub span_to : span ≤ℤ (pos 31 *ℤ w)
  pub read : IsWithin s (apart -ℤ span)

module _ (w g e rest s q c m span apart : ℤ) (sure : AreSure w g e (rest +ℤ s)) (s_from : pos 0 ≤ℤ s) (l : LiesNear w g e rest s q c m span apart) where
  g_from : pos 0 ≤ℤ g
  g_from = no_less g sure.macros_some

  wider : (g *ℤ ((q *ℤ e) +ℤ rest)) ≤ℤ (g *ℤ ((q *ℤ e) +ℤ (rest +ℤ s)))
  wider = mulz-lez_left ((q *ℤ e) +ℤ rest) ((q *ℤ e) +ℤ (rest +ℤ s)) g (more (q *ℤ e) rest s s_from) g_from
    where
      more : (a b c : ℤ) → pos 0 ≤ℤ c → (a +ℤ b) ≤ℤ (a +ℤ (b +ℤ c))
      more a b c h = omega (arith, ints)

  few : q ≤ℤ pos 16
  few =
      elim l.some [
        | inl ahead_some ↦
            few_doubles w g e (rest +ℤ s) q c m span sure l.from ahead_some (late (g *ℤ span) (ahead w g c m) (g *ℤ ((q *ℤ e) +ℤ rest)) (g *ℤ ((q *ℤ e) +ℤ (rest +ℤ s))) l.near.low wider) l.span_to
        | inr behind_some ↦
            few_doubles w g e (rest +ℤ s) q (neg_ℤ c) (neg_ℤ m) (neg_ℤ span) sure (turned m g l.to) behind_some
            (
            early (g *ℤ span) (g *ℤ neg_ℤ span) (ahead w g c m) (ahead w g (neg_ℤ c) (neg_ℤ m)) (g *ℤ ((q *ℤ e) +ℤ rest)) (g *ℤ ((q *ℤ e) +ℤ (rest +ℤ s))) l.near.high wider (mulz-negz g span)
            (mirrored w g c m)
            )
            (turned_to span (pos 31 *ℤ w) l.span_from)
      ]
    where
      late : (gd t b c : ℤ) → neg_ℤ b ≤ℤ (gd -ℤ t) → b ≤ℤ c → t ≤ℤ (gd +ℤ c)
      late gd t b c h k = omega (arith, ints)

      early : (gd nd t nt b c : ℤ) → (gd -ℤ t) ≤ℤ b → b ≤ℤ c → nd ≡ neg_ℤ gd → nt ≡ neg_ℤ t → nt ≤ℤ (nd +ℤ c)
      early gd nd t nt b c h k i j = omega (arith, ints)

      turned : (m g : ℤ) → m <ℤ g → neg_ℤ g <ℤ neg_ℤ m
      turned m g h = omega (arith, ints)

      turned_to : (a b : ℤ) → neg_ℤ b ≤ℤ a → neg_ℤ a ≤ℤ b
      turned_to a b h = omega (arith, ints)

      mirrored : (w g c m : ℤ) → ahead w g (neg_ℤ c) (neg_ℤ m) ≡ neg_ℤ (ahead w g c m)
      mirrored w g c m = ap (λ x. x *ℤ w) (sums (neg_ℤ c *ℤ g) (c *ℤ g) m (negz-mulz c g)) ∙ negz-mulz ((c *ℤ g) +ℤ m) w
        where
          sums : (a b m : ℤ) → a ≡ neg_ℤ b → a +ℤ neg_ℤ m ≡ neg_ℤ (b +ℤ m)
          sums a b m h = omega (arith, ints)

  abbrev Off : ℤ
  Off = (pos 16 *ℤ e) +ℤ (rest +ℤ s)

  -- what it is off, as often as a cycle has macroticks
  narrow : (g *ℤ ((q *ℤ e) +ℤ rest)) ≤ℤ (g *ℤ ((pos 16 *ℤ e) +ℤ rest))
  narrow = mulz-lez_left ((q *ℤ e) +ℤ rest) ((pos 16 *ℤ e) +ℤ rest) g (add (q *ℤ e) (pos 16 *ℤ e) rest (mulz-lez q (pos 16) e few sure.double_from)) g_from
    where
      add : (a b c : ℤ) → a ≤ℤ b → (a +ℤ c) ≤ℤ (b +ℤ c)
      add a b c h = omega (arith, ints)

  no_later : ahead w g c m ≤ℤ ((apart +ℤ Off) *ℤ g)
  no_later =
      let sum : (apart +ℤ Off) *ℤ g ≡ (g *ℤ (apart +ℤ s)) +ℤ (g *ℤ ((pos 16 *ℤ e) +ℤ rest)) =
      ap (λ x. x *ℤ g) (parts apart (pos 16 *ℤ e) rest s) ∙ mulz_comm ((apart +ℤ s) +ℤ ((pos 16 *ℤ e) +ℤ rest)) g ∙ mulz-addz (apart +ℤ s) ((pos 16 *ℤ e) +ℤ rest) g in
      let up : (g *ℤ span) ≤ℤ (g *ℤ (apart +ℤ s)) = mulz-lez_left span (apart +ℤ s) g (over apart span s l.read.low) g_from in
      by (ahead w g c m) (g *ℤ span) (g *ℤ ((q *ℤ e) +ℤ rest)) (g *ℤ ((pos 16 *ℤ e) +ℤ rest)) (g *ℤ (apart +ℤ s)) ((apart +ℤ Off) *ℤ g) l.near.low narrow up sum
    where
      parts : (y a b s : ℤ) → y +ℤ (a +ℤ (b +ℤ s)) ≡ (y +ℤ s) +ℤ (a +ℤ b)
      parts y a b s = omega (arith, ints)

      over : (y d s : ℤ) → neg_ℤ s ≤ℤ (y -ℤ d) → d ≤ℤ (y +ℤ s)
      over y d s h = omega (arith, ints)

      by : (t gd a b c sum : ℤ) → neg_ℤ a ≤ℤ (gd -ℤ t) → a ≤ℤ b → gd ≤ℤ c → sum ≡ c +ℤ b → t ≤ℤ sum
      by t gd a b c sum h k i j = omega (arith, ints)

  no_earlier : ((apart -ℤ Off) *ℤ g) ≤ℤ ahead w g c m
  no_earlier =
      let sum : (apart -ℤ Off) *ℤ g ≡ (g *ℤ (apart -ℤ s)) -ℤ (g *ℤ ((pos 16 *ℤ e) +ℤ rest)) =
      ap (λ x. x *ℤ g) (parts apart (pos 16 *ℤ e) rest s) ∙ mulz_comm ((apart -ℤ s) -ℤ ((pos 16 *ℤ e) +ℤ rest)) g ∙ mulz-subz (apart -ℤ s) ((pos 16 *ℤ e) +ℤ rest) g in
      let down : (g *ℤ (apart -ℤ s)) ≤ℤ (g *ℤ span) = mulz-lez_left (apart -ℤ s) span g (under apart span s l.read.high) g_from in
      by (ahead w g c m) (g *ℤ span) (g *ℤ ((q *ℤ e) +ℤ rest)) (g *ℤ ((pos 16 *ℤ e) +ℤ rest)) (g *ℤ (apart -ℤ s)) ((apart -ℤ Off) *ℤ g) l.near.high narrow down sum
    where
      parts : (y a b s : ℤ) → y -ℤ (a +ℤ (b +ℤ s)) ≡ (y -ℤ s) -ℤ (a +ℤ b)
      parts y a b s = omega (arith, ints)

      under : (y d s : ℤ) → (y -ℤ d) ≤ℤ s → (y -ℤ s) ≤ℤ d
      under y d s h = omega (arith, ints)

      by : (t gd a b c sum : ℤ) → (gd -ℤ t) ≤ℤ a → a ≤ℤ b → c ≤ℤ gd → sum ≡ c -ℤ b → sum ≤ℤ t
      by t gd a b c sum h k i j = omega (arith, ints)

  pub comes_in_time : lies_within (floor_of w (pos 2)) (apart -ℤ floor_of (ahead w g c m) g) ≡ true
  comes_in_time =
      let t = ahead w g c m in
      let f = floor_of t g in
      let low : (apart -ℤ Off) ≤ℤ f = floor_above t g (apart -ℤ Off) sure.macros_some no_earlier in
      let high : f ≤ℤ (apart +ℤ Off) =
      lez_of_mulz-lez f (apart +ℤ Off) g sure.macros_some (trans (f *ℤ g) t ((apart +ℤ Off) *ℤ g) (floor_below t g sure.macros_some) no_later) in
      let half : Off ≤ℤ floor_of w (pos 2) = floor_above w (pos 2) Off two (twice Off w sure.sure) in
      near_test (floor_of w (pos 2)) (apart -ℤ f)
      (record { low = below apart f Off (floor_of w (pos 2)) high half; high = above apart f Off (floor_of w (pos 2)) low half })
    where
      trans : (a b c : ℤ) → a ≤ℤ b → b ≤ℤ c → a ≤ℤ c
      trans a b c h k = omega (arith, ints)

      two : pos 0 <ℤ pos 2
      two = omega (arith, ints)

      twice : (o w : ℤ) → (pos 2 *ℤ o) ≤ℤ w → (o *ℤ pos 2) ≤ℤ w
      twice o w h = omega (arith, ints)

      below : (y f o h : ℤ) → f ≤ℤ (y +ℤ o) → o ≤ℤ h → neg_ℤ h ≤ℤ (y -ℤ f)
      below y f o h a b = omega (arith, ints)

      above : (y f o h : ℤ) → (y -ℤ o) ≤ℤ f → o ≤ℤ h → (y -ℤ f) ≤ℤ h
      above y f o h a b = omega (arith, ints)
