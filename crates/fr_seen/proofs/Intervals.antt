-- What lies in intervals of readings.
use Rattle.std.proofs.Common.{◌≡◌, ℤ, pos, Bool, true, false, ap, ◌∙◌, arith}
use Rattle.std.specs.Prelude.{◌+ℤ◌, ◌-ℤ◌, ◌*ℤ◌, ◌≤ℤ◌, ◌<ℤ◌, neg_ℤ, int_lt, if◌then◌else◌}
use Rattle.std.specs.Int.{int_max, int_min}
use Rattle.std.proofs.lemmas.Int.{ints}
use Rattle.fr_midpoint.proofs.Products.{lez_of_mulz-lez, mulz-addz, mulz-lez_left, mulz-subz, mulz_comm}
use Rattle.fr_course.specs.Readings.{least_reading, most_reading}
use Rattle.fr_course.specs.Course.{breadth_of}
use Rattle.fr_seen.specs.Clocks.{IntervalsAreThere, IntervalsMeet, SpansPlace, StampsPlace}
use Rattle.fr_seen.proofs.Readings.{least_reading_lem, most_reading_lem}

-- what both of two numbers have, the greater and the less one have
pub on_max : (P : ℤ → Type 0) (a b : ℤ) → P a → P b → P (int_max a b)
on_max P a b one other = by (int_lt b a)
  where
    by : (first : Bool) → P (if first then a else b)
    by true = one
    by false = other

pub on_min : (P : ℤ → Type 0) (a b : ℤ) → P a → P b → P (int_min a b)
on_min P a b one other = by (int_lt b a)
  where
    by : (second : Bool) → P (if second then b else a)
    by true = other
    by false = one

pub intervals_meet : IntervalsMeet
intervals_meet clock one other reading in_one in_other =
    record {
      low = on_max (λ x. (clock.ticks *ℤ x) ≤ℤ reading) one.low other.low in_one.low in_other.low;
      high = on_min (λ x. reading ≤ℤ (clock.ticks *ℤ x)) one.high other.high in_one.high in_other.high;
    }

-- so many ticks or more of the one are no more than those of the other
pub in_order : (ticks low high reading : ℤ) → pos 0 <ℤ ticks → (ticks *ℤ low) ≤ℤ reading → reading ≤ℤ (ticks *ℤ high) → low ≤ℤ high
in_order ticks low high reading some from to =
    lez_of_mulz-lez low high ticks some
    (chain (low *ℤ ticks) (ticks *ℤ low) (ticks *ℤ high) (high *ℤ ticks) reading (mulz_comm low ticks) from to (mulz_comm high ticks))
  where
    chain : (a b c d r : ℤ) → a ≡ b → b ≤ℤ r → r ≤ℤ c → d ≡ c → a ≤ℤ d
    chain a b c d r h k l m = omega (arith, ints)

pub intervals_are_there : IntervalsAreThere
intervals_are_there clock interval reading some lies =
    ordered interval.low interval.high (in_order clock.ticks interval.low interval.high reading some lies.low lies.high)
  where
    ordered : (low high : ℤ) → low ≤ℤ high → int_lt high low ≡ false
    ordered low high le = grind (arith, ints)

-- ---- stamps

pub stamps_place : StampsPlace
stamps_place observer delays clock sent delay stamp is on =
    let p = clock.counts in
    let q = clock.ticks in
    let z = pos observer.unit *ℤ stamp in
    let b = breadth_of observer in
    let longest = most_reading observer.drift (pos delays.most) in
    let shortest = least_reading observer.drift (pos delays.least) in
    let p_from : pos 0 ≤ℤ p = no_less p is.counts_from in
    let long : (p *ℤ delay) ≤ℤ (p *ℤ pos delays.most) = mulz-lez_left delay (pos delays.most) p on.within.high p_from in
    let short : (p *ℤ pos delays.least) ≤ℤ (p *ℤ delay) = mulz-lez_left (pos delays.least) delay p on.within.low p_from in
    let arrives : p *ℤ (sent +ℤ delay) ≡ (p *ℤ sent) +ℤ (p *ℤ delay) = mulz-addz sent delay p in
    record {
      low =
          from (q *ℤ z) (q *ℤ longest) (q *ℤ (z -ℤ longest)) (p *ℤ sent) (p *ℤ delay) (p *ℤ (sent +ℤ delay)) (p *ℤ pos delays.most) clock.zero
          (mulz-subz z longest q) arrives on.from long (most_reading_lem observer.drift clock (pos delays.most) is);
      high =
          to (q *ℤ (z +ℤ b)) (q *ℤ shortest) (q *ℤ ((z +ℤ b) -ℤ shortest)) (p *ℤ sent) (p *ℤ delay) (p *ℤ (sent +ℤ delay)) (p *ℤ pos delays.least) clock.zero
          (mulz-subz (z +ℤ b) shortest q) arrives on.to short (least_reading_lem observer.drift clock (pos delays.least) is);
    }
  where
    no_less : (a : ℤ) → pos 0 <ℤ a → pos 0 ≤ℤ a
    no_less a h = omega (arith, ints)

    from : (qz ql qd ps pd pa pm s : ℤ) → qd ≡ qz -ℤ ql → pa ≡ ps +ℤ pd → qz ≤ℤ (pa +ℤ s) → pd ≤ℤ pm → pm ≤ℤ ql → qd ≤ℤ (ps +ℤ s)
    from qz ql qd ps pd pa pm s a b c d e = omega (arith, ints)

    to : (qz ql qd ps pd pa pm s : ℤ) → qd ≡ qz -ℤ ql → pa ≡ ps +ℤ pd → (pa +ℤ s) ≤ℤ qz → pm ≤ℤ pd → ql ≤ℤ pm → (ps +ℤ s) ≤ℤ qd
    to qz ql qd ps pd pa pm s a b c d e = omega (arith, ints)

pub spans_place : SpansPlace
spans_place observer delays clock sent delay stamp later_sent later_delay later is on later_on near =
    let p = clock.counts in
    let q = clock.ticks in
    let r = pos observer.unit in
    let b = breadth_of observer in
    let jitter = pos delays.jitter in
    let wide = most_reading observer.drift jitter in
    let p_from : pos 0 ≤ℤ p = no_less p is.counts_from in
    let more : (p *ℤ (later_delay -ℤ delay)) ≤ℤ (p *ℤ jitter) = mulz-lez_left (later_delay -ℤ delay) jitter p near.high p_from in
    let fewer : (p *ℤ (delay -ℤ later_delay)) ≤ℤ (p *ℤ jitter) = mulz-lez_left (delay -ℤ later_delay) jitter p (turned later_delay delay jitter near.low) p_from in
    let most : (p *ℤ jitter) ≤ℤ (q *ℤ wide) = most_reading_lem observer.drift clock jitter is in
    let sums =
    both (p *ℤ sent) (p *ℤ delay) (p *ℤ later_sent) (p *ℤ later_delay) (p *ℤ (sent +ℤ delay)) (p *ℤ (later_sent +ℤ later_delay)) (p *ℤ (later_sent -ℤ sent))
    (p *ℤ (later_delay -ℤ delay)) (p *ℤ (delay -ℤ later_delay)) (p *ℤ jitter) (q *ℤ wide) clock.zero
    (q *ℤ (r *ℤ stamp)) (q *ℤ (r *ℤ later)) (q *ℤ b) (q *ℤ ((r *ℤ stamp) +ℤ b)) (q *ℤ ((r *ℤ later) +ℤ b))
    (mulz-addz sent delay p) (mulz-addz later_sent later_delay p) (mulz-subz later_sent sent p) (mulz-subz later_delay delay p) (mulz-subz delay later_delay p)
    (mulz-addz (r *ℤ stamp) b q) (mulz-addz (r *ℤ later) b q) on.from on.to later_on.from later_on.to more fewer most in
    let units : q *ℤ (r *ℤ (later -ℤ stamp)) ≡ (q *ℤ (r *ℤ later)) -ℤ (q *ℤ (r *ℤ stamp)) =
    ap (λ x. q *ℤ x) (mulz-subz later stamp r) ∙ mulz-subz (r *ℤ later) (r *ℤ stamp) q in
    let off : q *ℤ (b +ℤ wide) ≡ (q *ℤ b) +ℤ (q *ℤ wide) = mulz-addz b wide q in
    record {
      low = low (q *ℤ ((r *ℤ (later -ℤ stamp)) -ℤ (b +ℤ wide))) (q *ℤ (r *ℤ (later -ℤ stamp))) (q *ℤ (b +ℤ wide)) (q *ℤ (r *ℤ later)) (q *ℤ (r *ℤ stamp)) (q *ℤ b) (q *ℤ wide) (p *ℤ (later_sent -ℤ sent))
          (mulz-subz (r *ℤ (later -ℤ stamp)) (b +ℤ wide) q) units off sums.0;
      high = high (q *ℤ ((r *ℤ (later -ℤ stamp)) +ℤ (b +ℤ wide))) (q *ℤ (r *ℤ (later -ℤ stamp))) (q *ℤ (b +ℤ wide)) (q *ℤ (r *ℤ later)) (q *ℤ (r *ℤ stamp)) (q *ℤ b) (q *ℤ wide) (p *ℤ (later_sent -ℤ sent))
          (mulz-addz (r *ℤ (later -ℤ stamp)) (b +ℤ wide) q) units off sums.1;
    }
  where
    no_less : (a : ℤ) → pos 0 <ℤ a → pos 0 ≤ℤ a
    no_less a h = omega (arith, ints)

    turned : (a b j : ℤ) → neg_ℤ j ≤ℤ (a -ℤ b) → (b -ℤ a) ≤ℤ j
    turned a b j h = omega (arith, ints)

    both :
        (ps pd pl pe pa pb px pm pf pj w s z z' qb zb zb' : ℤ)
        → pa ≡ ps +ℤ pd → pb ≡ pl +ℤ pe → px ≡ pl -ℤ ps → pm ≡ pe -ℤ pd → pf ≡ pd -ℤ pe → zb ≡ z +ℤ qb → zb' ≡ z' +ℤ qb
        → z ≤ℤ (pa +ℤ s) → (pa +ℤ s) ≤ℤ zb → z' ≤ℤ (pb +ℤ s) → (pb +ℤ s) ≤ℤ zb' → pm ≤ℤ pj → pf ≤ℤ pj → pj ≤ℤ w
        → (((z' -ℤ z) -ℤ (qb +ℤ w)) ≤ℤ px) × (px ≤ℤ ((z' -ℤ z) +ℤ (qb +ℤ w)))
    both ps pd pl pe pa pb px pm pf pj w s z z' qb zb zb' a b c d e f g h i j k l m n = (omega (arith, ints), omega (arith, ints))

    low : (t u o z' z b w x : ℤ) → t ≡ u -ℤ o → u ≡ z' -ℤ z → o ≡ b +ℤ w → ((z' -ℤ z) -ℤ (b +ℤ w)) ≤ℤ x → t ≤ℤ x
    low t u o z' z b w x a c d h = omega (arith, ints)

    high : (t u o z' z b w x : ℤ) → t ≡ u +ℤ o → u ≡ z' -ℤ z → o ≡ b +ℤ w → x ≤ℤ ((z' -ℤ z) +ℤ (b +ℤ w)) → x ≤ℤ t
    high t u o z' z b w x a c d h = omega (arith, ints)
