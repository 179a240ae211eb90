-- Where all values that a node has of the others may be 0, so may their midpoint, and a term that may be 0 contradicts nothing.
use Rattle.std.proofs.Common.{◌≡◌, ℕ, zero, suc, ◌+◌, ◌-◌, ◌*◌, ◌/◌, ◌≤◌, ◌==◌, Bool, true, false, cond, not, ℤ, pos, negsuc, List, [], ◌∷◌, length, map, Option, Some, None, IfSome, refl, sym, ap, subst, arith}
use Rattle.std.specs.Prelude.{◌+ℤ◌, ◌-ℤ◌, ◌*ℤ◌, ◌≤ℤ◌, ◌<ℤ◌, ◌||◌, neg_ℤ, int_div, int_le, int_lt, nat_lt, find, filter, unwrap_or, if◌then◌else◌}
use Rattle.std.specs.Int.{int_div_euclid}
use Rattle.std.specs.Option.{option_map}
use Rattle.std.proofs.lemmas.Int.{ints, clamps, by_lt_z}
use Rattle.std.proofs.Math.Nat.{mul-le-mul_right}
use Rattle.fr_bound.specs.Bounds.{nominal}
use Rattle.fr_cluster.specs.Values.{Values}
use Rattle.fr_log.specs.View.{LogView}
use Rattle.fr_course.specs.Computed.{deviation_seen, further_by, measuring_of, rate_value_seen}
use Rattle.fr_course.specs.Measures.{Measuring}
use Rattle.fr_course.specs.Course.{between, odd_macrotick, share_from, share_to}
use Rattle.fr_course.specs.declared.courses.Course.{Course}
use Rattle.fr_course.specs.Middles.{greatest_left, greatest_middle, highs_of, hull, least_left, least_middle, lows_of, middle, middle_missing, middle_where, middle_with}
use Rattle.fr_course.specs.Near.{IsMeasuring}
use Rattle.fr_course.specs.Readings.{ceiling_of, fast_million, least_ticks, most_ticks, slow_million}
use Rattle.fr_course.specs.declared.intervals.Interval.{Interval}
use Rattle.fr_course.specs.Scales.{Scale}
use Rattle.fr_course.specs.Terms.{rate_step_seen}
use Rattle.fr_course.proofs.Floors.{ceiling_above, ceiling_below, floor_above, floor_below}
use Rattle.fr_sightings.specs.declared.sender.Sender.{Sender}
use Rattle.fr_observe.specs.Faults.{further_of, offset_fault, other_courses, rate_fault, stated_flutter, unlike_fault, unlike_with}
use Rattle.fr_observe.specs.Observing.{terms_of}
use Rattle.fr_judging.specs.Missing.{unlike_term}
use Rattle.fr_judging.specs.Zeros.{MayMeet, MayBeZero, OthersMayBeZero, seen_for, value_for}
use Rattle.fr_observe.specs.declared.term.Term.{Term}
use Rattle.fr_observe.specs.declared.term.Term.TheVariants as term

-- ---- a rate value

above : (b : Bool) (x y : ℤ) → pos 0 <ℤ x → pos 0 <ℤ y → pos 0 <ℤ (if b then x else y)
above true x y one other = one
above false x y one other = other

ceiling-low : (n d : ℤ) → pos 0 <ℤ d → n ≤ℤ pos 0 → ceiling_of n d ≤ℤ pos 0
ceiling-low n d some le = ceiling_below n d (pos 0) some (with_0 n (pos 0 *ℤ d) le (omega (arith, ints)))
  where
    with_0 : (n m : ℤ) → n ≤ℤ pos 0 → m ≡ pos 0 → n ≤ℤ m
    with_0 n m le is = omega (arith, ints)

floor-high : (n d : ℤ) → pos 0 <ℤ d → pos 0 ≤ℤ n → pos 0 ≤ℤ int_div_euclid n d
floor-high n d some le = floor_above n d (pos 0) some (with_0 n (pos 0 *ℤ d) le (omega (arith, ints)))
  where
    with_0 : (n m : ℤ) → pos 0 ≤ℤ n → m ≡ pos 0 → m ≤ℤ n
    with_0 n m le is = omega (arith, ints)

millions : (drift : ℕ) (reading : ℤ) → drift ≤ 1000 → pos 0 <ℤ (if int_lt reading (pos 0) then slow_million drift else fast_million drift)
millions drift reading few = above (int_lt reading (pos 0)) (slow_million drift) (fast_million drift) (omega (arith, ints, few)) (omega (arith, ints, few))

ticks-low : (drift : ℕ) (reading : ℤ) → drift ≤ 1000 → reading ≤ℤ pos 0 → least_ticks drift reading ≤ℤ pos 0
ticks-low drift reading few le =
    ceiling-low (reading *ℤ pos nominal) (if int_lt reading (pos 0) then slow_million drift else fast_million drift) (millions drift reading few) (down reading le)
  where
    down : (reading : ℤ) → reading ≤ℤ pos 0 → (reading *ℤ pos nominal) ≤ℤ pos 0
    down reading le = omega (arith, ints)

ticks-high : (drift : ℕ) (reading : ℤ) → drift ≤ 1000 → pos 0 ≤ℤ reading → pos 0 ≤ℤ most_ticks drift reading
ticks-high drift reading few le = up (least_ticks drift (neg_ℤ reading)) (ticks-low drift (neg_ℤ reading) few (down reading le))
  where
    up : (least : ℤ) → least ≤ℤ pos 0 → pos 0 ≤ℤ neg_ℤ least
    up least le = omega (arith, ints)

    down : (reading : ℤ) → pos 0 ≤ℤ reading → neg_ℤ reading ≤ℤ pos 0
    down reading le = omega (arith, ints)

-- a value of a sender whose action points may lie as far apart as the receiver's cycle is long
pub rate-zero : (scale : Scale) (m : Measuring) (receiver sender : Course) → scale.drift ≤ 1000 → IsMeasuring m → MayBeZero (between receiver.length sender.apart)
    → MayBeZero (rate_value_seen scale m receiver sender)
rate-zero scale m receiver sender few near may =
    let longer : Interval = between receiver.length sender.apart in
    let least : ℤ = least_ticks scale.drift longer.low -ℤ m.rate_error in
    let most : ℤ = most_ticks scale.drift longer.high +ℤ m.rate_error in
    let shortest : pos 0 <ℤ m.shortest = some m.shortest near.shortest.low in
    let longest : pos 0 <ℤ m.longest = some m.longest near.longest.low in
    record {
      low =
          ceiling-low least (if int_lt least (pos 0) then m.shortest else m.longest) (above (int_lt least (pos 0)) m.shortest m.longest shortest longest)
          (less (least_ticks scale.drift longer.low) m.rate_error (ticks-low scale.drift longer.low few may.low) near.rate_error.low);
      high =
          floor-high most (if int_lt most (pos 0) then m.longest else m.shortest) (above (int_lt most (pos 0)) m.longest m.shortest longest shortest)
          (more (most_ticks scale.drift longer.high) m.rate_error (ticks-high scale.drift longer.high few may.high) near.rate_error.low);
    }
  where
    some : (micro : ℤ) → pos 998_500 ≤ℤ micro → pos 0 <ℤ micro
    some micro le = omega (arith, ints)

    less : (ticks error : ℤ) → ticks ≤ℤ pos 0 → pos 0 ≤ℤ error → (ticks -ℤ error) ≤ℤ pos 0
    less ticks error one other = omega (arith, ints)

    more : (ticks error : ℤ) → pos 0 ≤ℤ ticks → pos 0 ≤ℤ error → pos 0 ≤ℤ (ticks +ℤ error)
    more ticks error one other = omega (arith, ints)

-- ---- a deviation

-- a product with a number above 0 tells the order
lez-by : (a b : ℤ) (k : ℕ) → (a *ℤ pos (suc k)) ≤ℤ (b *ℤ pos (suc k)) → a ≤ℤ b
lez-by (pos m) (pos n) k le =
    by_lt_z (pos n) (pos m)
    (λ less.
    let next : suc n * suc k ≤ m * suc k = mul-le-mul_right (suc k) (omega (arith, ints, less)) in
    absurd (omega (arith, ints, next, le)))
    (λ h. h)
lez-by (negsuc m) (pos n) k le = omega (arith, ints)
lez-by (pos m) (negsuc n) k le = absurd (omega (arith, ints, le))
lez-by (negsuc m) (negsuc n) k le =
    by_lt_z (negsuc n) (negsuc m)
    (λ less.
    let next : suc (suc m) * suc k ≤ suc n * suc k = mul-le-mul_right (suc k) (omega (arith, ints, less)) in
    absurd (omega (arith, ints, next, le)))
    (λ h. h)

lez-of-product : (a b d : ℤ) → pos 0 <ℤ d → (a *ℤ d) ≤ℤ (b *ℤ d) → a ≤ℤ b
lez-of-product a b (pos zero) some le = absurd (omega (arith, ints, some))
lez-of-product a b (pos (suc k)) some le = lez-by a b k le
lez-of-product a b (negsuc k) some le = absurd (omega (arith, ints, some))

floor-low : (n d : ℤ) → pos 0 <ℤ d → n ≤ℤ pos 0 → int_div_euclid n d ≤ℤ pos 0
floor-low n d some le = lez-of-product (int_div_euclid n d) (pos 0) d some (down (int_div_euclid n d *ℤ d) n (pos 0 *ℤ d) (floor_below n d some) le (omega (arith, ints)))
  where
    down : (f n z : ℤ) → f ≤ℤ n → n ≤ℤ pos 0 → z ≡ pos 0 → f ≤ℤ z
    down f n z one other is = omega (arith, ints)

-- a quotient is no more and no less than what a product says
floor-room : (n d room : ℤ) → pos 0 <ℤ d → n ≤ℤ (d *ℤ room) → int_div_euclid n d ≤ℤ room
floor-room n d room some le =
    lez-of-product (int_div_euclid n d) room d some (down (int_div_euclid n d *ℤ d) n (d *ℤ room) (room *ℤ d) (floor_below n d some) le (omega (arith, ints)))
  where
    down : (f n z t : ℤ) → f ≤ℤ n → n ≤ℤ z → z ≡ t → f ≤ℤ t
    down f n z t one other is = omega (arith, ints)

ceiling-room : (n d room : ℤ) → pos 0 <ℤ d → (d *ℤ room) ≤ℤ n → room ≤ℤ ceiling_of n d
ceiling-room n d room some le =
    lez-of-product room (ceiling_of n d) d some (up (room *ℤ d) (d *ℤ room) n (ceiling_of n d *ℤ d) (omega (arith, ints)) le (ceiling_above n d some))
  where
    up : (t z n c : ℤ) → t ≡ z → z ≤ℤ n → n ≤ℤ c → t ≤ℤ c
    up t z n c is one other = omega (arith, ints)

module _ (scale : Scale) (receiver sender : Course) (some : pos 1 ≤ℤ scale.macros) where
  abbrev ahead_by : ℤ
  ahead_by = sender.action -ℤ receiver.action

  abbrev macrotick_in : Interval → Interval
  macrotick_in lengths =
      record {
        low = (receiver.odd.low +ℤ share_from scale ahead_by lengths.low) -ℤ scale.micro_to;
        high = (receiver.odd.high +ℤ share_to scale ahead_by lengths.high) +ℤ scale.micro_to;
      }

  abbrev exchanged : Interval → Interval
  exchanged lengths = record { low = lengths.high; high = lengths.low }

  room-zero : (lengths : Interval) → MayMeet scale receiver.odd sender.odd ahead_by lengths → MayBeZero (between (macrotick_in lengths) sender.odd)
  room-zero lengths room =
      let more : pos 0 <ℤ scale.macros = above_none scale.macros some in
      record {
        low =
            less sender.odd.low receiver.odd.high (share_to scale ahead_by lengths.high) scale.micro_to
            (ceiling-room (ahead_by *ℤ lengths.high) scale.macros ((sender.odd.low -ℤ receiver.odd.high) -ℤ scale.micro_to) more room.behind);
        high =
            rest sender.odd.high receiver.odd.low (share_from scale ahead_by lengths.low) scale.micro_to
            (floor-room (ahead_by *ℤ lengths.low) scale.macros ((sender.odd.high -ℤ receiver.odd.low) +ℤ scale.micro_to) more room.before);
      }
    where
      above_none : (macros : ℤ) → pos 1 ≤ℤ macros → pos 0 <ℤ macros
      above_none macros le = omega (arith, ints)

      less : (s r share micro : ℤ) → ((s -ℤ r) -ℤ micro) ≤ℤ share → (s -ℤ ((r +ℤ share) +ℤ micro)) ≤ℤ pos 0
      less s r share micro le = omega (arith, ints)

      rest : (s r share micro : ℤ) → share ≤ℤ ((s -ℤ r) +ℤ micro) → pos 0 ≤ℤ (s -ℤ ((r +ℤ share) -ℤ micro))
      rest s r share micro le = omega (arith, ints)

  pub ahead-zero : int_le (pos 0) ahead_by ≡ true → MayMeet scale receiver.odd sender.odd ahead_by receiver.length
      → MayBeZero (between (odd_macrotick scale receiver sender.action) sender.odd)
  ahead-zero is room =
      subst (λ (b : Bool). MayBeZero (between (if b then macrotick_in receiver.length else macrotick_in (exchanged receiver.length)) sender.odd)) (sym is)
      (room-zero receiver.length room)

  pub before-zero : int_le (pos 0) ahead_by ≡ false → MayMeet scale receiver.odd sender.odd ahead_by (exchanged receiver.length)
      → MayBeZero (between (odd_macrotick scale receiver sender.action) sender.odd)
  before-zero is room =
      subst (λ (b : Bool). MayBeZero (between (if b then macrotick_in receiver.length else macrotick_in (exchanged receiver.length)) sender.odd)) (sym is)
      (room-zero (exchanged receiver.length) room)

pub deviation-zero : (scale : Scale) (m : Measuring) (receiver sender : Course) → scale.drift ≤ 1000 → IsMeasuring m
    → MayBeZero (between (odd_macrotick scale receiver sender.action) sender.odd) → MayBeZero (deviation_seen scale m receiver sender)
deviation-zero scale m receiver sender few near may =
    let late : Interval = between (odd_macrotick scale receiver sender.action) sender.odd in
    let least : ℤ = least_ticks scale.drift late.low -ℤ m.arrival_error in
    let most : ℤ = most_ticks scale.drift late.high +ℤ m.arrival_error in
    let shortest : pos 0 <ℤ m.shortest = some m.shortest near.shortest.low in
    let longest : pos 0 <ℤ m.longest = some m.longest near.longest.low in
    record {
      low =
          floor-low least (if int_lt least (pos 0) then m.shortest else m.longest) (above (int_lt least (pos 0)) m.shortest m.longest shortest longest)
          (less (least_ticks scale.drift late.low) m.arrival_error (ticks-low scale.drift late.low few may.low) near.arrival_error.low);
      high =
          floor-high most (if int_lt most (pos 0) then m.longest else m.shortest) (above (int_lt most (pos 0)) m.longest m.shortest longest shortest)
          (more (most_ticks scale.drift late.high) m.arrival_error (ticks-high scale.drift late.high few may.high) near.arrival_error.low);
    }
  where
    some : (micro : ℤ) → pos 998_500 ≤ℤ micro → pos 0 <ℤ micro
    some micro le = omega (arith, ints)

    less : (ticks error : ℤ) → ticks ≤ℤ pos 0 → pos 0 ≤ℤ error → (ticks -ℤ error) ≤ℤ pos 0
    less ticks error one other = omega (arith, ints)

    more : (ticks error : ℤ) → pos 0 ≤ℤ ticks → pos 0 ≤ℤ error → pos 0 ≤ℤ (ticks +ℤ error)
    more ticks error one other = omega (arith, ints)

-- ---- the midpoint

abbrev AllMayBeZero : List Interval → Type 0
AllMayBeZero [] = Unit {0}
AllMayBeZero (one ∷ others) = MayBeZero one × AllMayBeZero others

first-low : (b : Bool) (low : ℤ) (rest : Option ℤ) → low ≤ℤ pos 0 → unwrap_or rest (pos 0) ≤ℤ pos 0 → unwrap_or (cond b (Some low) rest) (pos 0) ≤ℤ pos 0
first-low true low rest one others = one
first-low false low rest one others = others

found-low : (test : ℤ → Bool) (known : List Interval) → AllMayBeZero known → unwrap_or (find test (lows_of known)) (pos 0) ≤ℤ pos 0
found-low test [] may = omega (arith, ints)
found-low test (one ∷ others) may = first-low (test one.low) one.low (find test (lows_of others)) may.0.low (found-low test others may.1)

first-high : (b : Bool) (high : ℤ) (rest : Option ℤ) → pos 0 ≤ℤ high → pos 0 ≤ℤ unwrap_or rest (pos 0) → pos 0 ≤ℤ unwrap_or (cond b (Some high) rest) (pos 0)
first-high true high rest one others = one
first-high false high rest one others = others

found-high : (test : ℤ → Bool) (known : List Interval) → AllMayBeZero known → pos 0 ≤ℤ unwrap_or (find test (highs_of known)) (pos 0)
found-high test [] may = omega (arith, ints)
found-high test (one ∷ others) may = first-high (test one.high) one.high (find test (highs_of others)) may.0.high (found-high test others may.1)

half-low : (s : ℤ) → s ≤ℤ pos 0 → int_div s (pos 2) ≤ℤ pos 0
half-low (pos a) le =
    let half : a / 2 ≤ 0 = omega (arith, ints, le) in
    let is : pos (a / 2) ≤ℤ pos 0 = omega (arith, ints, half) in
    is
half-low (negsuc a) le =
    let is : neg_ℤ (pos (suc a / 2)) ≤ℤ pos 0 = omega (arith, ints) in
    is

half-high : (s : ℤ) → pos 0 ≤ℤ s → pos 0 ≤ℤ int_div s (pos 2)
half-high (pos a) le =
    let is : pos 0 ≤ℤ pos (a / 2) = omega (arith, ints) in
    is
half-high (negsuc a) le = absurd (omega (arith, ints, le))

sum-low : (a b : ℤ) → a ≤ℤ pos 0 → b ≤ℤ pos 0 → int_div (a +ℤ b) (pos 2) ≤ℤ pos 0
sum-low a b one other = half-low (a +ℤ b) (omega (arith, ints, one, other))

sum-high : (a b : ℤ) → pos 0 ≤ℤ a → pos 0 ≤ℤ b → pos 0 ≤ℤ int_div (a +ℤ b) (pos 2)
sum-high a b one other = half-high (a +ℤ b) (omega (arith, ints, one, other))

abbrev Holds : Option Interval → Type 0
Holds found = IfSome found MayBeZero

hull-zero : (one other : Option Interval) → Holds one → Holds other → Holds (hull one other)
hull-zero None other first second = tt
hull-zero (Some one) None first second = tt
hull-zero (Some one) (Some other) first second = record { low = omega (arith, ints, clamps, first.low); high = omega (arith, ints, clamps, first.high) }

one-of : (b : Bool) (one other : Option Interval) → Holds one → Holds other → Holds (if b then hull one other else one)
one-of true one other first second = hull-zero one other first second
one-of false one other first second = first

module _ (known : List Interval) (zero_in : AllMayBeZero known) where
  where-zero : (further missed ends : ℕ) → Holds (middle_where further missed ends known)
  where-zero further missed ends = by (nat_lt ends further)
    where
      low : least_middle further missed ends known ≤ℤ pos 0
      low =
          sum-low (least_left (ends - further) (lows_of known)) (greatest_left (ends + missed) (lows_of known))
          (found-low _ known zero_in) (found-low _ known zero_in)

      high : pos 0 ≤ℤ greatest_middle further missed ends known
      high =
          sum-high (least_left (ends + missed) (highs_of known)) (greatest_left (ends - further) (highs_of known))
          (found-high _ known zero_in) (found-high _ known zero_in)

      by : (b : Bool)
          → Holds (if b then None else Some (record { low = least_middle further missed ends known; high = greatest_middle further missed ends known }))
      by true = tt
      by false = record { low = low; high = high }

  missing-zero : (further missed : ℕ) → Holds (middle_missing further missed known)
  unfolding middle_missing
  missing-zero zero missed = where-zero 0 missed _
  missing-zero (suc further) missed =
      hull-zero (middle_missing further missed known) (middle_with (suc further) missed known) (missing-zero further missed)
      (where-zero (suc further) missed _)

  middle-zero : (further lost : ℕ) → Holds (middle further lost known)
  unfolding middle
  middle-zero further zero = missing-zero further 0
  middle-zero further (suc lost) =
      one-of (nat_lt (suc lost) (length known)) (middle further lost known) (middle_missing further (suc lost) known) (middle-zero further lost) (missing-zero further (suc lost))

-- ---- what contradicts a term

others-zero : (what : Term) (scale : Scale) (m : Measuring) (s : Sender) (senders : List Sender) → OthersMayBeZero what scale m s senders
    → AllMayBeZero (map (value_for what scale m s.course) (other_courses senders s.node))
others-zero what scale m s [] may = tt
others-zero what scale m s (other ∷ others) may =
    kept (not (other.node == s.node)) other (filter (λ t. not (t.node == s.node)) others) (value_for what scale m s.course) may.0 (others-zero what scale m s others may.1)
  where
    kept : (b : Bool) (t : Sender) (rest : List Sender) (f : Course → Interval) → (b ≡ true → MayBeZero (f t.course))
        → AllMayBeZero (map f (map (λ (u : Sender). u.course) rest)) → AllMayBeZero (map f (map (λ (u : Sender). u.course) (cond b (t ∷ rest) rest)))
    kept true t rest f may all = (may refl, all)
    kept false t rest f may all = all

own-zero : MayBeZero (record { low = pos 0; high = pos 0 })
own-zero = record { low = omega (arith, ints); high = omega (arith, ints) }

none-apart : (seen computed : Interval) → MayBeZero seen → MayBeZero computed → (int_lt seen.high computed.low || int_lt computed.high seen.low) ≡ false
none-apart seen computed first second = joined (before computed.low seen.high second.low first.high) (before seen.low computed.high first.low second.high)
  where
    before : (low high : ℤ) → low ≤ℤ pos 0 → pos 0 ≤ℤ high → int_lt high low ≡ false
    before low high one other = grind (arith, ints)

    joined : {a b : Bool} → a ≡ false → b ≡ false → (a || b) ≡ false
    joined one other = λ i. one i || other i

unlike-none : (what : Term) (cycle node : ℕ) (seen computed : Option Interval) → Holds seen → Holds computed → unlike_fault what cycle node seen computed ≡ None
unlike-none what cycle node None computed first second = refl
unlike-none what cycle node (Some seen) None first second = refl
unlike-none what cycle node (Some seen) (Some computed) first second =
    ap (λ (b : Bool). if b then Some (unlike_with what cycle node seen computed) else None) (none-apart seen computed first second)

module _ (p : Values) (l : LogView) (scale : Scale) (double lost : ℕ) (senders : List Sender) (s : Sender) where
  abbrev measuring : Measuring
  measuring = measuring_of p (stated_flutter p l)

  pub offset-none : IfSome (terms_of scale s) MayBeZero → OthersMayBeZero term.Offset scale measuring s senders
      → offset_fault p l scale double senders lost s ≡ None
  offset-none seen may =
      unlike-none term.Offset (2 * double + 1) s.node (terms_of scale s) _ seen
      (middle-zero _ (own-zero, others-zero term.Offset scale measuring s senders may) (further_of p senders) lost)

  pub rate-none : IfSome (option_map (rate_step_seen scale s.course) s.next) MayBeZero → OthersMayBeZero term.Rate scale measuring s senders
      → rate_fault p l scale double senders lost s ≡ None
  rate-none seen may =
      let found : Option Interval = middle (further_of p senders) lost (record { low = pos 0; high = pos 0 } ∷ map (rate_value_seen scale measuring s.course) (other_courses senders s.node)) in
      unlike-none term.Rate (2 * double + 1) s.node (option_map (rate_step_seen scale s.course) s.next) (option_map (further_by measuring.damping) found) seen
      (damped found (middle-zero _ (own-zero, others-zero term.Rate scale measuring s senders may) (further_of p senders) lost))
    where
      damped : (found : Option Interval) → Holds found → Holds (option_map (further_by measuring.damping) found)
      damped None may = tt
      damped (Some found) may = record { low = omega (arith, ints, may.low); high = omega (arith, ints, may.high) }

  pub term-none : (what : Term) → IfSome (seen_for what scale s) MayBeZero → OthersMayBeZero what scale measuring s senders
      → unlike_term what p l scale double senders s lost ≡ None
  term-none term.Offset seen may = offset-none seen may
  term-none term.Rate seen may = rate-none seen may
