-- What deviations say of a sender's length.
use Rattle.std.proofs.Common.{◌≡◌, ℕ, ◌+◌, ◌-◌, ◌*◌, ◌≤◌, true, false, ℤ, pos, inl, inr, refl, ap, sym, ◌∙◌, arith}
use Rattle.std.specs.Prelude.{neg_ℤ, ◌+ℤ◌, ◌-ℤ◌, ◌*ℤ◌, ◌≤ℤ◌, ◌<ℤ◌, nat_abs}
use Rattle.std.proofs.lemmas.Bool.{cases_lt}
use Rattle.std.proofs.lemmas.Int.{ints, by_lt_z}
use Rattle.std.proofs.Math.Nat.{mul-add, mul-le-mul_left, mul-le-mul_right, mul_comm}
use Rattle.fr_base.specs.declared.node_row.NodeRow.{NodeRow}
use Rattle.fr_cluster.specs.Values.{Values, amount}
use Rattle.fr_cluster.specs.Sane.{IsSane}
use Rattle.fr_cluster.specs.Constraints.{correction_macros, least_micros}
use Rattle.fr_cluster.specs.declared.names.ParamName.TheVariants as name
use Rattle.fr_base.specs.Within.{IsWithin}
use Rattle.fr_midpoint.specs.Midpoint.{half_of_sum}
use Rattle.fr_midpoint.proofs.Products.{addz-mulz, subz-mulz, mulz-subz, mulz-lez, mulz_from, mulz_within, negz-mulz}
use Rattle.fr_time.specs.Position.{even_position, floor_of, grid_for}
use Rattle.fr_time.specs.Instant.{instant_of}
use Rattle.fr_time.proofs.Floors.{share_le}
use Rattle.fr_time.proofs.Placing.{is_grid_lem}
use Rattle.fr_bound.specs.Bounds.{arrival_error, cycle_change, longest_micro, y1_of}
use Rattle.fr_bound.proofs.Uncut.{uncut_lem}
use Rattle.fr_bound.specs.Sync.{cycle_length_of}
use Rattle.fr_precision.specs.Rows.{IsSteady, Sender}
use Rattle.fr_precision.specs.Rates.{PlacesLength}
use Rattle.fr_precision.specs.Placement.{DifferencePlaces, HalfPlaces, IsRegular, OwnValuePlaces}
use Rattle.fr_precision.proofs.Figures.{change_is, natural}
use Rattle.fr_precision.proofs.InstantLaws.{before_correction, odd_start_is}
use Rattle.fr_time.proofs.Lines.{rest_of}
use Rattle.fr_precision.proofs.OffsetLaws.{deviation_within, micro_lasts}

-- a product of two numbers within bounds
pub product_within : (x y a b : ℤ) → IsWithin a x → IsWithin b y → IsWithin (a *ℤ b) (x *ℤ y)
product_within x y a b near also =
    by_lt_z x (pos 0)
    (λ down.
    let product = mulz_within (neg_ℤ x) y a b (omega (arith, ints, down)) (omega (arith, ints, near.low)) also in
    turned (a *ℤ b) (x *ℤ y) (neg_ℤ x *ℤ y) (negz-mulz x y) product)
    (λ up. mulz_within x y a b up near.high also)
  where
    turned : (c p n : ℤ) → n ≡ neg_ℤ p → IsWithin c n → IsWithin c p
    turned c p n e within = record { low = omega (arith, ints, within.high); high = omega (arith, ints, within.low) }

-- a share of a length that is not negative is not negative
pub share_from : (count length parts : ℤ) → pos 0 ≤ℤ count → pos 0 ≤ℤ length → pos 0 <ℤ parts → pos 0 ≤ℤ floor_of (count *ℤ length) parts
share_from count length parts from also some =
    let whole : pos 0 ≤ℤ (count *ℤ length) = mulz_from count length from also in
    let rest = rest_of (count *ℤ length) parts some in
    let f = floor_of (count *ℤ length) parts in
    let one : (f +ℤ pos 1) *ℤ parts ≡ (f *ℤ parts) +ℤ (pos 1 *ℤ parts) = addz-mulz f (pos 1) parts in
    let above = step (count *ℤ length) (f *ℤ parts) parts (pos 1 *ℤ parts) ((f +ℤ pos 1) *ℤ parts) (pos 0 *ℤ parts) (none parts) (once parts) one whole rest.to in
    by_lt_z f (pos 0)
    (λ down.
    let under : ((f +ℤ pos 1) *ℤ parts) ≤ℤ (pos 0 *ℤ parts) = mulz-lez (f +ℤ pos 1) (pos 0) parts (omega (arith, ints, down)) (omega (arith, ints, some)) in
    absurd (contrary ((f +ℤ pos 1) *ℤ parts) (pos 0 *ℤ parts) under above))
    (λ up. up)
  where
    none : (t : ℤ) → pos 0 *ℤ t ≡ pos 0
    none t = omega (arith, ints)

    once : (t : ℤ) → pos 1 *ℤ t ≡ t
    once t = omega (arith, ints)

    step : (n fg g o w z : ℤ) → z ≡ pos 0 → o ≡ g → w ≡ fg +ℤ o → pos 0 ≤ℤ n → ((n -ℤ fg) +ℤ pos 1) ≤ℤ g → z <ℤ w
    step n fg g o w z a b c d e = omega (arith, ints)

    contrary : (a b : ℤ) → a ≤ℤ b → b <ℤ a → ⊥
    contrary a b le less = omega (arith, ints)

-- the offset limit is no more than the shortest cycle has microticks
pub limit_below : (macros rest limit least : ℕ) → 1 ≤ macros → rest ≤ macros → macros * (rest + limit + 1) ≤ least * rest → limit ≤ least
limit_below macros rest limit least some fewer fits = elim (cases_lt least limit) [
  | inl less ↦
      let front : macros * (limit + 1) ≤ macros * (rest + limit + 1) = mul-le-mul_left macros (omega arith) in
      let apart : macros * (limit + 1) ≡ macros * limit + macros * 1 = mul-add macros limit 1 in
      let back : least * rest ≤ limit * rest = mul-le-mul_right rest (omega arith) in
      let wide : limit * rest ≤ limit * macros = mul-le-mul_left limit fewer in
      let turned : limit * macros ≡ macros * limit = mul_comm limit macros in
      absurd (omega (arith, front, apart, back, wide, turned, fits, some))
  | inr other ↦ other
]

-- a deviation within the offset limit is within a cycle's microticks
within_cycle : (p : Values) (value : ℤ) → IsSane p → IsWithin p.offset_limit value → IsWithin (p.micros +ℤ p.rate_limit) value
within_cycle p value sane near =
    let f = amount p in
    let micros = sane.ranges name.pMicroPerCycle in
    let rate = sane.ranges name.pRateCorrectionOut in
    let offset = sane.ranges name.pOffsetCorrectionOut in
    let macros = sane.ranges name.gMacroPerCycle in
    let below : f name.pOffsetCorrectionOut ≤ least_micros f =
    limit_below (f name.gMacroPerCycle) (correction_macros f) (f name.pOffsetCorrectionOut) (least_micros f) (omega (arith, ints, macros.0)) (omega arith) sane.constraints.leaves_microticks in
    let n_is = natural p.micros (omega (arith, ints, micros.0)) in
    let r_is = natural p.rate_limit (omega (arith, ints, rate.0)) in
    let o_is = natural p.offset_limit (omega (arith, ints, offset.0)) in
    step p.micros p.rate_limit p.offset_limit (f name.pMicroPerCycle) (f name.pRateCorrectionOut) (f name.pOffsetCorrectionOut) value n_is r_is o_is below near
  where
    step : (n r o : ℤ) (a b c : ℕ) (v : ℤ) → n ≡ pos a → r ≡ pos b → o ≡ pos c → c ≤ a - b → IsWithin o v → IsWithin (n +ℤ r) v
    step n r o a b c v e g h le within = record { low = omega (arith, ints, within.low); high = omega (arith, ints, within.high) }

-- how much a cycle changes, as signed numbers
pub change_of : (p : Values) → IsSane p → pos (cycle_change p) ≡ (p.micros +ℤ p.rate_limit) *ℤ p.change_bound
change_of p sane =
    let micros = sane.ranges name.pMicroPerCycle in
    let rate = sane.ranges name.pRateCorrectionOut in
    let change = sane.ranges name.xChangeBound in
    change_is p.micros p.rate_limit p.change_bound (omega (arith, ints, micros.0)) (omega (arith, ints, rate.0)) (omega (arith, ints, change.0))

pub steady_within : (p : Values) (even odd : NodeRow) → IsSane p → IsSteady p even odd → IsWithin p.change_bound (odd.length -ℤ even.length)
steady_within p even odd sane steady =
    let change = sane.ranges name.xChangeBound in
    turned p.change_bound (amount p name.xChangeBound) (odd.length -ℤ even.length) (natural p.change_bound (omega (arith, ints, change.0))) steady
  where
    turned : (w : ℤ) (n : ℕ) (x : ℤ) → w ≡ pos n → IsWithin (pos n) x → IsWithin w x
    turned w n x e within = record { low = omega (arith, ints, within.low); high = omega (arith, ints, within.high) }

-- from a macrotick of the even cycle to the same of the odd one it is the length of the odd cycle, but for the change
pub record Step (p : Values) (even odd : NodeRow) (macrotick : ℤ) : Type 0 where
  pub change : ℤ
  pub near : IsWithin (pos (cycle_change p)) change
  pub is : instant_of (grid_for p) odd true macrotick -ℤ instant_of (grid_for p) even false macrotick ≡ cycle_length_of p odd -ℤ change

pub step_of : (p : Values) (even odd : NodeRow) (macrotick : ℤ) → IsSane p → IsRegular p even odd → pos 0 ≤ℤ macrotick → macrotick ≤ℤ p.correction → Step p even odd macrotick
step_of p even odd macrotick sane regular from to =
    let grid = is_grid_lem p sane in
    let uncut = uncut_lem p sane in
    let micros = sane.ranges name.pMicroPerCycle in
    let rate = sane.ranges name.pRateCorrectionOut in
    let whole = p.micros +ℤ odd.rate in
    let at = even_position (grid_for p) odd.rate macrotick in
    let same : even_position (grid_for p) even.rate macrotick ≡ at = ap (λ r. even_position (grid_for p) r macrotick) (sym regular.double.same_rate) in
    let some : pos 0 <ℤ p.macros = omega (arith, ints, grid.correction_from, grid.correction_to) in
    let range = rate_range p.micros p.rate_limit even.rate odd.rate (natural p.micros (omega (arith, ints, micros.0))) (natural p.rate_limit (omega (arith, ints, rate.0))) uncut.cycle regular.double.same_rate regular.rate_within in
    let shared : at ≤ℤ whole = share_le macrotick whole p.macros from (omega (arith, ints, to, grid.correction_to)) range.0 in
    let shared_from : pos 0 ≤ℤ at = share_from macrotick whole p.macros from range.0 some in
    let rest = whole -ℤ at in
    let change = odd.length -ℤ even.length in
    let product = mulz_within rest change (p.micros +ℤ p.rate_limit) p.change_bound (omega (arith, ints, shared)) (rest_to at whole (p.micros +ℤ p.rate_limit) shared_from range.1) (steady_within p even odd sane regular.steady) in
    record {
      change = rest *ℤ change;
      near = turned ((p.micros +ℤ p.rate_limit) *ℤ p.change_bound) (pos (cycle_change p)) (rest *ℤ change) (change_of p sane) product;
      is =
          ap (λ x. x -ℤ instant_of (grid_for p) even false macrotick) (before_correction p odd macrotick to)
          ∙ sum odd.start even.start (at *ℤ odd.length) (even_position (grid_for p) even.rate macrotick *ℤ even.length) (at *ℤ even.length) (cycle_length_of p even) (whole *ℤ even.length) (cycle_length_of p odd)
          (rest *ℤ change) (whole *ℤ change) (at *ℤ change)
          (odd_start_is p even odd regular.double) (ap (λ x. x *ℤ even.length) same)
          (ap (λ r. (p.micros +ℤ r) *ℤ even.length) (sym regular.double.same_rate))
          (subz-mulz whole at change) (mulz-subz odd.length even.length whole) (mulz-subz odd.length even.length at);
    }
  where
    rate_range : (n limit r r' : ℤ) → n ≡ pos (nat_abs n) → limit ≡ pos (nat_abs limit) → nat_abs limit ≤ nat_abs n → r' ≡ r → IsWithin limit r → (pos 0 ≤ℤ (n +ℤ r')) × ((n +ℤ r') ≤ℤ (n +ℤ limit))
    rate_range n limit r r' a b le e within = (omega (arith, ints, within.low), omega (arith, ints, within.high))

    rest_to : (at whole most : ℤ) → pos 0 ≤ℤ at → whole ≤ℤ most → (whole -ℤ at) ≤ℤ most
    rest_to at whole most a b = omega (arith, ints)

    turned : (a b x : ℤ) → b ≡ a → IsWithin a x → IsWithin b x
    turned a b x e within = record { low = omega (arith, ints, within.low); high = omega (arith, ints, within.high) }

    sum : (s1 s0 a1 a0 a0' l0 w0 l1 rc wc ac : ℤ) → s1 ≡ s0 +ℤ l0 → a0 ≡ a0' → l0 ≡ w0 → rc ≡ wc -ℤ ac → wc ≡ l1 -ℤ w0 → ac ≡ a1 -ℤ a0' → (s1 +ℤ a1) -ℤ (s0 +ℤ a0) ≡ l1 -ℤ rc
    sum s1 s0 a1 a0 a0' l0 w0 l1 rc wc ac a b c d e f = omega (arith, ints)

-- what both roundings and the three changes leave
left_over : (x0 x1 y0 y1 l m c d e0 e1 l1 diff prod z0 z1 : ℤ)
    → x1 -ℤ x0 ≡ l -ℤ c → y1 -ℤ y0 ≡ m -ℤ d → diff ≡ l1 -ℤ e1 → prod ≡ e1 -ℤ e0 → z0 ≡ e0 -ℤ (y0 -ℤ x0) → z1 ≡ l1 -ℤ (y1 -ℤ x1)
    → (l +ℤ diff) -ℤ m ≡ (((c -ℤ d) +ℤ z1) -ℤ z0) -ℤ prod
left_over x0 x1 y0 y1 l m c d e0 e1 l1 diff prod z0 z1 a b f g h i = omega (arith, ints)

rounding : (gap e t v q : ℤ) → (gap -ℤ (e +ℤ t)) <ℤ v → v ≤ℤ (gap +ℤ e) → t ≤ℤ q → (neg_ℤ (e +ℤ q) ≤ℤ (v -ℤ gap)) × ((v -ℤ gap) ≤ℤ e)
rounding gap e t v q a b c = (omega (arith, ints), omega (arith, ints))

bound : (x c d z0 z1 prod jj : ℤ) (e q j : ℕ) → x ≡ (((c -ℤ d) +ℤ z1) -ℤ z0) -ℤ prod → pos j ≡ jj
    → IsWithin (pos j) c → IsWithin (pos j) d → IsWithin jj prod
    → neg_ℤ (pos e +ℤ pos q) ≤ℤ z0 → z0 ≤ℤ pos e → neg_ℤ (pos e +ℤ pos q) ≤ℤ z1 → z1 ≤ℤ pos e
    → IsWithin (pos (2 * e + 2 * q + 3 * j)) x
bound x c d z0 z1 prod jj e q j a b i k n l0 h0 l1 h1 = record {
  low = omega (arith, ints, i.low, k.high, n.high);
  high = omega (arith, ints, i.high, k.low, n.low);
}

sum : (x0 x1 y0 y1 l m c d t0 t1 e0 e1 l1 diff prod jj : ℤ) (e q j : ℕ)
    → x1 -ℤ x0 ≡ l -ℤ c → y1 -ℤ y0 ≡ m -ℤ d → diff ≡ l1 -ℤ e1 → prod ≡ e1 -ℤ e0 → pos j ≡ jj
    → IsWithin (pos j) c → IsWithin (pos j) d → IsWithin jj prod
    → ((y0 -ℤ x0) -ℤ (pos e +ℤ t0)) <ℤ e0 → e0 ≤ℤ ((y0 -ℤ x0) +ℤ pos e)
    → ((y1 -ℤ x1) -ℤ (pos e +ℤ t1)) <ℤ l1 → l1 ≤ℤ ((y1 -ℤ x1) +ℤ pos e)
    → t0 ≤ℤ pos q → t1 ≤ℤ pos q
    → IsWithin (pos (2 * e + 2 * q + 3 * j)) ((l +ℤ diff) -ℤ m)
sum x0 x1 y0 y1 l m c d t0 t1 e0 e1 l1 diff prod jj e q j a b f g h i k n low_0 high_0 low_1 high_1 most_0 most_1 =
    let early = rounding (y0 -ℤ x0) (pos e) t0 e0 (pos q) low_0 high_0 most_0 in
    let late = rounding (y1 -ℤ x1) (pos e) t1 l1 (pos q) low_1 high_1 most_1 in
    bound ((l +ℤ diff) -ℤ m) c d (e0 -ℤ (y0 -ℤ x0)) (l1 -ℤ (y1 -ℤ x1)) prod jj e q j
    (left_over x0 x1 y0 y1 l m c d e0 e1 l1 diff prod (e0 -ℤ (y0 -ℤ x0)) (l1 -ℤ (y1 -ℤ x1)) a b f g refl refl)
    h i k n early.0 early.1 late.0 late.1

pub difference_places : DifferencePlaces
difference_places p reach sender even odd early late sane suffices regular other_regular from to devs =
    let step = step_of p even odd sender.action sane regular from to in
    let other = step_of p sender.even sender.odd sender.action sane other_regular from to in
    let within = within_cycle p early sane (deviation_within p reach false sender.action even sender.even early sane suffices regular.even_micro devs.near devs.by_even) in
    let product = product_within early (odd.length -ℤ even.length) (p.micros +ℤ p.rate_limit) p.change_bound within (steady_within p even odd sane regular.steady) in
    sum (instant_of (grid_for p) even false sender.action) (instant_of (grid_for p) odd true sender.action) (instant_of (grid_for p) sender.even false sender.action) (instant_of (grid_for p) sender.odd true sender.action)
    (cycle_length_of p odd) (cycle_length_of p sender.odd) step.change other.change even.length odd.length
    (early *ℤ even.length) (early *ℤ odd.length) (late *ℤ odd.length) ((late -ℤ early) *ℤ odd.length) (early *ℤ (odd.length -ℤ even.length)) ((p.micros +ℤ p.rate_limit) *ℤ p.change_bound)
    (arrival_error p) (longest_micro p) (cycle_change p)
    step.is other.is (subz-mulz late early odd.length) (mulz-subz odd.length even.length early) (change_of p sane) step.near other.near product
    devs.by_even.low devs.by_even.high devs.by_odd.low devs.by_odd.high regular.even_micro.most regular.odd_micro.most

half_between : (one other : ℤ) → one ≤ℤ other → (one ≤ℤ half_of_sum one other) × (half_of_sum one other ≤ℤ other)
half_between one other le = (omega (arith, ints), omega (arith, ints))

half_between_back : (one other : ℤ) → other ≤ℤ one → (other ≤ℤ half_of_sum one other) × (half_of_sum one other ≤ℤ one)
half_between_back one other le = (omega (arith, ints), omega (arith, ints))

-- what lies between two numbers that are placed is placed
between_places : (p : Values) (sender : Sender) (row : NodeRow) (low value high : ℤ) → pos 0 <ℤ row.length → low ≤ℤ value → value ≤ℤ high
    → PlacesLength p row sender low → PlacesLength p row sender high → PlacesLength p row sender value
between_places p sender row low value high lasts up down from to =
    let t_from : pos 0 ≤ℤ row.length = omega (arith, ints, lasts) in
    squeeze (pos (y1_of p)) (cycle_length_of p row) (cycle_length_of p sender.odd) (low *ℤ row.length) (value *ℤ row.length) (high *ℤ row.length)
    (mulz-lez low value row.length up t_from) (mulz-lez value high row.length down t_from) from.low to.high
  where
    squeeze : (y l m a b c : ℤ) → a ≤ℤ b → b ≤ℤ c → neg_ℤ y ≤ℤ ((l +ℤ a) -ℤ m) → ((l +ℤ c) -ℤ m) ≤ℤ y → IsWithin y ((l +ℤ b) -ℤ m)
    squeeze y l m a b c h k e f = record { low = omega (arith, ints); high = omega (arith, ints) }

pub half_places : HalfPlaces
half_places p sender row one other sane micro from to =
    let lasts = (micro_lasts p row sane micro).some in
    by_lt_z other one
    (λ less.
    let order = half_between_back one other (weaker other one less) in
    between_places p sender row other (half_of_sum one other) one lasts order.0 order.1 to from)
    (λ le.
    let order = half_between one other le in
    between_places p sender row one (half_of_sum one other) other lasts order.0 order.1 from to)
  where
    weaker : (a b : ℤ) → a <ℤ b → a ≤ℤ b
    weaker a b less = omega (arith, ints)

pub own_value_places : OwnValuePlaces
own_value_places p sender = none (y1_of p) (cycle_length_of p sender.odd) sender.odd.length
  where
    none : (y : ℕ) (l t : ℤ) → IsWithin (pos y) ((l +ℤ (pos 0 *ℤ t)) -ℤ l)
    none y l t = record { low = omega (arith, ints); high = omega (arith, ints) }
