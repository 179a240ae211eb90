-- What two deviations of a sender say of the length of its even cycle.
use Rattle.std.proofs.Common.{◌≡◌, ℕ, ◌+◌, ◌-◌, ◌*◌, ◌≤◌, true, false, ℤ, pos, refl, ap, ◌∙◌, arith}
use Rattle.std.specs.Prelude.{neg_ℤ, ◌+ℤ◌, ◌-ℤ◌, ◌*ℤ◌, ◌≤ℤ◌, ◌<ℤ◌}
use Rattle.std.proofs.lemmas.Int.{ints, by_lt_z}
use Rattle.fr_base.specs.declared.node_row.NodeRow.{NodeRow}
use Rattle.fr_base.specs.Within.{IsBetween, IsWithin}
use Rattle.fr_cluster.specs.Values.{Values, amount}
use Rattle.fr_cluster.specs.Sane.{IsSane}
use Rattle.fr_cluster.specs.Questions.{compensation_of}
use Rattle.fr_cluster.specs.declared.names.ParamName.TheVariants as name
use Rattle.fr_midpoint.specs.Midpoint.{half_of_sum}
use Rattle.fr_midpoint.proofs.Products.{addz-mulz, subz-mulz, mulz_comm, mulz_from, mulz_within, mulz-lez, mulz-lez_left, mulz-subz}
use Rattle.fr_time.specs.Position.{even_position, floor_of, grid_for}
use Rattle.fr_time.specs.Instant.{instant_of}
use Rattle.fr_time.specs.Slots.{action_point_of}
use Rattle.fr_time.proofs.Floors.{share_le}
use Rattle.fr_time.proofs.Lines.{rest_of}
use Rattle.fr_time.proofs.Placing.{is_grid_lem}
use Rattle.fr_bound.specs.Bounds.{arrival_error, nominal, widest}
use Rattle.fr_bound.specs.Sync.{cycle_length_of}
use Rattle.fr_precision.specs.Rows.{Sender}
use Rattle.fr_precision.specs.Placement.{IsRegular}
use Rattle.fr_precision.proofs.DeviationLaws.{compensation_within}
use Rattle.fr_precision.proofs.InstantLaws.{before_correction, odd_start_is}
use Rattle.fr_precision.proofs.OffsetLaws.{micro_lasts}
use Rattle.fr_precision.proofs.PlacementLaws.{product_within, share_from, steady_within}
use Rattle.fr_bound.specs.SharpBounds.{steady_error, wide_change}
use Rattle.fr_precision.specs.Steady.{between_actions, even_arrival, left_of_pair, odd_arrival, placed_length, CountedAreSteady, DelaysFlutterLittle, DeviationsAreSteady, HalfPlacesEven, OwnValuePlacesEven, PlacesEven, SteadyValuesPlace}
use Rattle.fr_precision.proofs.Signed.{signed_of}

-- ---- shares of a cycle

shared_over : (x xg pg fg hg ap aq gp gm am rp rm mg over g : ℤ)
    → xg ≡ (pg -ℤ fg) +ℤ hg → pg ≡ gp → rp ≡ gp -ℤ ap → rm ≡ gm -ℤ am → mg ≡ gm → over ≡ mg +ℤ g
    → ((ap -ℤ fg) +ℤ pos 1) ≤ℤ g → pos 0 ≤ℤ (aq -ℤ hg) → rp ≤ℤ rm → aq ≤ℤ am → over ≤ℤ xg → ⊥
shared_over x xg pg fg hg ap aq gp gm am rp rm mg over g a b c d e f h i j k l = omega (arith, ints)

-- what comes after so many parts of one length, and as many parts of another, are together no more than both may be
shared_sum : (a g p q most : ℤ) → pos 0 ≤ℤ a → a ≤ℤ g → pos 0 <ℤ g → p ≤ℤ most → q ≤ℤ most
    → ((p -ℤ floor_of (a *ℤ p) g) +ℤ floor_of (a *ℤ q) g) ≤ℤ most
shared_sum a g p q most from to some short also_short =
    let f = floor_of (a *ℤ p) g in
    let h = floor_of (a *ℤ q) g in
    let x = (p -ℤ f) +ℤ h in
    by_lt_z most x
    (λ less.
    let over : ((most +ℤ pos 1) *ℤ g) ≤ℤ (x *ℤ g) = mulz-lez (most +ℤ pos 1) x g (next most x less) (omega (arith, ints, some)) in
    absurd (
    shared_over x (x *ℤ g) (p *ℤ g) (f *ℤ g) (h *ℤ g) (a *ℤ p) (a *ℤ q) (g *ℤ p) (g *ℤ most) (a *ℤ most) ((g -ℤ a) *ℤ p) ((g -ℤ a) *ℤ most) (most *ℤ g) ((most +ℤ pos 1) *ℤ g) g
    (addz-mulz (p -ℤ f) h g ∙ ap (λ y. y +ℤ (h *ℤ g)) (subz-mulz p f g)) (mulz_comm p g) (subz-mulz g a p) (subz-mulz g a most) (mulz_comm most g)
    (addz-mulz most (pos 1) g ∙ ap (λ y. (most *ℤ g) +ℤ y) (once g))
    (rest_of (a *ℤ p) g some).to (rest_of (a *ℤ q) g some).from
    (mulz-lez_left p most (g -ℤ a) short (left g a to)) (mulz-lez_left q most a also_short from) over
    ))
    (λ le. le)
  where
    next : (a b : ℤ) → a <ℤ b → (a +ℤ pos 1) ≤ℤ b
    next a b less = omega (arith, ints)

    once : (t : ℤ) → pos 1 *ℤ t ≡ t
    once t = omega (arith, ints)

    left : (g a : ℤ) → a ≤ℤ g → pos 0 ≤ℤ (g -ℤ a)
    left g a le = omega (arith, ints)

-- ---- a regular double cycle of a node

-- the microticks of its cycle and those up to a macrotick, the lengths of both cycles, and what lies between the macrotick in
-- the one and in the other
pub record Regularly (p : Values) (even odd : NodeRow) (action : ℤ) : Type 0 where
  pub whole_from : pos 0 ≤ℤ (p.micros +ℤ even.rate)
  pub whole_to : (p.micros +ℤ even.rate) ≤ℤ (p.micros +ℤ p.rate_limit)
  pub from_zero : pos 0 ≤ℤ even_position (grid_for p) even.rate action
  pub to_whole : even_position (grid_for p) even.rate action ≤ℤ (p.micros +ℤ even.rate)
  pub lengths : cycle_length_of p odd ≡ cycle_length_of p even +ℤ ((p.micros +ℤ even.rate) *ℤ (odd.length -ℤ even.length))
  pub acts :
      instant_of (grid_for p) odd true action -ℤ instant_of (grid_for p) even false action
      ≡ cycle_length_of p even +ℤ (even_position (grid_for p) even.rate action *ℤ (odd.length -ℤ even.length))
  pub change : IsWithin p.change_bound (odd.length -ℤ even.length)

pub regularly : (p : Values) (even odd : NodeRow) (action : ℤ) → IsSane p → IsRegular p even odd → pos 0 ≤ℤ action → action ≤ℤ p.correction → Regularly p even odd action
regularly p even odd action sane regular from to =
    let grid = is_grid_lem p sane in
    let s = signed_of p sane in
    let same = regular.double.same_rate in
    let whole = p.micros +ℤ even.rate in
    let share = even_position (grid_for p) even.rate action in
    let some : pos 0 <ℤ p.macros = omega (arith, ints, grid.correction_from, grid.correction_to) in
    let whole_from = slow p.micros p.rate_limit even.rate s.ro_to regular.rate_within in
    record {
      whole_from = whole_from;
      whole_to = fast p.micros p.rate_limit even.rate regular.rate_within;
      from_zero = share_from action whole p.macros from whole_from some;
      to_whole = share_le action whole p.macros from (omega (arith, ints, to, grid.correction_to)) whole_from;
      lengths =
          long (cycle_length_of p odd) (whole *ℤ odd.length) (whole *ℤ even.length) (whole *ℤ (odd.length -ℤ even.length))
          (ap (λ r. (p.micros +ℤ r) *ℤ odd.length) same) (mulz-subz odd.length even.length whole);
      acts =
          sum (instant_of (grid_for p) odd true action) odd.start even.start (even_position (grid_for p) odd.rate action *ℤ odd.length) (share *ℤ odd.length) (share *ℤ even.length) (cycle_length_of p even)
          (share *ℤ (odd.length -ℤ even.length))
          (before_correction p odd action to) (odd_start_is p even odd regular.double) (ap (λ r. even_position (grid_for p) r action *ℤ odd.length) same) (mulz-subz odd.length even.length share);
      change = steady_within p even odd sane regular.steady;
    }
  where
    slow : (n limit r : ℤ) → limit ≤ℤ n → IsWithin limit r → pos 0 ≤ℤ (n +ℤ r)
    slow n limit r le within = omega (arith, ints, within.low)

    fast : (n limit r : ℤ) → IsWithin limit r → (n +ℤ r) ≤ℤ (n +ℤ limit)
    fast n limit r within = omega (arith, ints, within.high)

    long : (l w1 w0 wd : ℤ) → l ≡ w1 → wd ≡ w1 -ℤ w0 → l ≡ w0 +ℤ wd
    long l w1 w0 wd a b = omega (arith, ints)

    sum : (x s1 s0 a' a1 a0 l0 ad : ℤ) → x ≡ s1 +ℤ a' → s1 ≡ s0 +ℤ l0 → a' ≡ a1 → ad ≡ a1 -ℤ a0 → x -ℤ (s0 +ℤ a0) ≡ l0 +ℤ ad
    sum x s1 s0 a' a1 a0 l0 ad a b c d = omega (arith, ints)

-- ---- the placement

rest_within : (n ro oo whole share other_whole other micros early : ℤ) → pos 0 ≤ℤ oo → ((whole -ℤ share) +ℤ other) ≤ℤ (n +ℤ ro) → other ≤ℤ other_whole → other_whole ≤ℤ (n +ℤ ro)
    → IsWithin oo early → (early +ℤ share) ≤ℤ micros → micros ≤ℤ (whole +ℤ oo) → IsWithin (((n +ℤ ro) +ℤ oo) -ℤ other) (whole -ℤ micros)
rest_within n ro oo whole share other_whole other micros early a b c d limit f g = record { low = omega (arith, ints); high = omega (arith, ints, limit.low) }

actions_sum : (f wide d : ℕ) (y m left rd a gw mw w t0 t1 : ℤ) → left ≡ (y -ℤ m) -ℤ rd → IsBetween (neg_ℤ (pos f +ℤ (t1 -ℤ pos 1))) (pos f +ℤ (t0 -ℤ pos 1)) left
    → IsWithin a rd → a ≡ mw -ℤ gw → pos 0 ≤ℤ gw → pos wide ≡ mw +ℤ w → pos 0 ≤ℤ w → t0 ≤ℤ pos (1_000_000 + d) → t1 ≤ℤ pos (1_000_000 + d)
    → IsWithin (pos (f + (1_000_000 + d - 1) + wide)) (y -ℤ m)
actions_sum f wide d y m left rd a gw mw w t0 t1 is between near b c e g h i = record {
  low = omega (arith, ints, between.low, near.low);
  high = omega (arith, ints, between.high, near.high);
}

length_sum : (f wide : ℕ) (y m l left rd gd a gw mw w t0 t1 : ℤ) → left ≡ (y -ℤ m) -ℤ rd → m ≡ l +ℤ gd → IsBetween (neg_ℤ (pos f +ℤ (t1 -ℤ pos 1))) (pos f +ℤ (t0 -ℤ pos 1)) left
    → IsWithin a rd → a ≡ mw -ℤ gw → IsWithin gw gd → pos wide ≡ mw +ℤ w → pos 0 ≤ℤ w → IsWithin w (t1 -ℤ t0)
    → IsWithin (pos (f + wide) +ℤ (t1 -ℤ pos 1)) (y -ℤ l)
length_sum f wide y m l left rd gd a gw mw w t0 t1 is acts between near b also e g steady = record {
  low = omega (arith, ints, between.low, near.low, also.low);
  high = omega (arith, ints, between.high, near.high, also.high, steady.low);
}

pub steady_values_place_lem : SteadyValuesPlace
steady_values_place_lem p flutter sender even odd early late sane regular acting pair =
    let s = signed_of p sane in
    let grid = is_grid_lem p sane in
    let r = regularly p even odd sender.action sane regular acting.acts_from acting.acts_to in
    let q = regularly p sender.even sender.odd sender.action sane acting.regular acting.acts_from acting.acts_to in
    let n = p.micros in
    let whole = n +ℤ even.rate in
    let other_whole = n +ℤ sender.even.rate in
    let share = even_position (grid_for p) even.rate sender.action in
    let other = even_position (grid_for p) sender.even.rate sender.action in
    let most = (n +ℤ p.rate_limit) +ℤ p.offset_limit in
    let w = p.change_bound in
    let shared = shared_sum sender.action p.macros whole other_whole (n +ℤ p.rate_limit) acting.acts_from (within sender.action p.correction p.macros acting.acts_to grid.correction_to) (some p.correction p.macros grid.correction_from grid.correction_to) r.whole_to q.whole_to in
    let rest = rest_within n p.rate_limit p.offset_limit whole share other_whole other pair.micros early s.oo_from shared q.to_whole q.whole_to pair.limit pair.from pair.to in
    let product = product_within (whole -ℤ pair.micros) (odd.length -ℤ even.length) (most -ℤ other) w rest r.change in
    let also = mulz_within other (sender.odd.length -ℤ sender.even.length) other w q.from_zero (itself other) q.change in
    record {
      actions =
          actions_sum flutter (wide_change p) (amount p name.xRateBound) (placed_length p odd (late -ℤ early)) (between_actions p sender) (left_of_pair p sender even odd pair.micros (late -ℤ early))
          ((whole -ℤ pair.micros) *ℤ (odd.length -ℤ even.length)) ((most -ℤ other) *ℤ w) (other *ℤ w) (most *ℤ w) w even.length odd.length
          refl pair.left product (subz-mulz most other w) (mulz_from other w q.from_zero s.w_from) s.wide_is s.w_from regular.even_micro.most regular.odd_micro.most;
      length =
          length_sum flutter (wide_change p) (placed_length p odd (late -ℤ early)) (between_actions p sender) (cycle_length_of p sender.even) (left_of_pair p sender even odd pair.micros (late -ℤ early))
          ((whole -ℤ pair.micros) *ℤ (odd.length -ℤ even.length)) (other *ℤ (sender.odd.length -ℤ sender.even.length)) ((most -ℤ other) *ℤ w) (other *ℤ w) (most *ℤ w) w even.length odd.length
          refl q.acts pair.left product (subz-mulz most other w) also s.wide_is s.w_from r.change;
    }
  where
    itself : (a : ℤ) → a ≤ℤ a
    itself a = omega (arith, ints)

    within : (m o g : ℤ) → m ≤ℤ o → o <ℤ g → m ≤ℤ g
    within m o g a b = omega (arith, ints)

    some : (o g : ℤ) → pos 1 ≤ℤ o → o <ℤ g → pos 0 <ℤ g
    some o g a b = omega (arith, ints)

-- ---- what lies between two values that place it, and a receiver's own

half_between : (one other : ℤ) → one ≤ℤ other → (one ≤ℤ half_of_sum one other) × (half_of_sum one other ≤ℤ other)
half_between one other le = (omega (arith, ints), omega (arith, ints))

half_between_back : (one other : ℤ) → other ≤ℤ one → (other ≤ℤ half_of_sum one other) × (half_of_sum one other ≤ℤ one)
half_between_back one other le = (omega (arith, ints), omega (arith, ints))

squeezed : (bound l m a b c : ℤ) → a ≤ℤ b → b ≤ℤ c → IsWithin bound ((l +ℤ a) -ℤ m) → IsWithin bound ((l +ℤ c) -ℤ m) → IsWithin bound ((l +ℤ b) -ℤ m)
squeezed bound l m a b c h k low high = record { low = omega (arith, ints, low.low); high = omega (arith, ints, high.high) }

between_places : (p : Values) (flutter : ℕ) (sender : Sender) (row : NodeRow) (low value high : ℤ) → pos 0 <ℤ row.length → low ≤ℤ value → value ≤ℤ high
    → PlacesEven p flutter sender row low → PlacesEven p flutter sender row high → PlacesEven p flutter sender row value
between_places p flutter sender row low value high lasts up down from to =
    let t_from : pos 0 ≤ℤ row.length = omega (arith, ints, lasts) in
    let a = mulz-lez low value row.length up t_from in
    let b = mulz-lez value high row.length down t_from in
    record {
      actions = squeezed (pos (steady_error p flutter)) (cycle_length_of p row) (between_actions p sender) (low *ℤ row.length) (value *ℤ row.length) (high *ℤ row.length) a b from.actions to.actions;
      length =
          squeezed (pos (flutter + wide_change p) +ℤ (row.length -ℤ pos 1)) (cycle_length_of p row) (cycle_length_of p sender.even) (low *ℤ row.length) (value *ℤ row.length) (high *ℤ row.length) a b from.length to.length;
    }

pub half_places_even : HalfPlacesEven
half_places_even p flutter sender row one other sane micro from to =
    let lasts = (micro_lasts p row sane micro).some in
    by_lt_z other one
    (λ less.
    let order = half_between_back one other (weaker other one less) in
    between_places p flutter sender row other (half_of_sum one other) one lasts order.0 order.1 to from)
    (λ le.
    let order = half_between one other le in
    between_places p flutter sender row one (half_of_sum one other) other lasts order.0 order.1 from to)
  where
    weaker : (a b : ℤ) → a <ℤ b → a ≤ℤ b
    weaker a b less = omega (arith, ints)

own_sum : (f wide d : ℕ) (t l0 l1 m wd gd rd zero nw mw w : ℤ) → zero ≡ pos 0 → l1 ≡ l0 +ℤ wd → m ≡ l0 +ℤ gd → rd ≡ wd -ℤ gd → IsWithin nw rd → IsWithin nw wd → nw ≤ℤ mw → pos wide ≡ mw +ℤ w → pos 0 ≤ℤ w → pos 0 <ℤ t
    → IsWithin (pos (f + (1_000_000 + d - 1) + wide)) ((l1 +ℤ zero) -ℤ m) × IsWithin (pos (f + wide) +ℤ (t -ℤ pos 1)) ((l1 +ℤ zero) -ℤ l0)
own_sum f wide d t l0 l1 m wd gd rd zero nw mw w a b c e near also g h i j = (
  record { low = omega (arith, ints, near.low); high = omega (arith, ints, near.high) },
  record { low = omega (arith, ints, also.low); high = omega (arith, ints, also.high) },
)

pub own_value_places_even : OwnValuePlacesEven
own_value_places_even p flutter sender sane acting =
    let s = signed_of p sane in
    let q = regularly p sender.even sender.odd sender.action sane acting.regular acting.acts_from acting.acts_to in
    let n = p.micros in
    let w = p.change_bound in
    let change = sender.odd.length -ℤ sender.even.length in
    let whole = n +ℤ sender.even.rate in
    let share = even_position (grid_for p) sender.even.rate sender.action in
    let rest = mulz_within (whole -ℤ share) change (n +ℤ p.rate_limit) w (left whole share q.to_whole) (less whole share (n +ℤ p.rate_limit) q.from_zero q.whole_to) q.change in
    let all = mulz_within whole change (n +ℤ p.rate_limit) w q.whole_from q.whole_to q.change in
    let both =
    own_sum flutter (wide_change p) (amount p name.xRateBound) sender.odd.length (cycle_length_of p sender.even) (cycle_length_of p sender.odd) (between_actions p sender) (whole *ℤ change) (share *ℤ change)
    ((whole -ℤ share) *ℤ change) (pos 0 *ℤ sender.odd.length) ((n +ℤ p.rate_limit) *ℤ w) (((n +ℤ p.rate_limit) +ℤ p.offset_limit) *ℤ w) w
    (none sender.odd.length) q.lengths q.acts (subz-mulz whole share change) rest all
    (mulz-lez (n +ℤ p.rate_limit) ((n +ℤ p.rate_limit) +ℤ p.offset_limit) w (more (n +ℤ p.rate_limit) p.offset_limit s.oo_from) s.w_from) s.wide_is s.w_from
    (micro_lasts p sender.odd sane acting.regular.odd_micro).some in
    record { actions = both.0; length = both.1 }
  where
    none : (t : ℤ) → pos 0 *ℤ t ≡ pos 0
    none t = omega (arith, ints)

    left : (a b : ℤ) → b ≤ℤ a → pos 0 ≤ℤ (a -ℤ b)
    left a b le = omega (arith, ints)

    less : (a b c : ℤ) → pos 0 ≤ℤ b → a ≤ℤ c → (a -ℤ b) ≤ℤ c
    less a b c from to = omega (arith, ints)

    more : (a b : ℤ) → pos 0 ≤ℤ b → a ≤ℤ (a +ℤ b)
    more a b from = omega (arith, ints)

-- ---- where pairs come from

recorded_left : (y0 y1 x0 x1 l0 l1 wd gd early_t1 early_t0 late_t1 diff_t1 both_d early_d rest_d : ℤ)
    → l1 ≡ l0 +ℤ wd → x1 -ℤ x0 ≡ l0 +ℤ gd → diff_t1 ≡ late_t1 -ℤ early_t1 → rest_d ≡ wd -ℤ both_d → both_d ≡ early_d +ℤ gd → early_d ≡ early_t1 -ℤ early_t0
    → ((l1 +ℤ diff_t1) -ℤ (y1 -ℤ y0)) -ℤ rest_d ≡ (late_t1 -ℤ (y1 -ℤ x1)) -ℤ (early_t0 -ℤ (y0 -ℤ x0))
recorded_left y0 y1 x0 x1 l0 l1 wd gd early_t1 early_t0 late_t1 diff_t1 both_d early_d rest_d a b c d e f = omega (arith, ints)

recorded_between : (e : ℕ) (left gap0 gap1 v0 v1 t0 t1 : ℤ) → left ≡ (v1 -ℤ gap1) -ℤ (v0 -ℤ gap0)
    → (gap0 -ℤ (pos e +ℤ t0)) <ℤ v0 → v0 ≤ℤ (gap0 +ℤ pos e) → (gap1 -ℤ (pos e +ℤ t1)) <ℤ v1 → v1 ≤ℤ (gap1 +ℤ pos e)
    → IsBetween (neg_ℤ (pos (2 * e) +ℤ (t1 -ℤ pos 1))) (pos (2 * e) +ℤ (t0 -ℤ pos 1)) left
recorded_between e left gap0 gap1 v0 v1 t0 t1 is a b c d = record { low = omega (arith, ints); high = omega (arith, ints) }

pub deviations_are_steady : DeviationsAreSteady
deviations_are_steady p sender even odd early late sane regular from to limit by_even by_odd =
    let r = regularly p even odd sender.action sane regular from to in
    let whole = p.micros +ℤ even.rate in
    let share = even_position (grid_for p) even.rate sender.action in
    let t0 = even.length in
    let t1 = odd.length in
    let x0 = instant_of (grid_for p) even false sender.action in
    let x1 = instant_of (grid_for p) odd true sender.action in
    let y0 = instant_of (grid_for p) sender.even false sender.action in
    let y1 = instant_of (grid_for p) sender.odd true sender.action in
    let is =
    recorded_left y0 y1 x0 x1 (cycle_length_of p even) (cycle_length_of p odd) (whole *ℤ (t1 -ℤ t0)) (share *ℤ (t1 -ℤ t0)) (early *ℤ t1) (early *ℤ t0) (late *ℤ t1) ((late -ℤ early) *ℤ t1)
    ((early +ℤ share) *ℤ (t1 -ℤ t0)) (early *ℤ (t1 -ℤ t0)) ((whole -ℤ (early +ℤ share)) *ℤ (t1 -ℤ t0))
    r.lengths r.acts (subz-mulz late early t1) (subz-mulz whole (early +ℤ share) (t1 -ℤ t0)) (addz-mulz early share (t1 -ℤ t0)) (mulz-subz t1 t0 early) in
    record {
      micros = early +ℤ share;
      limit = limit;
      from = itself (early +ℤ share);
      to = sum early share whole p.offset_limit limit r.to_whole;
      left =
          recorded_between (arrival_error p) (left_of_pair p sender even odd (early +ℤ share) (late -ℤ early)) (y0 -ℤ x0) (y1 -ℤ x1) (early *ℤ t0) (late *ℤ t1) t0 t1 is
          by_even.low by_even.high by_odd.low by_odd.high;
    }
  where
    itself : (a : ℤ) → a ≤ℤ a
    itself a = omega (arith, ints)

    sum : (e g whole oo : ℤ) → IsWithin oo e → g ≤ℤ whole → (e +ℤ g) ≤ℤ (whole +ℤ oo)
    sum e g whole oo within le = omega (arith, ints, within.high)

counted_left : (y0 y1 d0 d1 s0 s1 l0 l1 wd n0_t1 n0_t0 n1_t1 diff_t1 n0_d rest_d q0 q1 : ℤ)
    → l1 ≡ l0 +ℤ wd → s1 ≡ s0 +ℤ l0 → diff_t1 ≡ n1_t1 -ℤ n0_t1 → rest_d ≡ wd -ℤ n0_d → n0_d ≡ n0_t1 -ℤ n0_t0
    → q0 ≡ ((y0 +ℤ d0) -ℤ s0) -ℤ n0_t0 → q1 ≡ ((y1 +ℤ d1) -ℤ s1) -ℤ n1_t1
    → ((l1 +ℤ diff_t1) -ℤ (y1 -ℤ y0)) -ℤ rest_d ≡ ((d1 -ℤ d0) +ℤ q0) -ℤ q1
counted_left y0 y1 d0 d1 s0 s1 l0 l1 wd n0_t1 n0_t0 n1_t1 diff_t1 n0_d rest_d q0 q1 a b c d e f g = omega (arith, ints)

counted_between : (f : ℕ) (left d q0 q1 t0 t1 : ℤ) → left ≡ (d +ℤ q0) -ℤ q1 → IsWithin (pos f) d → pos 0 ≤ℤ q0 → (q0 +ℤ pos 1) ≤ℤ t0 → pos 0 ≤ℤ q1 → (q1 +ℤ pos 1) ≤ℤ t1
    → IsBetween (neg_ℤ (pos f +ℤ (t1 -ℤ pos 1))) (pos f +ℤ (t0 -ℤ pos 1)) left
counted_between f left d q0 q1 t0 t1 is near a b c e = record { low = omega (arith, ints, near.low); high = omega (arith, ints, near.high) }

pub counted_are_steady : CountedAreSteady
counted_are_steady p flutter slot ch sender even odd delay other_delay sane regular acts to flutters in_cycle limit =
    let action = pos (action_point_of p slot) in
    let from : pos 0 ≤ℤ sender.action = at_slot sender.action (action_point_of p slot) acts in
    let r = regularly p even odd sender.action sane regular from to in
    let u = compensation_of p ch in
    let whole = p.micros +ℤ even.rate in
    let t0 = even.length in
    let t1 = odd.length in
    let y0 = instant_of (grid_for p) sender.even false sender.action in
    let y1 = instant_of (grid_for p) sender.odd true sender.action in
    let n0 = floor_of (even_arrival p sender delay -ℤ even.start) t0 in
    let n1 = floor_of (odd_arrival p sender other_delay -ℤ odd.start) t1 in
    let g0 = even_position (grid_for p) even.rate action in
    let g1 = even_position (grid_for p) odd.rate action in
    let same : g1 ≡ g0 = ap (λ r. even_position (grid_for p) r action) regular.double.same_rate in
    let value = ((n1 -ℤ u) -ℤ g1) -ℤ ((n0 -ℤ u) -ℤ g0) in
    let differ : value ≡ n1 -ℤ n0 = taken n0 n1 u g0 g1 same in
    let rest0 = rest_of (even_arrival p sender delay -ℤ even.start) t0 (micro_lasts p even sane regular.even_micro).some in
    let rest1 = rest_of (odd_arrival p sender other_delay -ℤ odd.start) t1 (micro_lasts p odd sane regular.odd_micro).some in
    let q0 = (even_arrival p sender delay -ℤ even.start) -ℤ (n0 *ℤ t0) in
    let q1 = (odd_arrival p sender other_delay -ℤ odd.start) -ℤ (n1 *ℤ t1) in
    let is =
    counted_left y0 y1 delay other_delay even.start odd.start (cycle_length_of p even) (cycle_length_of p odd) (whole *ℤ (t1 -ℤ t0)) (n0 *ℤ t1) (n0 *ℤ t0) (n1 *ℤ t1) (value *ℤ t1)
    (n0 *ℤ (t1 -ℤ t0)) ((whole -ℤ n0) *ℤ (t1 -ℤ t0)) q0 q1
    r.lengths (odd_start_is p even odd regular.double) (ap (λ x. x *ℤ t1) differ ∙ subz-mulz n1 n0 t1) (subz-mulz whole n0 (t1 -ℤ t0)) (mulz-subz t1 t0 n0) refl refl in
    record {
      micros = n0;
      limit = limit;
      from =
          up_to n0 u g0 (even_position (grid_for p) even.rate sender.action) (compensation_within p ch sane).0
          (ap (even_position (grid_for p) even.rate) acts);
      to = in_cycle;
      left = counted_between flutter (left_of_pair p sender even odd n0 value) (other_delay -ℤ delay) q0 q1 t0 t1 is flutters rest0.from rest0.to rest1.from rest1.to;
    }
  where
    at_slot : (a : ℤ) (k : ℕ) → a ≡ pos k → pos 0 ≤ℤ a
    at_slot a k is = omega (arith, ints)

    taken : (n0 n1 u g0 g1 : ℤ) → g1 ≡ g0 → ((n1 -ℤ u) -ℤ g1) -ℤ ((n0 -ℤ u) -ℤ g0) ≡ n1 -ℤ n0
    taken n0 n1 u g0 g1 same = omega (arith, ints)

    up_to : (n u g h : ℤ) → pos 0 ≤ℤ u → h ≡ g → (((n -ℤ u) -ℤ g) +ℤ h) ≤ℤ n
    up_to n u g h from same = omega (arith, ints)

-- ---- how much delays may flutter

pub delays_flutter_little : DelaysFlutterLittle
delays_flutter_little p channel delay other_delay is other =
    (apart (amount p name.xDelayError) (compensation_of p channel *ℤ pos nominal) delay other_delay is other, no_more (amount p name.xDelayError) (widest p * amount p name.xRateBound))
  where
    apart : (e : ℕ) (c d d' : ℤ) → IsWithin (pos e) (d -ℤ c) → IsWithin (pos e) (d' -ℤ c) → IsWithin (pos (2 * e)) (d' -ℤ d)
    apart e c d d' is other = record { low = omega (arith, ints, is.high, other.low); high = omega (arith, ints, is.low, other.high) }

    no_more : (e more : ℕ) → 2 * e ≤ 2 * (e + more)
    no_more e more = omega arith
