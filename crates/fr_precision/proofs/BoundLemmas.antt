-- The sharper bounds, checks and walk.
use Rattle.std.proofs.Common.{◌≡◌, ℕ, zero, suc, ◌+◌, ◌-◌, ◌*◌, ◌/◌, ◌%◌, ◌<◌, ◌≤◌, Bool, true, false, if◌then◌else◌, ℤ, pos, negsuc, Some, None, IfSome, List, [], ◌∷◌, All, refl, ap, ◌∙◌, subst, arith}
use Rattle.std.specs.Prelude.{◌+ℤ◌, ◌-ℤ◌, ◌*ℤ◌, ◌≤ℤ◌, ◌<ℤ◌, ◌↔◌, int_le, int_lt, max, nat_abs, nat_le, nat_lt}
use Rattle.std.proofs.lemmas.Bool.Decides.{nat_tests}
use Rattle.std.proofs.lemmas.Int.{ints}
use Rattle.std.proofs.lemmas.List.Elements.{All-cons, All-contains, All-nil}
use Rattle.std.proofs.Math.Nat.{div-add-mod', div-le_of_le-mul, le-max_left, le-max_right, mul-add, mul-le-mul_left, mul-le-mul_right, mul_comm}
use Rattle.fr_cluster.specs.Values.{Values, amount}
use Rattle.fr_cluster.specs.Sane.{IsSane}
use Rattle.fr_cluster.specs.Constraints.{correction_macros, key_slots, least_micros}
use Rattle.fr_cluster.specs.declared.names.ParamName.TheVariants as name
use Rattle.fr_midpoint.proofs.Products.{addz-mulz, mulz_from, mulz-lez_left, subz-mulz}
use Rattle.fr_time.specs.Position.{floor_of}
use Rattle.fr_bound.proofs.SharpNumbers.{acts_later, last_acts_early, le_along}
use Rattle.fr_bound.specs.Bounds.{arrival_error, cycle_change, lambda_of, longest_micro, nominal, pi_of, precision_of, shortest_micro, widest}
use Rattle.fr_bound.specs.Checks.{back_need_of, front_need_of, holds_of, left_of, right_of}
use Rattle.fr_precision.proofs.Figures.{nat_le-true, natural, times_natural}
use Rattle.fr_precision.proofs.PlacementLaws.{limit_below}
use Rattle.fr_bound.specs.SharpBounds.{last_action, last_of, near_by, odd_spread, rate_room, rate_walk, sharp_lambda, sharp_near, sharp_pi, sharp_precision, steady_error, wide_change, AloneIsBelow, NearIsBelow, SharpIsBelow}
use Rattle.fr_precision.specs.Offsets.{LimitSuffices}
use Rattle.fr_bound.specs.SharpChecks.{sharp_holds_of, FirstCheckStopsWalk, OlderChecksSuffice, RateSuffices, WalkIsBounded}
use Rattle.fr_precision.specs.SharpChecks.{SharpChecksSuffice}
use Rattle.fr_precision.specs.Lengths.{walked_after, CanWalk, WalkIsHeld}
use Rattle.fr_precision.specs.SharpStep.{KeySlotsActEarly, SharpChecksReach}
use Rattle.fr_precision.proofs.Signed.{one_more, signed_of}

-- ---- against the older bounds

wide_lem : (n r o w : ℕ) → o + 1 ≤ n + r → (n + r + o + 1) * w ≤ 2 * ((n + r) * w)
wide_lem n r o w le =
    let more : w * (n + r + o + 1) ≤ w * ((n + r) + (n + r)) = mul-le-mul_left w (omega (arith, le)) in
    let apart : w * ((n + r) + (n + r)) ≡ w * (n + r) + w * (n + r) = mul-add w (n + r) (n + r) in
    omega (arith, more, apart, mul_comm w (n + r + o + 1), mul_comm w (n + r))

-- the wide change is no more than two changes of a cycle, since the offset limit is no more than a cycle's microticks
pub wide_le : (p : Values) → IsSane p → wide_change p ≤ 2 * cycle_change p
wide_le p sane =
    let f = amount p in
    let macros = sane.ranges name.gMacroPerCycle in
    let rate = sane.ranges name.pRateCorrectionOut in
    let below : f name.pOffsetCorrectionOut ≤ least_micros f =
    limit_below (f name.gMacroPerCycle) (correction_macros f) (f name.pOffsetCorrectionOut) (least_micros f) (omega (arith, ints, macros.0)) (omega arith) sane.constraints.leaves_microticks in
    let some : 1 ≤ f name.pRateCorrectionOut = omega (arith, ints, rate.0) in
    wide_lem (f name.pMicroPerCycle) (f name.pRateCorrectionOut) (f name.pOffsetCorrectionOut) (f name.xChangeBound) (fits (f name.pMicroPerCycle) (f name.pRateCorrectionOut) (f name.pOffsetCorrectionOut) below some)
  where
    fits : (n r o : ℕ) → o ≤ n - r → 1 ≤ r → o + 1 ≤ n + r
    fits n r o le some = omega (arith, le, some)

below_beside : (t q w c j e k l pi old_l old_pi : ℕ) → t ≤ 2 * e → w ≤ 2 * j → k ≡ t + (q - 1) + w → l ≡ 4 * k + 2 * q + 4 * c + 4 * j → pi ≡ 3 * l + 4 * j + 4 * e + 7 * q
    → old_l ≡ 4 * (2 * e + 2 * q + 3 * j) + 2 * q + 4 * c + 8 * j → old_pi ≡ 6 * old_l + 4 * e + 8 * q
    → (l ≤ old_l) × (pi ≤ old_pi) × (pi + l + (l + 2 * j) + 2 * q ≤ old_pi + 2 * old_l + 2 * q)
below_beside t q w c j e k l pi old_l old_pi a b c0 c1 c2 c3 c4 = (omega arith, omega arith, omega arith)

below_alone : (t q w c j e k l pi old_l old_pi : ℕ) → t ≤ 2 * e → w ≤ 2 * j → k ≡ t + (q - 1) + w → l ≡ 2 * k + q + 2 * c + 2 * j → pi ≡ (l + 2 * j) + 2 * e + 3 * q
    → old_l ≡ 4 * (2 * e + 2 * q + 3 * j) + 2 * q + 4 * c + 8 * j → old_pi ≡ 6 * old_l + 4 * e + 8 * q
    → (l ≤ old_l) × (pi ≤ old_pi) × (pi + l + (l + 2 * j) + 2 * q ≤ old_pi + 2 * old_l + 2 * q)
below_alone t q w c j e k l pi old_l old_pi a b c0 c1 c2 c3 c4 = (omega arith, omega arith, omega arith)

pub sharp_is_below : SharpIsBelow
sharp_is_below false p flutter sane le =
    below_alone flutter (longest_micro p) (wide_change p) (amount p name.pClusterDriftDamping * longest_micro p) (cycle_change p) (arrival_error p) (steady_error p flutter) (sharp_lambda false p flutter) (sharp_pi false p flutter)
    (lambda_of p) (pi_of p) le (wide_le p sane) refl refl refl refl refl
sharp_is_below true p flutter sane le =
    below_beside flutter (longest_micro p) (wide_change p) (amount p name.pClusterDriftDamping * longest_micro p) (cycle_change p) (arrival_error p) (steady_error p flutter) (sharp_lambda true p flutter) (sharp_pi true p flutter)
    (lambda_of p) (pi_of p) le (wide_le p sane) refl refl refl refl refl

pub alone_is_below : AloneIsBelow
alone_is_below p flutter =
    step (longest_micro p) (amount p name.pClusterDriftDamping * longest_micro p) (cycle_change p) (arrival_error p) (steady_error p flutter) (sharp_lambda false p flutter) (sharp_lambda true p flutter) (sharp_pi false p flutter) (sharp_pi true p flutter)
    refl refl refl refl
  where
    step : (q c j e k l l' pi pi' : ℕ) → l ≡ 2 * k + q + 2 * c + 2 * j → l' ≡ 4 * k + 2 * q + 4 * c + 4 * j → pi ≡ (l + 2 * j) + 2 * e + 3 * q → pi' ≡ 3 * l' + 4 * j + 4 * e + 7 * q
        → (l ≤ l') × (pi ≤ pi') × (pi + l + (l + 2 * j) + 2 * q ≤ pi' + l' + (l' + 2 * j) + 2 * q)
    step q c j e k l l' pi pi' a b d f = (omega arith, omega arith, omega arith)

-- ---- the last action point

all_to_last : (slots : List ℕ) → All (λ slot. slot ≤ last_of slots) slots
unfolding last_of
all_to_last [] = All-nil (λ slot. slot ≤ 0)
all_to_last (slot ∷ slots) =
    All-cons (λ k. k ≤ max slot (last_of slots)) slot slots (le-max_left slot (last_of slots))
    (le_along (last_of slots) (max slot (last_of slots)) slots (le-max_right slot (last_of slots)) (all_to_last slots))

pub key_slots_act_early : KeySlotsActEarly
key_slots_act_early p sane =
    let start = sane.ranges name.gOffsetCorrectionStart in (
      λ slot among. acts_later p slot (last_of (key_slots p.nodes)) (All-contains (λ k. k ≤ last_of (key_slots p.nodes)) (key_slots p.nodes) slot (all_to_last (key_slots p.nodes)) among),
      early (last_action p) (amount p name.gOffsetCorrectionStart) p.correction (natural p.correction (omega (arith, ints, start.0))) (last_acts_early p sane),
    )
  where
    early : (a c : ℕ) (z : ℤ) → z ≡ pos c → a < c → pos a ≤ℤ z
    early a c z is less = omega (arith, ints, less)

pub near_is_below : NearIsBelow
near_is_below p starts lengths sane =
    let after = sane.constraints.corrects_after in
    let macros = amount p name.gMacroPerCycle in
    let within : last_action p ≤ macros = chain (last_action p) (amount p name.gOffsetCorrectionStart) macros (last_acts_early p sane) after.1 in
    let share : last_action p * odd_spread p lengths / macros ≤ odd_spread p lengths = div-le_of_le-mul macros (mul-le-mul_right (odd_spread p lengths) within) in
    step starts lengths (odd_spread p lengths) (last_action p * odd_spread p lengths / macros) (longest_micro p) share
  where
    chain : (a b c : ℕ) → a < b → b < c → a ≤ c
    chain a b c h k = omega (arith, h, k)

    step : (s l o f q : ℕ) → f ≤ o → s + l + f + q ≤ s + l + o + 2 * q
    step s l o f q le = omega (arith, le)

-- ---- the walk

walk_by : (b : Bool) (base : ℕ) (c qm qp t : ℤ) → int_lt (pos 0) c ≡ b → pos 0 ≤ℤ c → pos 0 ≤ℤ qm → qm ≤ℤ t → t ≤ℤ qp
    → ((pos base +ℤ (t -ℤ pos 1)) -ℤ (c *ℤ t)) ≤ℤ ((pos base -ℤ pos 1) +ℤ (if b then qm -ℤ (c *ℤ qm) else qp))
walk_by true base c qm qp t some from qm_from least most =
    let more : ((c -ℤ pos 1) *ℤ qm) ≤ℤ ((c -ℤ pos 1) *ℤ t) = mulz-lez_left qm t (c -ℤ pos 1) least (positive c some) in
    step base qm t (c *ℤ qm) (c *ℤ t) (pos 1 *ℤ qm) (pos 1 *ℤ t) ((c -ℤ pos 1) *ℤ qm) ((c -ℤ pos 1) *ℤ t) (subz-mulz c (pos 1) qm) (subz-mulz c (pos 1) t) (once qm) (once t) more
  where
    positive : (c : ℤ) → int_lt (pos 0) c ≡ true → pos 0 ≤ℤ (c -ℤ pos 1)
    positive c is = omega (arith, ints, is)

    once : (t : ℤ) → pos 1 *ℤ t ≡ t
    once t = omega (arith, ints)

    step : (base : ℕ) (qm t cm ct om ot dm dt : ℤ) → dm ≡ cm -ℤ om → dt ≡ ct -ℤ ot → om ≡ qm → ot ≡ t → dm ≤ℤ dt → ((pos base +ℤ (t -ℤ pos 1)) -ℤ ct) ≤ℤ ((pos base -ℤ pos 1) +ℤ (qm -ℤ cm))
    step base qm t cm ct om ot dm dt a b c d le = omega (arith, ints)
walk_by false base c qm qp t none from qm_from least most = step base (c *ℤ t) qp t (mulz_from c t from (along qm t qm_from least)) most
  where
    along : (a b : ℤ) → pos 0 ≤ℤ a → a ≤ℤ b → pos 0 ≤ℤ b
    along a b h k = omega (arith, ints)

    step : (base : ℕ) (ct qp t : ℤ) → pos 0 ≤ℤ ct → t ≤ℤ qp → ((pos base +ℤ (t -ℤ pos 1)) -ℤ ct) ≤ℤ ((pos base -ℤ pos 1) +ℤ qp)
    step base ct qp t a b = omega (arith, ints)

from_one : (a : ℤ) → pos 1 ≤ℤ a → pos 0 ≤ℤ a
from_one a le = omega (arith, ints)

pub walk_is_bounded : WalkIsBounded
walk_is_bounded p flutter sane micro least most =
    let s = signed_of p sane in
    walk_by (int_lt (pos 0) p.damping) (flutter + cycle_change p + wide_change p) p.damping (pos (shortest_micro p)) (pos (longest_micro p)) micro refl s.c_from (from_one (pos (shortest_micro p)) s.qm_from) least most

nat_le-yes : (a b : ℕ) → a ≤ b → nat_le a b ≡ true
nat_le-yes a b le = grind (arith, nat_tests)

nat_lt-yes : (a b : ℕ) → a < b → nat_lt a b ≡ true
nat_lt-yes a b less = grind (arith, nat_tests)

nat_lt-true : (a b : ℕ) → nat_lt a b ≡ true → a < b
nat_lt-true a b h = grind (arith, nat_tests)

stops_by : (b : Bool) (c : ℤ) (cqm qm q f j w : ℕ) → int_lt (pos 0) c ≡ b → pos 0 ≤ℤ c → pos cqm ≡ c *ℤ pos qm → 2 ≤ qm → 2 ≤ q
    → (nat_le (qm + f + j + w) (cqm + 1) ≡ true) ↔ (((pos (f + j + w) -ℤ pos 1) +ℤ (if b then pos qm -ℤ (c *ℤ pos qm) else pos q)) ≤ℤ pos 0)
stops_by true c cqm qm q f j w some from is least most =
    (λ holds. forth (nat_le-true (qm + f + j + w) (cqm + 1) holds), λ le. nat_le-yes (qm + f + j + w) (cqm + 1) (back le))
  where
    forth : qm + f + j + w ≤ cqm + 1 → ((pos (f + j + w) -ℤ pos 1) +ℤ (pos qm -ℤ (c *ℤ pos qm))) ≤ℤ pos 0
    forth le = omega (arith, ints, le, is)

    back : ((pos (f + j + w) -ℤ pos 1) +ℤ (pos qm -ℤ (c *ℤ pos qm))) ≤ℤ pos 0 → qm + f + j + w ≤ cqm + 1
    back le = omega (arith, ints, le, is)
stops_by false c cqm qm q f j w none from is least most =
    (λ holds. absurd (forth (nat_le-true (qm + f + j + w) (cqm + 1) holds)), λ le. absurd (back le))
  where
    nothing : c ≡ pos 0
    nothing = omega (arith, ints, none, from)

    no_product : c *ℤ pos qm ≡ pos 0
    no_product = ap (λ x. x *ℤ pos qm) nothing ∙ of_nothing (pos qm)
      where
        of_nothing : (t : ℤ) → pos 0 *ℤ t ≡ pos 0
        of_nothing t = omega (arith, ints)

    forth : qm + f + j + w ≤ cqm + 1 → ⊥
    forth le = let zero : c *ℤ pos qm ≡ pos 0 = no_product in omega (arith, ints, le, is, zero, least)

    back : ((pos (f + j + w) -ℤ pos 1) +ℤ pos q) ≤ℤ pos 0 → ⊥
    back le = omega (arith, ints, le, most)

-- both microticks last
micros_last : (p : Values) → IsSane p → (2 ≤ shortest_micro p) × (2 ≤ longest_micro p)
micros_last p sane =
    let drift = sane.ranges name.xRateBound in
    let most : amount p name.xRateBound ≤ 1500 = omega (arith, ints, drift.0, drift.1) in
    (omega (arith, most), omega arith)

pub first_check_stops_walk : FirstCheckStopsWalk
first_check_stops_walk p flutter reach sane =
    let s = signed_of p sane in
    let micros = micros_last p sane in
    stops_by (int_lt (pos 0) p.damping) p.damping (amount p name.pClusterDriftDamping * shortest_micro p) (shortest_micro p) (longest_micro p) flutter (cycle_change p) (wide_change p) refl s.c_from
    (times_natural p.damping (shortest_micro p) s.c_from) micros.0 micros.1

-- the rate limit suffices for ever where lengths do not walk
pub still_suffices : (p : Values) (flutter : ℕ) → holds_of 2 p ≡ true → rate_walk p flutter ≤ℤ pos 0 → RateSuffices p (pos 0 +ℤ rate_walk p flutter)
still_suffices p flutter second still = step (right_of 2 p) (left_of 2 p) (rate_walk p flutter) (nat_le-true (right_of 2 p) (left_of 2 p) second) still
  where
    step : (a b : ℕ) (w : ℤ) → a ≤ b → w ≤ℤ pos 0 → (pos a +ℤ (pos 0 +ℤ w)) ≤ℤ pos b
    step a b w le still = omega (arith, ints, le, still)

-- else in each double cycle before the walk has used up its room
suffices_by : (walk : ℤ) (room lasts passed need limit : ℕ) → int_le walk (pos 0) ≡ false → room / nat_abs walk ≡ lasts → passed < lasts → room ≡ limit - need → need ≤ limit
    → (pos need +ℤ ((pos passed *ℤ walk) +ℤ walk)) ≤ℤ pos limit
suffices_by walk room lasts passed need limit is same before room_is fits =
    let k = nat_abs walk in
    let whole : room / k * k + room % k ≡ room = div-add-mod' room k in
    let most : lasts * k ≤ room = up_to (room / k) lasts k (room % k) room same whole in
    let fewer : (passed + 1) * k ≤ lasts * k = mul-le-mul_right k (next passed lasts before) in
    let apart = one_more passed k in
    let walk_is : walk ≡ pos k = natural walk (positive walk is) in
    let product : pos passed *ℤ walk ≡ pos (passed * k) = ap (λ x. pos passed *ℤ x) walk_is in
    sum (passed * k) ((passed + 1) * k) (lasts * k) k room need limit walk (pos passed *ℤ walk) product walk_is apart fewer most room_is fits
  where
    up_to : (d lasts k r room : ℕ) → d ≡ lasts → d * k + r ≡ room → lasts * k ≤ room
    up_to d lasts k r room same whole = let turned : d * k ≡ lasts * k = ap (λ (n : ℕ). n * k) same in omega (arith, turned, whole)

    next : (a b : ℕ) → a < b → a + 1 ≤ b
    next a b less = omega (arith, less)

    positive : (w : ℤ) → int_le w (pos 0) ≡ false → pos 0 ≤ℤ w
    positive w is = omega (arith, ints, is)

    sum : (pk qk lk k room need limit : ℕ) (walk product : ℤ) → product ≡ pos pk → walk ≡ pos k → qk ≡ pk + k → qk ≤ lk → lk ≤ room → room ≡ limit - need → need ≤ limit → (pos need +ℤ (product +ℤ walk)) ≤ℤ pos limit
    sum pk qk lk k room need limit walk product a b c d e f g = omega (arith, ints)

-- the numbers of a double cycle, and of the one after it
abbrev Held : Values → ℕ → ℕ → Bool → Type 0
Held p flutter passed stops =
    CanWalk p flutter (if stops then pos 0 else pos passed *ℤ rate_walk p flutter) (rate_walk p flutter)
    × (pos 0 ≤ℤ (if stops then pos 0 else pos (passed + 1) *ℤ rate_walk p flutter))
    × (((if stops then pos 0 else pos passed *ℤ rate_walk p flutter) +ℤ rate_walk p flutter) ≤ℤ (if stops then pos 0 else pos (passed + 1) *ℤ rate_walk p flutter))

held_by : (p : Values) (flutter passed : ℕ) (stops : Bool) → IsSane p → holds_of 2 p ≡ true → int_le (rate_walk p flutter) (pos 0) ≡ stops
    → IfSome (if stops then None else Some (rate_room p / nat_abs (rate_walk p flutter))) (λ lasts. passed < lasts) → Held p flutter passed stops
held_by p flutter passed true sane second is before =
    let still = at_most (rate_walk p flutter) is in
    (record { bounds = walk_is_bounded p flutter sane; suffices = still_suffices p flutter second still }, nothing, none (rate_walk p flutter) still)
  where
    at_most : (w : ℤ) → int_le w (pos 0) ≡ true → w ≤ℤ pos 0
    at_most w is = omega (arith, ints, is)

    nothing : pos 0 ≤ℤ pos 0
    nothing = omega (arith, ints)

    none : (w : ℤ) → w ≤ℤ pos 0 → (pos 0 +ℤ w) ≤ℤ pos 0
    none w le = omega (arith, ints, le)
held_by p flutter passed false sane second is before =
    let walk = rate_walk p flutter in
    let more : pos (passed + 1) *ℤ walk ≡ (pos passed *ℤ walk) +ℤ walk = addz-mulz (pos passed) (pos 1) walk ∙ ap (λ x. (pos passed *ℤ walk) +ℤ x) (once walk) in (
      record {
        bounds = walk_is_bounded p flutter sane;
        suffices =
            suffices_by walk (rate_room p) (rate_room p / nat_abs walk) passed (right_of 2 p) (left_of 2 p) is refl before refl (nat_le-true (right_of 2 p) (left_of 2 p) second);
      },
      mulz_from (pos (passed + 1)) walk (no_less (passed + 1)) (above walk is),
      same (pos passed *ℤ walk) walk (pos (passed + 1) *ℤ walk) more,
    )
  where
    once : (t : ℤ) → pos 1 *ℤ t ≡ t
    once t = omega (arith, ints)

    no_less : (n : ℕ) → pos 0 ≤ℤ pos n
    no_less n = omega (arith, ints)

    above : (w : ℤ) → int_le w (pos 0) ≡ false → pos 0 ≤ℤ w
    above w is = omega (arith, ints, is)

    same : (a w b : ℤ) → b ≡ a +ℤ w → (a +ℤ w) ≤ℤ b
    same a w b is = omega (arith, ints, is)

pub walk_is_held : WalkIsHeld
walk_is_held p flutter passed sane second before =
    let next : passed + 1 ≡ suc passed = omega arith in
    let At : ℕ → Type 0 = λ n.
    CanWalk p flutter (walked_after p flutter passed) (rate_walk p flutter) × (pos 0 ≤ℤ walked_after p flutter n)
    × ((walked_after p flutter passed +ℤ rate_walk p flutter) ≤ℤ walked_after p flutter n) in
    subst At next (held_by p flutter passed (int_le (rate_walk p flutter) (pos 0)) sane second refl before)

-- none has passed in the first double cycle
pub walked_none : (p : Values) (flutter : ℕ) → walked_after p flutter 0 ≡ pos 0
walked_none p flutter = by_test (int_le (rate_walk p flutter) (pos 0)) (rate_walk p flutter)
  where
    by_test : (b : Bool) (w : ℤ) → (if b then pos 0 else pos 0 *ℤ w) ≡ pos 0
    by_test true w = refl
    by_test false w = omega (arith, ints)

-- ---- the checks

pub third_check_suffices : (p : Values) (flutter reach : ℕ) → sharp_holds_of 3 flutter reach p ≡ true → LimitSuffices p (pos reach)
third_check_suffices p flutter reach holds =
    limit reach (arrival_error p) (longest_micro p) (left_of 3 p) (nat_le-true (reach + arrival_error p + longest_micro p) (left_of 3 p) holds)
  where
    limit : (k e q left : ℕ) → k + e + q ≤ left → (pos k +ℤ pos e +ℤ pos q) ≤ℤ pos left
    limit k e q left le = omega (arith, ints)

pub sharp_checks_suffice_lem : SharpChecksSuffice
sharp_checks_suffice_lem p flutter reach sane checks =
    let macros = sane.ranges name.gMacroPerCycle in
    let from : pos 0 ≤ℤ p.macros = omega (arith, ints, macros.0) in
    let near = reach + amount p name.xDelayError in
    let far = reach + widest p * nominal + amount p name.xDelayError in
    let fourth = nat_le-true (front_need_of p reach) (left_of 4 p) (checks 4 (omega arith) (omega arith)) in
    let fifth = nat_lt-true (back_need_of p reach) (left_of 5 p) (checks 5 (omega arith) (omega arith)) in (
      third_check_suffices p flutter reach (checks 3 (omega arith) (omega arith)),
      record {
        before = at_most (front_need_of p reach) (left_of 4 p) (p.macros *ℤ pos near) (times_natural p.macros near from) fourth;
        after = less (back_need_of p reach) (left_of 5 p) (p.macros *ℤ pos far) (times_natural p.macros far from) fifth;
      },
    )
  where
    at_most : (a b : ℕ) (x : ℤ) → pos a ≡ x → a ≤ b → x ≤ℤ pos b
    at_most a b x e le = omega (arith, ints)

    less : (a b : ℕ) (x : ℤ) → pos a ≡ x → a < b → x <ℤ pos b
    less a b x e le = omega (arith, ints)

near_to : (beside : Bool) (p : Values) (flutter : ℕ) → IsSane p → flutter ≤ 2 * arrival_error p → sharp_near beside p flutter ≤ precision_of p
near_to beside p flutter sane le =
    chain (sharp_near beside p flutter) (sharp_precision beside p flutter) (precision_of p) (near_is_below p (sharp_pi beside p flutter) (sharp_lambda beside p flutter) sane) (sharp_is_below beside p flutter sane le).2
  where
    chain : (a b c : ℕ) → a ≤ b → b ≤ c → a ≤ c
    chain a b c h k = omega (arith, h, k)

older_first : (f q m w j e cqm : ℕ) → f ≤ 2 * e → w ≤ 2 * j → m ≤ q → (2 * e + 2 * q + 3 * j) + 2 * j ≤ cqm → m + f + j + w ≤ cqm + 1
older_first f q m w j e cqm a b c d = omega arith

sides : (a b c left : ℕ) → a ≤ b → b + c ≤ left → a + c ≤ left
sides a b c left h k = omega arith

pub older_checks_suffice : OlderChecksSuffice
older_checks_suffice beside p flutter zero sane le from to holds = absurd (omega (arith, from))
older_checks_suffice beside p flutter (suc zero) sane le from to holds =
    nat_le-yes (shortest_micro p + flutter + cycle_change p + wide_change p) (amount p name.pClusterDriftDamping * shortest_micro p + 1)
    (
    older_first flutter (longest_micro p) (shortest_micro p) (wide_change p) (cycle_change p) (arrival_error p) (amount p name.pClusterDriftDamping * shortest_micro p) le (wide_le p sane) (order (amount p name.xRateBound))
    (nat_le-true (right_of 1 p) (left_of 1 p) holds)
    )
  where
    order : (d : ℕ) → 1_000_000 - d ≤ 1_000_000 + d
    order d = omega arith
older_checks_suffice beside p flutter (suc (suc zero)) sane le from to holds = holds
older_checks_suffice beside p flutter (suc (suc (suc zero))) sane le from to holds =
    nat_le-yes (sharp_near beside p flutter + arrival_error p + longest_micro p) (left_of 3 p)
    (step (sharp_near beside p flutter) (precision_of p) (arrival_error p) (longest_micro p) (left_of 3 p) (near_to beside p flutter sane le) (nat_le-true (right_of 3 p) (left_of 3 p) holds))
  where
    step : (a b e q left : ℕ) → a ≤ b → b + e + q ≤ left → a + e + q ≤ left
    step a b e q left h k = omega arith
older_checks_suffice beside p flutter (suc (suc (suc (suc zero)))) sane le from to holds =
    let macros = amount p name.gMacroPerCycle in
    let near = near_to beside p flutter sane le in
    let less : front_need_of p (sharp_near beside p flutter) ≤ front_need_of p (precision_of p) =
    mul-le-mul_left macros (more (sharp_near beside p flutter) (precision_of p) (amount p name.xDelayError) near) in
    nat_le-yes (front_need_of p (sharp_near beside p flutter)) (left_of 4 p)
    (chain (front_need_of p (sharp_near beside p flutter)) (front_need_of p (precision_of p)) (left_of 4 p) less (nat_le-true (right_of 4 p) (left_of 4 p) holds))
  where
    more : (a b c : ℕ) → a ≤ b → a + c ≤ b + c
    more a b c h = omega arith

    chain : (a b c : ℕ) → a ≤ b → b ≤ c → a ≤ c
    chain a b c h k = omega arith
older_checks_suffice beside p flutter (suc (suc (suc (suc (suc zero))))) sane le from to holds =
    let macros = amount p name.gMacroPerCycle in
    let near = near_to beside p flutter sane le in
    let less : back_need_of p (sharp_near beside p flutter) ≤ back_need_of p (precision_of p) =
    mul-le-mul_left macros (more (sharp_near beside p flutter) (precision_of p) (widest p * nominal) (amount p name.xDelayError) near) in
    nat_lt-yes (back_need_of p (sharp_near beside p flutter)) (left_of 5 p)
    (chain (back_need_of p (sharp_near beside p flutter)) (back_need_of p (precision_of p)) (left_of 5 p) less (nat_lt-true (right_of 5 p) (left_of 5 p) holds))
  where
    more : (a b c d : ℕ) → a ≤ b → a + c + d ≤ b + c + d
    more a b c d h = omega arith

    chain : (a b c : ℕ) → a ≤ b → b < c → a < c
    chain a b c h k = omega arith
older_checks_suffice beside p flutter (suc (suc (suc (suc (suc (suc k)))))) sane le from to holds = absurd (omega (arith, to))

-- ---- the reach of a double cycle

pub floor_is : (a o : ℕ) (m : ℤ) → pos 0 ≤ℤ m → floor_of (pos a *ℤ pos o) m ≡ pos (a * o / nat_abs m)
floor_is a o (pos m) from = refl
floor_is a o (negsuc m) from = absurd (omega (arith, ints))

pub sharp_checks_reach : SharpChecksReach
sharp_checks_reach p flutter starts lengths beyond walk sane checks can =
    let macros = sane.ranges name.gMacroPerCycle in
    record {
      sane = sane;
      walks = can;
      suffices = (sharp_checks_suffice_lem p flutter (near_by p starts lengths) sane checks).0;
      early = (key_slots_act_early p sane).1;
      fits =
          step starts lengths (last_action p * odd_spread p lengths / amount p name.gMacroPerCycle) (longest_micro p) (floor_of (pos (last_action p) *ℤ pos (odd_spread p lengths)) p.macros)
          (floor_is (last_action p) (odd_spread p lengths) p.macros (omega (arith, ints, macros.0)));
    }
  where
    step : (s l f q : ℕ) (x : ℤ) → x ≡ pos f → (pos s +ℤ pos l +ℤ x +ℤ pos q) ≤ℤ pos (s + l + f + q)
    step s l f q x is = omega (arith, ints)
