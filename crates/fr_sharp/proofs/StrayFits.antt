-- Whether the rate limit suffices for how far lengths walk and stray, by one number.
use Rattle.std.proofs.Common.{◌≡◌, ℕ, suc, ◌+◌, ◌-◌, ◌*◌, ◌≤◌, Bool, true, false, not, ℤ, pos, Option, Some, None, IfSome, refl, ap, sym, add-one, ◌∙◌, subst, arith}
use Rattle.std.specs.Prelude.{◌+ℤ◌, ◌*ℤ◌, ◌≤ℤ◌, ◌/◌, ◌%◌, ◌↔◌, int_le, min, nat_abs, nat_le, if◌then◌else◌}
use Rattle.std.specs.Option.{option_map_or}
use Rattle.std.proofs.lemmas.Bool.Decides.{nat_tests}
use Rattle.std.proofs.lemmas.Int.{ints}
use Rattle.std.proofs.Math.Nat.{div-add-mod', min-le_left, min-le_right, mul-le-mul_right}
use Rattle.fr_cluster.specs.Values.{Values}
use Rattle.fr_bound.specs.Bounds.{cycle_change}
use Rattle.fr_bound.specs.Checks.{left_of, right_of}
use Rattle.fr_bound.specs.SharpBounds.{rate_room, rate_walk}
use Rattle.fr_bound.specs.SharpChecks.{RateSuffices}
use Rattle.fr_precision.specs.Lengths.{strayed_after, walk_back, walk_on, walked_after}
use Rattle.fr_precision.proofs.Figures.{nat_le-true}
use Rattle.fr_promise.proofs.StrayLemmas.{none_strays}
use Rattle.fr_sharp.specs.LossRuns.{walked_at_most, StrayFitsIsTold}
use Rattle.fr_sharp.specs.LossStatement.{LimitFollows}
use Rattle.fr_traffic.specs.Traffic.{none_lacks, some_keep, traffic_in}

-- of a walk that stops, or does not
abbrev Lasts : ℤ → Bool → ℕ → Option ℕ
Lasts walk stops room = if stops then None else Some (room / nat_abs walk)

abbrev AtMost : ℤ → Bool → ℕ → ℕ → ℕ
AtMost walk stops room most = option_map_or (λ lasts. min lasts most * (if stops then 0 else nat_abs walk)) (Lasts walk stops room) 0

abbrev Suffices : ℤ → Bool → ℕ → ℕ → ℕ → ℕ → ℕ → Type 0
Suffices walk stops need limit room most strayed =
    (passed : ℕ) → passed ≤ most → IfSome (Lasts walk stops room) (λ lasts. passed ≤ lasts) → (pos need +ℤ ((if stops then pos 0 else pos passed *ℤ walk) +ℤ pos strayed)) ≤ℤ pos limit

nat_le-yes : (a b : ℕ) → a ≤ b → nat_le a b ≡ true
nat_le-yes a b le = grind (arith, nat_tests)

natural_walk : (walk : ℤ) → int_le walk (pos 0) ≡ false → walk ≡ pos (nat_abs walk)
natural_walk walk is = grind (arith, ints)

told_by : (walk : ℤ) (stops : Bool) (need limit room most strayed : ℕ) → int_le walk (pos 0) ≡ stops → need ≤ limit → room ≡ limit - need
    → (nat_le (AtMost walk stops room most + strayed) room ≡ true) ↔ Suffices walk stops need limit room most strayed
told_by walk true need limit room most strayed is second room_is = (
  λ fits passed few lasts. let le : 0 + strayed ≤ room = nat_le-true (0 + strayed) room fits in omega (arith, ints, le, second, room_is),
  λ each. let le = each 0 (omega arith) tt in nat_le-yes (0 + strayed) room (omega (arith, ints, le, second, room_is)),
)
told_by walk false need limit room most strayed is second room_is =
    let k = nat_abs walk in
    let lasts = room / k in
    let m = min lasts most in
    let product : (n : ℕ) → pos n *ℤ walk ≡ pos (n * k) = λ n. ap (λ x. pos n *ℤ x) (natural_walk walk is) in (
      λ fits passed few before.
          let le : m * k + strayed ≤ room = nat_le-true (m * k + strayed) room fits in
          let fewer : passed * k ≤ m * k = mul-le-mul_right k (both passed lasts most before few) in
          sum (passed * k) (m * k) (pos passed *ℤ walk) (product passed) fewer le,
      λ each.
          let le = each m (min-le_right lasts most) (min-le_left lasts most) in
          nat_le-yes (m * k + strayed) room (back (m * k) (pos m *ℤ walk) (product m) le),
    )
  where
    both : (a b c : ℕ) → a ≤ b → a ≤ c → a ≤ min b c
    both a b c one other = grind arith

    sum : (a b : ℕ) (x : ℤ) → x ≡ pos a → a ≤ b → b + strayed ≤ room → (pos need +ℤ (x +ℤ pos strayed)) ≤ℤ pos limit
    sum a b x e fewer le = omega (arith, ints, e, fewer, le, second, room_is)

    back : (a : ℕ) (x : ℤ) → x ≡ pos a → (pos need +ℤ (x +ℤ pos strayed)) ≤ℤ pos limit → a + strayed ≤ room
    back a x e le = omega (arith, ints, e, le, second, room_is)

pub stray_fits_is_told : StrayFitsIsTold
stray_fits_is_told p flutter most strayed second =
    told_by (rate_walk p flutter) (int_le (rate_walk p flutter) (pos 0)) (right_of 2 p) (left_of 2 p) (rate_room p) most strayed refl (nat_le-true (right_of 2 p) (left_of 2 p) second) refl

-- ---- where none strays

walk_in_room : (walk : ℤ) (stops : Bool) (room most : ℕ) → AtMost walk stops room most + 0 ≤ room
walk_in_room walk true room most = omega arith
walk_in_room walk false room most =
    let k = nat_abs walk in
    let whole : room / k * k + room % k ≡ room = div-add-mod' room k in
    let fewer : min (room / k) most * k ≤ room / k * k = mul-le-mul_right k (min-le_left (room / k) most) in
    omega (arith, whole, fewer)

pub limit_follows : LimitFollows
limit_follows p s from flutter double passed second still before =
    let keeps : ℕ → Bool = λ m. some_keep (traffic_in p s) (from + m) in
    let none : strayed_after p flutter keeps (suc double - from) ≡ 0 =
    none_strays p flutter keeps (suc double - from)
    (λ k less keeps_it. still (from + k) (omega arith) (omega (arith, less)) (lacks (none_lacks (traffic_in p s) (from + k)) keeps_it)) in
    let Fits : ℕ → Type 0 = λ n. RateSuffices p (walked_after p flutter passed +ℤ pos n) in
    let fits = nat_le-yes (walked_at_most p flutter passed + 0) (rate_room p) (walk_in_room (rate_walk p flutter) (int_le (rate_walk p flutter) (pos 0)) (rate_room p) passed) in
    subst Fits (sym none) ((stray_fits_is_told p flutter passed 0 second).0 fits passed (omega arith) before)
  where
    lacks : (none : Bool) → not none ≡ true → none ≡ false
    lacks false is = refl
    lacks true is = absurd (cc)

-- ---- one double cycle more

next_by : (p : Values) (flutter : ℕ) (keeps : ℕ → Bool) (n : ℕ)
    → (if keeps n then strayed_after p flutter keeps n + (2 * cycle_change p - walk_on p flutter) else strayed_after p flutter keeps n - walk_back p flutter) ≡ strayed_after p flutter keeps (suc n)
unfolding strayed_after
next_by p flutter keeps n = refl

pub stray_on : (p : Values) (flutter : ℕ) (keeps : ℕ → Bool) (n : ℕ) (keep : Bool) (now next : ℕ) → keep ≡ keeps n → now ≡ strayed_after p flutter keeps n
    → next ≡ (if keep then now + (2 * cycle_change p - walk_on p flutter) else now - walk_back p flutter) → next ≡ strayed_after p flutter keeps (n + 1)
stray_on p flutter keeps n keep now next same is goes =
    let By : Bool → ℕ → ℕ = λ b s. if b then s + (2 * cycle_change p - walk_on p flutter) else s - walk_back p flutter in
    goes ∙ ap (λ (b : Bool). By b now) same ∙ ap (By (keeps n)) is ∙ next_by p flutter keeps n ∙ ap (strayed_after p flutter keeps) (sym (add-one n))
