-- For how many double cycles the rate limit holds the walk and suffices for first rates.
use Rattle.std.proofs.Common.{◌≡◌, ℕ, suc, ◌+◌, ◌-◌, ◌*◌, ◌/◌, ◌<◌, ◌≤◌, Bool, true, false, if◌then◌else◌, ℤ, pos, Some, None, IfSome, refl, ap, subst, sym, arith}
use Rattle.std.specs.Prelude.{◌+ℤ◌, ◌*ℤ◌, ◌≤ℤ◌, ◌↔◌, int_le, min, nat_abs, nat_le}
use Rattle.std.proofs.lemmas.Bool.Decides.{nat_tests}
use Rattle.std.proofs.lemmas.Int.{ints}
use Rattle.std.proofs.lemmas.Nat.{le-div}
use Rattle.std.proofs.Math.Nat.{div-mul-le_self, le-min, min-le_left, min-le_right, mul-le-mul_right}
use Rattle.fr_bound.specs.Checks.{left_of, right_of}
use Rattle.fr_precision.proofs.Figures.{natural, nat_le-true}
use Rattle.fr_promise.specs.JoinedHistories.{FirstRatesLastSo}
use Rattle.fr_bound.specs.SharpBounds.{rate_room, rate_walk}
use Rattle.fr_promise.specs.SharpJoining.{counted_error}

-- ---- where lengths walk by so many ticks

module _ (room error passed step need limit : ℕ) (walks : 0 < step) (room_is : room ≡ limit - need) (holds : need + error ≤ limit) where
  fewer : (a : ℕ) → need + (a + error) ≤ limit → a ≤ room - error
  fewer a le = omega (arith, room_is, holds, le)

  more : (a : ℕ) → a ≤ room - error → need + (a + error) ≤ limit
  more a le = omega (arith, room_is, holds, le)

  below : (n : ℕ) → passed ≤ n → suc passed ≤ n + 1
  below n le = omega (arith, le)

  above : (n : ℕ) → suc passed ≤ n + 1 → passed ≤ n
  above n le = omega (arith, le)

  natural_sum : (a : ℕ) → (pos need +ℤ (pos a +ℤ pos error)) ≤ℤ pos limit → need + (a + error) ≤ limit
  natural_sum a le = omega (arith, ints, le)

  signed_sum : (a : ℕ) → need + (a + error) ≤ limit → (pos need +ℤ (pos a +ℤ pos error)) ≤ℤ pos limit
  signed_sum a le = omega (arith, ints, le)

  up : (n : ℕ) → passed ≤ n / step → passed * step ≤ n
  up n le = let first = mul-le-mul_right step le in let second = div-mul-le_self n step in omega (arith, first, second)

  both : ((passed < room / step) × ((pos need +ℤ ((pos passed *ℤ pos step) +ℤ pos error)) ≤ℤ pos limit)) ↔ (passed < min (room / step) ((room - error) / step + 1))
  both = (
    λ is. le-min is.0 (below ((room - error) / step) (le-div passed (room - error) step walks (fewer (passed * step) (natural_sum (passed * step) is.1)))),
    λ less.
        let one = min-le_left (room / step) ((room - error) / step + 1) in
        let other = min-le_right (room / step) ((room - error) / step + 1) in
        let last = above ((room - error) / step) (trans less other) in
        (trans less one, signed_sum (passed * step) (more (passed * step) (up (room - error) last))),
  )
    where
      trans : {a b c : ℕ} → a ≤ b → b ≤ c → a ≤ c
      trans {a} {b} {c} one other = omega (arith, one, other)

-- ---- by whether lengths walk, and whether the sixth check holds

so_by : (need limit error room passed : ℕ) (walk : ℤ) (stops held : Bool) → room ≡ limit - need → int_le walk (pos 0) ≡ stops → nat_le (need + error) limit ≡ held
    → (
    IfSome (if stops then None else Some (room / nat_abs walk)) (λ lasts. passed < lasts)
    × ((pos need +ℤ ((if stops then pos 0 else pos passed *ℤ walk) +ℤ pos error)) ≤ℤ pos limit)
    )
    ↔ IfSome (if held then (if stops then None else Some (min (room / nat_abs walk) ((room - error) / nat_abs walk + 1))) else Some 0) (λ lasts. passed < lasts)
so_by need limit error room passed walk true true room_is stops held =
    let holds = nat_le-true (need + error) limit held in
    (λ is. tt, λ is. (tt, omega (arith, ints, holds)))
so_by need limit error room passed walk true false room_is stops held =
    let fails = not_below (need + error) limit held in
    (λ is. let le = is.1 in absurd (omega (arith, ints, fails, le)), λ is. absurd (omega (arith, is)))
  where
    not_below : (a b : ℕ) → nat_le a b ≡ false → b < a
    not_below a b is = grind (arith, nat_tests)
so_by need limit error room passed walk false true room_is stops held =
    let step = nat_abs walk in
    let walk_is : walk ≡ pos step = natural walk (positive walk stops) in
    let Both : ℤ → Type 0 = λ w.
    ((passed < room / step) × ((pos need +ℤ ((pos passed *ℤ w) +ℤ pos error)) ≤ℤ pos limit)) ↔ (passed < min (room / step) ((room - error) / step + 1)) in
    subst Both (sym walk_is) (both room error passed step need limit (walks walk stops) room_is (nat_le-true (need + error) limit held))
  where
    positive : (w : ℤ) → int_le w (pos 0) ≡ false → pos 0 ≤ℤ w
    positive w is = omega (arith, ints, is)

    walks : (w : ℤ) → int_le w (pos 0) ≡ false → 0 < nat_abs w
    walks w is = omega (arith, ints, is)
so_by need limit error room passed walk false false room_is stops held =
    let fails = not_below (need + error) limit held in
    let step = nat_abs walk in
    let walk_is : walk ≡ pos step = natural walk (positive walk stops) in
    let product : pos passed *ℤ walk ≡ pos (passed * step) = ap (λ x. pos passed *ℤ x) walk_is in
    (λ is. absurd (too_much (passed * step) (pos passed *ℤ walk) product fails is.1), λ is. absurd (omega (arith, is)))
  where
    not_below : (a b : ℕ) → nat_le a b ≡ false → b < a
    not_below a b is = grind (arith, nat_tests)

    positive : (w : ℤ) → int_le w (pos 0) ≡ false → pos 0 ≤ℤ w
    positive w is = omega (arith, ints, is)

    too_much : (a : ℕ) (z : ℤ) → z ≡ pos a → limit < need + error → (pos need +ℤ (z +ℤ pos error)) ≤ℤ pos limit → ⊥
    too_much a z is fails le = omega (arith, ints, is, fails, le)

pub first_rates_last_so : FirstRatesLastSo
first_rates_last_so p flutter passed =
    so_by (right_of 2 p) (left_of 2 p) (counted_error p flutter) (rate_room p) passed (rate_walk p flutter) (int_le (rate_walk p flutter) (pos 0)) (nat_le (right_of 2 p + counted_error p flutter) (left_of 2 p)) refl refl refl
