-- The macroticks at which a node sends its startup frames.
use Rattle.std.proofs.Common.{◌≡◌, ℕ, zero, suc, ◌+◌, ◌-◌, ◌*◌, ◌/◌, ◌%◌, ◌<◌, ◌≤◌, Bool, true, false, refl, sym, ◌∙◌, arith}
use Rattle.std.specs.Prelude.{nat_lt}
use Rattle.std.proofs.lemmas.Bool.Decides.{nat_tests}
use Rattle.std.proofs.Math.Nat.{add-mul-mod_self_left, mul-mod_right}
use Rattle.fr_cold.specs.Node.{is_turn}

-- by whole cycles after the first
pub turn-at : (first cycle n : ℕ) → is_turn first cycle (first + cycle * n) ≡ true
turn-at first cycle n =
    let after : nat_lt (first + cycle * n) first ≡ false = grind (arith, nat_tests) in
    let past : (first + cycle * n) - first ≡ cycle * n = omega arith in
    rw (after, past, mul-mod_right cycle n) refl

-- none before the first
pub turn-before : (first cycle t : ℕ) → t < first → is_turn first cycle t ≡ false
turn-before first cycle t early = let before : nat_lt t first ≡ true = grind (arith, nat_tests) in rw before refl

-- the first itself
pub turn-first : (first cycle : ℕ) → is_turn first cycle first ≡ true
turn-first first cycle = let same : first + cycle * 0 ≡ first = omega arith in rw same at (turn-at first cycle 0)

-- a turn is not before the first, and within a cycle of it only the first is one
pub turn-from : (first cycle t : ℕ) → is_turn first cycle t ≡ true → first ≤ t
turn-from first cycle t e = grind (arith, nat_tests)

pub turn-only : (first cycle t : ℕ) → is_turn first cycle t ≡ true → t < first + cycle → t ≡ first
turn-only first cycle t e near =
    let from = turn-from first cycle t e in
    let zero : (t - first) % cycle ≡ 0 = grind (arith, nat_tests) in
    let whole : cycle * ((t - first) / cycle) + (t - first) % cycle ≡ t - first = omega arith in
    by ((t - first) / cycle) whole zero from
  where
    by : (q : ℕ) → cycle * q + (t - first) % cycle ≡ t - first → (t - first) % cycle ≡ 0 → first ≤ t → t ≡ first
    by zero whole none from = omega arith
    by (suc q) whole none from =
        let more : cycle * suc q ≡ cycle * q + cycle = omega arith in
        absurd (omega arith)

-- the turns after one are those by whole cycles after it
turn-shift : (first cycle n t : ℕ) → first + cycle * n ≤ t → is_turn first cycle t ≡ is_turn (first + cycle * n) cycle t
turn-shift first cycle n t from =
    let a : nat_lt t first ≡ false = grind (arith, nat_tests) in
    let b : nat_lt t (first + cycle * n) ≡ false = grind (arith, nat_tests) in
    let far : t - first ≡ (t - (first + cycle * n)) + cycle * n = omega arith in
    rw (a, b, far, add-mul-mod_self_left (t - (first + cycle * n)) cycle n) refl

-- between two turns there is none
pub turn-between : (first cycle n t : ℕ) → first + cycle * n < t → t < first + cycle * n + cycle → is_turn first cycle t ≡ false
turn-between first cycle n t low high = by (is_turn first cycle t) refl
  where
    by : (b : Bool) → is_turn first cycle t ≡ b → is_turn first cycle t ≡ false
    by false e = e
    by true e =
        let same : t ≡ first + cycle * n = turn-only (first + cycle * n) cycle t (sym (turn-shift first cycle n t (omega arith)) ∙ e) high in
        absurd (omega arith)

-- a turn in each cycle from the first on
pub record TurnBelow (first cycle limit : ℕ) : Type 0 where
  pub turn : ℕ
  pub from : first ≤ turn
  pub below : turn < limit
  pub late : limit ≤ turn + cycle
  pub is_turn : is_turn first cycle turn ≡ true

pub turn-below : (first cycle limit : ℕ) → 1 ≤ cycle → first < limit → TurnBelow first cycle limit
turn-below first cycle limit some past =
    let d = limit - 1 - first in
    let whole : cycle * (d / cycle) + d % cycle ≡ d = omega arith in
    let small : d % cycle < cycle = omega arith in
    record {
      turn = first + cycle * (d / cycle);
      from = omega arith;
      below = omega arith;
      late = omega arith;
      is_turn = turn-at first cycle (d / cycle);
    }
