-- Products of signed numbers.
use Rattle.std.proofs.Common.{◌≡◌, ℕ, ◌+◌, ◌*◌, ◌≤◌, ℤ, pos, negsuc, ap, sym, ◌∙◌, arith}
use Rattle.std.specs.Prelude.{◌+ℤ◌, ◌-ℤ◌, ◌*ℤ◌, ◌≤ℤ◌, ◌<ℤ◌, neg_ℤ}
use Rattle.std.proofs.lemmas.Int.{ints, by_lt_z}
use Rattle.std.proofs.Math.Nat.{mul-le-mul_right}
use Rattle.fr_base.specs.Within.{IsWithin}
use borrow.Author.Differences.{up, down, sum_is_lem, neg_is, le_out, product_is, same_in}

pub mulz_comm : (a b : ℤ) → a *ℤ b ≡ b *ℤ a
mulz_comm a b = omega (arith, ints)

pub addz-mulz : (a b t : ℤ) → (a +ℤ b) *ℤ t ≡ (a *ℤ t) +ℤ (b *ℤ t)
addz-mulz a b t =
    let sum = sum_is_lem a b in
    omega (arith, ints, ap (λ (n : ℕ). n * up t) sum, ap (λ (n : ℕ). n * down t) sum)

pub negz-mulz : (a t : ℤ) → neg_ℤ a *ℤ t ≡ neg_ℤ (a *ℤ t)
negz-mulz a t =
    let neg = neg_is a in
    omega (
      arith,
      ints,
      ap (λ (n : ℕ). n * up t) neg.0,
      ap (λ (n : ℕ). n * down t) neg.0,
      ap (λ (n : ℕ). n * up t) neg.1,
      ap (λ (n : ℕ). n * down t) neg.1,
    )

mulz-lez_natural : (a b : ℤ) (n : ℕ) → a ≤ℤ b → (a *ℤ pos n) ≤ℤ (b *ℤ pos n)
mulz-lez_natural a b n le =
    let more : (up a + down b) * n ≤ (up b + down a) * n = mul-le-mul_right n (le_out a b le) in omega (arith, ints, more)

-- a product with a number from 0 on keeps the order
pub mulz-lez : (a b t : ℤ) → a ≤ℤ b → pos 0 ≤ℤ t → (a *ℤ t) ≤ℤ (b *ℤ t)
mulz-lez a b (pos n) le from = mulz-lez_natural a b n le
mulz-lez a b (negsuc n) le from = absurd (omega (arith, ints))

pub subz-mulz : (a b t : ℤ) → (a -ℤ b) *ℤ t ≡ (a *ℤ t) -ℤ (b *ℤ t)
subz-mulz a b t = omega (arith, ints, addz-mulz a (neg_ℤ b) t, negz-mulz b t)

pub mulz_assoc : (a b c : ℤ) → (a *ℤ b) *ℤ c ≡ a *ℤ (b *ℤ c)
mulz_assoc a b c =
    let ab = product_is a b in
    let bc = product_is b c in
    let by = λ (k : ℕ) (m n : ℕ) (e : m ≡ n). ap (λ x. x * k) e in
    let left = product_is (a *ℤ b) c in
    let right = product_is a (b *ℤ c) in
    let ups : up ((a *ℤ b) *ℤ c) ≡ up (a *ℤ (b *ℤ c)) =
    omega (arith, by (up c) _ _ ab.0, by (down c) _ _ ab.1, by (up a) _ _ bc.0, by (down a) _ _ bc.1) in
    let downs : down ((a *ℤ b) *ℤ c) ≡ down (a *ℤ (b *ℤ c)) =
    omega (arith, by (down c) _ _ ab.0, by (up c) _ _ ab.1, by (down a) _ _ bc.0, by (up a) _ _ bc.1) in
    same_in _ _ (λ i. ups i + sym downs i)

-- a product with a number above 0 tells the order
pub lez_of_mulz-lez : (a b t : ℤ) → pos 0 <ℤ t → (a *ℤ t) ≤ℤ (b *ℤ t) → a ≤ℤ b
lez_of_mulz-lez a b t above le =
    by_lt_z
    b
    a
    (λ less.
    let next : ((b +ℤ pos 1) *ℤ t) ≤ℤ (a *ℤ t) = mulz-lez (b +ℤ pos 1) a t (omega (arith, ints)) (omega (arith, ints)) in
    let one : (b +ℤ pos 1) *ℤ t ≡ (b *ℤ t) +ℤ t = omega (arith, ints, addz-mulz b (pos 1) t) in
    absurd (over (b *ℤ t) (a *ℤ t) ((b +ℤ pos 1) *ℤ t) t above le next one))
    (λ h. h)
  where
    over : (b a next t : ℤ) → pos 0 <ℤ t → a ≤ℤ b → next ≤ℤ a → next ≡ b +ℤ t → ⊥
    over b a next t above le from is = omega (arith, ints)

pub mulz-lez_left : (a b t : ℤ) → a ≤ℤ b → pos 0 ≤ℤ t → (t *ℤ a) ≤ℤ (t *ℤ b)
mulz-lez_left a b t le from = omega (arith, ints, mulz-lez a b t le from, mulz_comm t a, mulz_comm t b)

pub mulz_from : (a b : ℤ) → pos 0 ≤ℤ a → pos 0 ≤ℤ b → pos 0 ≤ℤ (a *ℤ b)
mulz_from a b from also = omega (arith, ints, mulz-lez (pos 0) a b from also)

pub mulz-negz : (a t : ℤ) → a *ℤ neg_ℤ t ≡ neg_ℤ (a *ℤ t)
mulz-negz a t = mulz_comm a (neg_ℤ t) ∙ negz-mulz t a ∙ ap neg_ℤ (mulz_comm t a)

-- a product of a number from 0 to a bound with one within another bound
pub mulz_within : (a x most bound : ℤ) → pos 0 ≤ℤ a → a ≤ℤ most → IsWithin bound x → IsWithin (most *ℤ bound) (a *ℤ x)
mulz_within a x most bound from to near =
    let above : pos 0 ≤ℤ bound = omega (arith, ints, near.low, near.high) in
    let up : (a *ℤ x) ≤ℤ (a *ℤ bound) = mulz-lez_left x bound a near.high from in
    let down : (a *ℤ neg_ℤ bound) ≤ℤ (a *ℤ x) = mulz-lez_left (neg_ℤ bound) x a near.low from in
    let wide : (a *ℤ bound) ≤ℤ (most *ℤ bound) = mulz-lez a most bound to above in
    let turned : a *ℤ neg_ℤ bound ≡ neg_ℤ (a *ℤ bound) = mulz-negz a bound in
    both (a *ℤ x) (a *ℤ bound) (most *ℤ bound) (a *ℤ neg_ℤ bound) up down wide turned
  where
    both : (p q r s : ℤ) → p ≤ℤ q → s ≤ℤ p → q ≤ℤ r → s ≡ neg_ℤ q → IsWithin r p
    both p q r s a b c d = record { low = omega (arith, ints); high = omega (arith, ints) }

pub mulz-addz : (a b t : ℤ) → t *ℤ (a +ℤ b) ≡ (t *ℤ a) +ℤ (t *ℤ b)
mulz-addz a b t = omega (arith, ints, addz-mulz a b t, mulz_comm t (a +ℤ b), mulz_comm t a, mulz_comm t b)

pub mulz-subz : (a b t : ℤ) → t *ℤ (a -ℤ b) ≡ (t *ℤ a) -ℤ (t *ℤ b)
mulz-subz a b t = mulz-addz a (neg_ℤ b) t ∙ ap (λ x. (t *ℤ a) +ℤ x) (mulz-negz t b)
