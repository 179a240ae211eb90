-- The fourth constraint over naturals, and as it is stated over signed numbers.
use Rattle.std.proofs.Common.{◌≡◌, ℕ, ℤ, zero, suc, pos, ◌+◌, ◌-◌, ◌*◌, ◌<◌, ◌≤◌, ◌+ℤ◌, ◌-ℤ◌, ◌*ℤ◌, ◌≤ℤ◌, ◌↔◌, Bool, true, false, ap, sym, refl, arith, subst}
use Rattle.std.specs.Prelude.{negsuc, neg_ℤ, nat_lt}
use Rattle.std.proofs.lemmas.Int.{ints}
use Rattle.std.proofs.lemmas.Bool.Decides.{nat_tests}
use borrow.Author.Tests.{ltb-true, ltb-false}
use Rattle.fr_cluster.specs.Constraints.{Amounts, CorrectsAfterSlots, LeavesMicroticks, LeavesSignedMicroticks}
use Rattle.fr_cluster.specs.Values.{Values, amount}
use Rattle.fr_cluster.specs.Sane.{IsSane}
use Rattle.fr_cluster.specs.declared.names.ParamName.TheVariants as name

-- what is cut off to 0 is no more than nothing
pub cut-none : (macros correction offset micros rate : ℕ) → 1 ≤ macros → micros ≤ rate → macros * (correction + offset + 1) ≤ (micros - rate) * correction → ⊥
cut-none macros correction offset micros rate some le h = let none : micros - rate ≡ 0 = omega arith in let least = rw none at h in omega (arith, least)

-- a difference that is not cut off
sub-pos : (a b : ℕ) → b ≤ a → pos a -ℤ pos b ≡ pos (a - b)
sub-pos a zero le = ap pos (omega arith)
sub-pos a (suc b) le = let no : nat_lt a (suc b) ≡ false = grind (arith, nat_tests) in rw no refl

-- and one that is
sub-neg : (a b : ℕ) → a < b → (k : ℕ) × (pos a -ℤ pos b ≡ negsuc k)
sub-neg a zero lt = absurd (omega arith)
sub-neg a (suc b) lt = let yes : nat_lt a (suc b) ≡ true = grind (arith, nat_tests) in (suc b - suc a, rw yes refl)

le-pos : (x y : ℕ) → (x ≤ y) ↔ (pos x ≤ℤ pos y)
le-pos x y = (λ h. omega (arith, ints, h), λ h. omega (arith, ints, h))

-- no natural is at most a negative number
pos-neg : (x y : ℕ) → 0 < y → pos x ≤ℤ neg_ℤ (pos y) → ⊥
pos-neg x zero some h = omega arith
pos-neg x (suc y) some h = omega (arith, ints, h)

more : (j c : ℕ) → 0 < c → 0 < suc j * c
more j zero some = absurd (omega arith)
more j (suc c) some = omega arith

four : (g o offset n r : ℕ) → o < g
    → (g * ((g - o) + offset + 1) ≤ (n - r) * (g - o)) ↔ ((pos g *ℤ (((pos g -ℤ pos o) +ℤ pos offset) +ℤ pos 1)) ≤ℤ ((pos n -ℤ pos r) *ℤ (pos g -ℤ pos o)))
four g o offset n r lt = subst P (sym (sub-pos g o (omega arith))) (by (nat_lt n r) refl)
  where
    P : ℤ → Type 0
    P d = (g * ((g - o) + offset + 1) ≤ (n - r) * (g - o)) ↔ ((pos g *ℤ ((d +ℤ pos offset) +ℤ pos 1)) ≤ℤ ((pos n -ℤ pos r) *ℤ d))

    by : (b : Bool) → nat_lt n r ≡ b → (g * ((g - o) + offset + 1) ≤ (n - r) * (g - o)) ↔ ((pos g *ℤ ((pos (g - o) +ℤ pos offset) +ℤ pos 1)) ≤ℤ ((pos n -ℤ pos r) *ℤ pos (g - o)))
    by false e =
        let Q : ℤ → Type 0 = λ m. (g * ((g - o) + offset + 1) ≤ (n - r) * (g - o)) ↔ ((pos g *ℤ ((pos (g - o) +ℤ pos offset) +ℤ pos 1)) ≤ℤ (m *ℤ pos (g - o))) in
        subst Q (sym (sub-pos n r (ltb-false n r e))) (le-pos (g * ((g - o) + offset + 1)) ((n - r) * (g - o)))
    by true e =
        let less = ltb-true n r e in
        let k = sub-neg n r less in
        let Q : ℤ → Type 0 = λ m. (g * ((g - o) + offset + 1) ≤ (n - r) * (g - o)) ↔ ((pos g *ℤ ((pos (g - o) +ℤ pos offset) +ℤ pos 1)) ≤ℤ (m *ℤ pos (g - o))) in
        subst Q (sym k.1) (
          λ h. absurd (cut-none g (g - o) offset n r (omega arith) (omega arith) h),
          λ h. absurd (pos-neg (g * ((g - o) + offset + 1)) (suc k.0 * (g - o)) (more k.0 (g - o) (omega arith)) h),
        )

-- the fourth constraint is the stated one
pub fourth-signed : (f : Amounts) → CorrectsAfterSlots f → LeavesMicroticks f ↔ LeavesSignedMicroticks f
fourth-signed f h =
    four (f name.gMacroPerCycle) (f name.gOffsetCorrectionStart) (f name.pOffsetCorrectionOut) (f name.pMicroPerCycle) (f name.pRateCorrectionOut) h.1

-- under the constraints no difference of the definitions is cut off at 0
pub no-cut : (p : Values) → IsSane p
    → (amount p name.pRateCorrectionOut < amount p name.pMicroPerCycle) × (amount p name.gOffsetCorrectionStart < amount p name.gMacroPerCycle)
no-cut p h = (by (nat_lt (amount p name.pRateCorrectionOut) (amount p name.pMicroPerCycle)) refl, h.constraints.corrects_after.1)
  where
    by : (b : Bool) → nat_lt (amount p name.pRateCorrectionOut) (amount p name.pMicroPerCycle) ≡ b → amount p name.pRateCorrectionOut < amount p name.pMicroPerCycle
    by true e = ltb-true _ _ e
    by false e =
        let high = ltb-false (amount p name.pRateCorrectionOut) (amount p name.pMicroPerCycle) e in
        let after = h.constraints.corrects_after.1 in
        absurd (cut-none (amount p name.gMacroPerCycle) (amount p name.gMacroPerCycle - amount p name.gOffsetCorrectionStart) (amount p name.pOffsetCorrectionOut) (amount p name.pMicroPerCycle) (amount p name.pRateCorrectionOut) (omega arith) high h.constraints.leaves_microticks)
