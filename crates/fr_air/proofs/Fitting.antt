-- Instants in 64 bits: what is read back of one is itself.
use Rattle.std.proofs.Common.{◌≡◌, ◌∙◌, ℤ, pos, ◌≤ℤ◌, ◌+ℤ◌, ◌*ℤ◌, FitsSigned, w64, to_z, of_z, ap₂, sym, subst, arith}
use Rattle.std.proofs.lemmas.Int.{ints, to_z-of_z}
use Rattle.fr_base.specs.Timed.{IsLength}
use Rattle.fr_base.specs.Within.{IsBetween, IsWithin}

-- what holds of a number holds of what is read back of it
pub back : (P : ℤ → Type 0) (x : ℤ) → FitsSigned w64 x → P x → P (to_z w64 (of_z w64 x))
back P x fits holds = subst P (sym (to_z-of_z w64 x fits)) holds

-- what lies within any run fits
pub fits-within : (x : ℤ) → IsWithin (pos 4_000_000_000_000_000_000) x → FitsSigned w64 x
fits-within x within = omega (arith, ints, within.low, within.high)

-- what comes at an instant that was computed comes within any run
pub comes-within : (x : ℤ) → IsWithin (pos 2_000_000_000_000_000_000) x → IsWithin (pos 4_000_000_000_000_000_000) x
comes-within x within = record { low = omega (arith, ints, within.low); high = omega (arith, ints, within.high) }

pub caught-fits : (x : ℤ) → IsWithin (pos 900_000_000_000_000_000) x → FitsSigned w64 x
caught-fits x within = omega (arith, ints, within.low, within.high)

module _ (a b : ℤ) (one : FitsSigned w64 a) (other : FitsSigned w64 b) (both : FitsSigned w64 (a +ℤ b)) where
  -- a sum fits, and is read back
  pub sum-fits : FitsSigned w64 (to_z w64 (of_z w64 a) +ℤ to_z w64 (of_z w64 b))
  sum-fits = back (λ x. FitsSigned w64 (x +ℤ to_z w64 (of_z w64 b))) a one (back (λ y. FitsSigned w64 (a +ℤ y)) b other both)

  pub sum-back : to_z w64 (of_z w64 (to_z w64 (of_z w64 a) +ℤ to_z w64 (of_z w64 b))) ≡ a +ℤ b
  sum-back = ap₂ (λ (x y : ℤ). to_z w64 (of_z w64 (x +ℤ y))) (to_z-of_z w64 a one) (to_z-of_z w64 b other) ∙ to_z-of_z w64 (a +ℤ b) both

-- a delay compensation is a few microticks
pub few : (microticks : ℤ) → microticks ≤ℤ pos 200 → microticks ≤ℤ pos 700_000
few microticks to = omega (arith, ints, to)

pub early-fit : (macrotick : ℤ) → pos 0 ≤ℤ macrotick → macrotick ≤ℤ pos 16_000 → FitsSigned w64 macrotick
early-fit macrotick from to = omega (arith, ints, from, to)

-- so many microticks of a length
module _ (microticks length : ℤ) (from : pos 0 ≤ℤ microticks) (to : microticks ≤ℤ pos 700_000) (is : IsLength length) where
  pub few-fit : FitsSigned w64 microticks
  few-fit = omega (arith, ints, from, to)

  pub few-within : IsWithin (pos 2_200_000_000) (to_z w64 (of_z w64 microticks))
  few-within = back (IsWithin (pos 2_200_000_000)) microticks few-fit (record { low = omega (arith, ints, from); high = omega (arith, ints, to) })

  length-fits : FitsSigned w64 length
  length-fits = omega (arith, ints, is.low, is.high)

  pub length-back : IsLength (to_z w64 (of_z w64 length))
  length-back = back IsLength length length-fits is

  pub ticks-back : to_z w64 (of_z w64 microticks) *ℤ to_z w64 (of_z w64 length) ≡ microticks *ℤ length
  ticks-back = ap₂ (λ (x y : ℤ). x *ℤ y) (to_z-of_z w64 microticks few-fit) (to_z-of_z w64 length length-fits)

-- an instant that is expected so long after an action point
module _ (at ticks : ℤ) (acts : IsBetween (pos 0) (pos 1_111_000_000_000_000_000) at) (waits : IsWithin (pos 3_300_000_000_000_000) ticks) where
  at-fits : FitsSigned w64 at
  at-fits = omega (arith, ints, acts.low, acts.high)

  ticks-fit : FitsSigned w64 ticks
  ticks-fit = omega (arith, ints, waits.low, waits.high)

  expected : IsWithin (pos 1_200_000_000_000_000_000) (at +ℤ ticks)
  expected = record { low = omega (arith, ints, acts.low, waits.low); high = omega (arith, ints, acts.high, waits.high) }

  both-fit : FitsSigned w64 (at +ℤ ticks)
  both-fit = omega (arith, ints, expected.low, expected.high)

  pub expected-fits : FitsSigned w64 (to_z w64 (of_z w64 at) +ℤ to_z w64 (of_z w64 ticks))
  expected-fits = sum-fits at ticks at-fits ticks-fit both-fit

  pub expected-back : to_z w64 (of_z w64 (to_z w64 (of_z w64 at) +ℤ to_z w64 (of_z w64 ticks))) ≡ at +ℤ ticks
  expected-back = sum-back at ticks at-fits ticks-fit both-fit

  pub expected-within : IsWithin (pos 1_200_000_000_000_000_000) (to_z w64 (of_z w64 (to_z w64 (of_z w64 at) +ℤ to_z w64 (of_z w64 ticks))))
  expected-within = subst (IsWithin (pos 1_200_000_000_000_000_000)) (sym expected-back) expected

-- one that is said so much later
module _ (at shift : ℤ) (expects : IsWithin (pos 1_200_000_000_000_000_000) at) (shifts : IsWithin (pos 1_000_000_000_000) shift) where
  expects-fits : FitsSigned w64 at
  expects-fits = omega (arith, ints, expects.low, expects.high)

  shift-fits : FitsSigned w64 shift
  shift-fits = omega (arith, ints, shifts.low, shifts.high)

  said : IsWithin (pos 2_000_000_000_000_000_000) (at +ℤ shift)
  said = record { low = omega (arith, ints, expects.low, shifts.low); high = omega (arith, ints, expects.high, shifts.high) }

  shifted-fits : FitsSigned w64 (at +ℤ shift)
  shifted-fits = omega (arith, ints, said.low, said.high)

  pub said-fits : FitsSigned w64 (to_z w64 (of_z w64 at) +ℤ to_z w64 (of_z w64 shift))
  said-fits = sum-fits at shift expects-fits shift-fits shifted-fits

  pub said-back : to_z w64 (of_z w64 (to_z w64 (of_z w64 at) +ℤ to_z w64 (of_z w64 shift))) ≡ at +ℤ shift
  said-back = sum-back at shift expects-fits shift-fits shifted-fits

  pub said-within : IsWithin (pos 2_000_000_000_000_000_000) (to_z w64 (of_z w64 (to_z w64 (of_z w64 at) +ℤ to_z w64 (of_z w64 shift))))
  said-within = subst (IsWithin (pos 2_000_000_000_000_000_000)) (sym said-back) said

-- the instant of an action point so long after an early start
module _ (start ticks : ℤ) (starts : IsBetween (pos 0) (pos 200_000_000_000_000_000) start) (lasts : IsBetween (pos 0) (pos 1_050_000_000_000) ticks) where
  start-fits : FitsSigned w64 start
  start-fits = omega (arith, ints, starts.low, starts.high)

  lasting-fits : FitsSigned w64 ticks
  lasting-fits = omega (arith, ints, lasts.low, lasts.high)

  early : IsBetween (pos 0) (pos 800_000_000_000_000_000) (start +ℤ ticks)
  early = record { low = omega (arith, ints, starts.low, lasts.low); high = omega (arith, ints, starts.high, lasts.high) }

  acting-fits : FitsSigned w64 (start +ℤ ticks)
  acting-fits = omega (arith, ints, early.low, early.high)

  pub early-fits : FitsSigned w64 (to_z w64 (of_z w64 start) +ℤ to_z w64 (of_z w64 ticks))
  early-fits = sum-fits start ticks start-fits lasting-fits acting-fits

  pub early-back : to_z w64 (of_z w64 (to_z w64 (of_z w64 start) +ℤ to_z w64 (of_z w64 ticks))) ≡ start +ℤ ticks
  early-back = sum-back start ticks start-fits lasting-fits acting-fits

  pub early-within : IsBetween (pos 0) (pos 800_000_000_000_000_000) (to_z w64 (of_z w64 (to_z w64 (of_z w64 start) +ℤ to_z w64 (of_z w64 ticks))))
  early-within = subst (IsBetween (pos 0) (pos 800_000_000_000_000_000)) (sym early-back) early

-- it is due within the longest run
pub early-due : (due : ℤ) → IsBetween (pos 0) (pos 800_000_000_000_000_000) due → IsBetween (pos 0) (pos 1_111_000_000_000_000_000) due
early-due due within = record { low = within.low; high = omega (arith, ints, within.high) }
