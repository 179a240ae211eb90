use Rattle.std.proofs.Common.{◌≡◌, FitsSigned, ℤ, pos, refl, subst, sym, arith}
use Rattle.std.specs.Prelude.{◌*ℤ◌, ◌≤ℤ◌, int_lt, if◌then◌else◌}
use mir.Syntax.{w128}
use Rattle.std.proofs.lemmas.Int.{ints, to_z-of_z}
use Rattle.fr_base.specs.Within.{IsBetween, IsWithin}
use Rattle.fr_course.specs.Readings.{ceiling_of, fast_million, slow_million}
use Rattle.fr_course.proofs.Fits.{between_near, fits}
use Rattle.fr_course.proofs.Limits.{ceiling_within}
use Rattle.fr_course.proofs.readings.least_ticks.Goals as goal

-- ---- of any numbers

parts_fit : {reading : ℤ} → IsWithin (pos 6_100_000_000_000_000_000) reading → FitsSigned w128 (reading *ℤ pos 1_000_000)
parts_fit near = omega (arith, ints, near.low, near.high)

parts_near : {reading : ℤ} → IsWithin (pos 6_100_000_000_000_000_000) reading → IsWithin (pos 10_000_000_000_000_000_000_000_000_000_000) (reading *ℤ pos 1_000_000)
parts_near near = record { low = omega (arith, ints, near.low); high = omega (arith, ints, near.high) }

some : {million : ℤ} → IsBetween (pos 999_000) (pos 1_001_000) million → pos 1 ≤ℤ million
some about = omega (arith, ints, about.low)

enough : (reading million : ℤ) → IsBetween (pos 999_000) (pos 1_001_000) million → IsWithin (pos 6_100_000_000_000_000_000) reading
    → IsWithin (million *ℤ pos 6_200_000_000_000_000_000) (reading *ℤ pos 1_000_000)
enough reading million about near =
    record { low = omega (arith, ints, about.low, near.low); high = omega (arith, ints, about.low, near.high) }

ticks_near : (reading million : ℤ) → IsBetween (pos 999_000) (pos 1_001_000) million → IsWithin (pos 6_100_000_000_000_000_000) reading
    → IsWithin (pos 6_200_000_000_000_000_000) (ceiling_of (reading *ℤ pos 1_000_000) million)
ticks_near reading million about near =
    ceiling_within (reading *ℤ pos 1_000_000) million (pos 6_200_000_000_000_000_000) (some about) (enough reading million about near)

-- ---- of the call

pub overflow_mul-parts : goal.overflow_mul-parts
overflow_mul-parts c =
    let reading : FitsSigned w128 c.args.reading = fits (record { le = tt }) c.requires.reading in
    let parts : FitsSigned w128 (c.args.reading *ℤ pos 1_000_000) = parts_fit c.requires.reading in
    simp to_z-of_z parts

pub ceiling-requires-clause-number : goal.ceiling-requires-clause-number
ceiling-requires-clause-number c =
    let reading : FitsSigned w128 c.args.reading = fits (record { le = tt }) c.requires.reading in
    let parts : FitsSigned w128 (c.args.reading *ℤ pos 1_000_000) = parts_fit c.requires.reading in
    simp to_z-of_z (parts_near c.requires.reading)

value_lem : (c : goal.After-ceiling) → c.ceiling.result ≡ ceiling_of (c.args.reading *ℤ pos 1_000_000) c.inner_million-million.result
value_lem c =
    let reading : FitsSigned w128 c.args.reading = fits (record { le = tt }) c.requires.reading in
    let million : FitsSigned w128 c.inner_million-million.result = fits (record { le = tt }) (between_near {least = pos 999_000} (record { le = tt }) (record { le = tt }) c.inner_million-million.ensures.within) in
    let parts : FitsSigned w128 (c.args.reading *ℤ pos 1_000_000) = parts_fit c.requires.reading in
    simp to_z-of_z at c.ceiling.ensures

near_lem : (c : goal.After-ceiling) → IsWithin (pos 6_200_000_000_000_000_000) c.ceiling.result
near_lem c =
    subst (IsWithin (pos 6_200_000_000_000_000_000)) (sym (value_lem c))
    (ticks_near c.args.reading c.inner_million-million.result c.inner_million-million.ensures.within c.requires.reading)

pub returns-clause-value : goal.returns-clause-value
returns-clause-value c =
    let r : FitsSigned w128 c.ceiling.result = fits (record { le = tt }) (near_lem c) in
    let reading : FitsSigned w128 c.args.reading = fits (record { le = tt }) c.requires.reading in
    let million : c.inner_million-million.result ≡ if int_lt c.args.reading (pos 0) then slow_million c.args.drift else fast_million c.args.drift = simp to_z-of_z at c.inner_million-million.ensures.value in
    simp to_z-of_z (rw (value_lem c, million) refl)

pub returns-clause-within : goal.returns-clause-within
returns-clause-within c =
    let r : FitsSigned w128 c.ceiling.result = fits (record { le = tt }) (near_lem c) in
    simp to_z-of_z (near_lem c)
