use Rattle.std.proofs.Common.{◌≡◌, FitsSigned, ℤ, pos, refl, subst, sym, arith}
use Rattle.std.specs.Prelude.{◌*ℤ◌, ◌≤ℤ◌, neg_ℤ, int_lt, if◌then◌else◌}
use mir.Syntax.{w128}
use Rattle.std.proofs.lemmas.Int.{ints, to_z-of_z}
use Rattle.fr_base.specs.Within.{IsBetween, IsWithin}
use Rattle.fr_midpoint.proofs.Products.{mulz_comm, mulz_within, mulz-lez}
use Rattle.fr_time.specs.Position.{floor_of}
use Rattle.fr_course.specs.Readings.{fast_million, slow_million}
use Rattle.fr_course.proofs.Fits.{between_near, fits}
use Rattle.fr_course.proofs.Floors.{floor_above, floor_below}
use Rattle.fr_course.proofs.Limits.{floor_within}
use Rattle.fr_course.proofs.readings.least_reading.Goals as goal

-- ---- of any numbers

parts_near : (ticks million : ℤ) → IsBetween (pos 999_000) (pos 1_001_000) million → IsWithin (pos 1_000_000_000_000) ticks
    → IsWithin (pos 1_001_000_000_000_000_000) (ticks *ℤ million)
parts_near ticks million about near =
    let product = mulz_within million ticks (pos 1_001_000) (pos 1_000_000_000_000) (omega (arith, ints, about.low)) about.high near in
    subst (IsWithin (pos 1_001_000_000_000_000_000)) (mulz_comm million ticks) product

one_part : (ticks million : ℤ) → IsBetween (pos 999_000) (pos 1_001_000) million → pos 2 ≤ℤ ticks → pos 1 ≤ℤ floor_of (ticks *ℤ million) (pos 1_000_000)
one_part ticks million about two =
    floor_above (ticks *ℤ million) (pos 1_000_000) (pos 1) (record { lt = tt }) (enough (ticks *ℤ million) (mulz-lez (pos 2) ticks million two (from million about.low)))
  where
    from : (m : ℤ) → pos 999_000 ≤ℤ m → pos 0 ≤ℤ m
    from m h = omega (arith, ints)

    enough : (p : ℤ) → (pos 2 *ℤ million) ≤ℤ p → (pos 1 *ℤ pos 1_000_000) ≤ℤ p
    enough p more = omega (arith, ints, more, about.low)

one_less : (ticks million : ℤ) → IsBetween (pos 999_000) (pos 1_001_000) million → ticks ≤ℤ neg_ℤ (pos 1)
    → floor_of (ticks *ℤ million) (pos 1_000_000) ≤ℤ neg_ℤ (pos 1)
one_less ticks million about one =
    let f : ℤ = floor_of (ticks *ℤ million) (pos 1_000_000) in
    enough f (ticks *ℤ million) (floor_below (ticks *ℤ million) (pos 1_000_000) (record { lt = tt })) (mulz-lez ticks (neg_ℤ (pos 1)) million one (from million about.low))
  where
    from : (m : ℤ) → pos 999_000 ≤ℤ m → pos 0 ≤ℤ m
    from m h = omega (arith, ints)

    enough : (f p : ℤ) → (f *ℤ pos 1_000_000) ≤ℤ p → p ≤ℤ (neg_ℤ (pos 1) *ℤ million) → f ≤ℤ neg_ℤ (pos 1)
    enough f p at more = omega (arith, ints, at, more, about.low)

-- ---- of the call

pub overflow_mul-parts : goal.overflow_mul-parts
overflow_mul-parts c =
    let ticks : FitsSigned w128 c.args.ticks = fits (record { le = tt }) c.requires.ticks in
    let million : FitsSigned w128 c.outer_million-million.result = fits (record { le = tt }) (between_near {least = pos 999_000} (record { le = tt }) (record { le = tt }) c.outer_million-million.ensures.within) in
    let product : FitsSigned w128 (c.args.ticks *ℤ c.outer_million-million.result) = fits (record { le = tt }) (parts_near c.args.ticks c.outer_million-million.result c.outer_million-million.ensures.within c.requires.ticks) in
    simp to_z-of_z product

value_lem : (c : goal.After-floor) → c.floor.result ≡ floor_of (c.args.ticks *ℤ c.outer_million-million.result) (pos 1_000_000)
value_lem c =
    let ticks : FitsSigned w128 c.args.ticks = fits (record { le = tt }) c.requires.ticks in
    let million : FitsSigned w128 c.outer_million-million.result = fits (record { le = tt }) (between_near {least = pos 999_000} (record { le = tt }) (record { le = tt }) c.outer_million-million.ensures.within) in
    let parts : FitsSigned w128 (c.args.ticks *ℤ c.outer_million-million.result) = fits (record { le = tt }) (parts_near c.args.ticks c.outer_million-million.result c.outer_million-million.ensures.within c.requires.ticks) in
    simp to_z-of_z at c.floor.ensures

near_lem : (c : goal.After-floor) → IsWithin (pos 1_001_000_000_000) c.floor.result
near_lem c =
    subst (IsWithin (pos 1_001_000_000_000)) (sym (value_lem c))
    (floor_within (c.args.ticks *ℤ c.outer_million-million.result) (pos 1_000_000) (pos 1_001_000_000_000) (record { le = tt })
    (parts_near c.args.ticks c.outer_million-million.result c.outer_million-million.ensures.within c.requires.ticks))

pub returns-clause-value : goal.returns-clause-value
returns-clause-value c =
    let r : FitsSigned w128 c.floor.result = fits (record { le = tt }) (near_lem c) in
    let ticks : FitsSigned w128 c.args.ticks = fits (record { le = tt }) c.requires.ticks in
    let million : c.outer_million-million.result ≡ if int_lt c.args.ticks (pos 0) then fast_million c.args.drift else slow_million c.args.drift = simp to_z-of_z at c.outer_million-million.ensures.value in
    simp to_z-of_z (rw (value_lem c, million) refl)

pub returns-clause-within : goal.returns-clause-within
returns-clause-within c =
    let r : FitsSigned w128 c.floor.result = fits (record { le = tt }) (near_lem c) in
    simp to_z-of_z (near_lem c)

pub returns-clause-some : goal.returns-clause-some
returns-clause-some c =
    λ two.
    let r : FitsSigned w128 c.floor.result = fits (record { le = tt }) (near_lem c) in
    simp to_z-of_z (rw (value_lem c) (one_part c.args.ticks c.outer_million-million.result c.outer_million-million.ensures.within two))

pub returns-clause-less : goal.returns-clause-less
returns-clause-less c =
    λ one.
    let r : FitsSigned w128 c.floor.result = fits (record { le = tt }) (near_lem c) in
    simp to_z-of_z (rw (value_lem c) (one_less c.args.ticks c.outer_million-million.result c.outer_million-million.ensures.within one))
