use Rattle.std.proofs.Common.{◌≡◌, FitsSigned, ℤ, pos, ap, arith}
use Rattle.std.specs.Prelude.{◌-ℤ◌, ◌≤ℤ◌, neg_ℤ}
use mir.Syntax.{w128}
use Rattle.std.proofs.lemmas.Int.{ints, to_z-of_z}
use Rattle.fr_course.specs.Readings.{least_reading}
use Rattle.fr_course.proofs.Counted.{none_less, turned_near}
use Rattle.fr_course.proofs.Fits.{fits}
use Rattle.fr_course.proofs.Limits.{less_than_none}
use Rattle.fr_course.proofs.readings.most_reading.Goals as goal

below_none : (x : ℤ) → pos 1 ≤ℤ x → (pos 0 -ℤ x) ≤ℤ neg_ℤ (pos 1)
below_none x some = omega (arith, ints, some)

above_none : (x : ℤ) → x ≤ℤ neg_ℤ (pos 1) → pos 1 ≤ℤ (pos 0 -ℤ x)
above_none x less = omega (arith, ints, less)

pub least_reading-requires-clause-ticks : goal.least_reading-requires-clause-ticks
least_reading-requires-clause-ticks c =
    let ticks : FitsSigned w128 c.args.ticks = fits (record { le = tt }) c.requires.ticks in
    let turned : FitsSigned w128 (pos 0 -ℤ c.args.ticks) = fits (record { le = tt }) (none_less c.requires.ticks) in
    simp to_z-of_z (none_less c.requires.ticks)

pub returns-clause-value : goal.returns-clause-value
returns-clause-value c =
    let r : FitsSigned w128 c.args.ticks = fits (record { le = tt }) c.requires.ticks in
    let n : FitsSigned w128 (neg_ℤ c.args.ticks) = fits (record { le = tt }) (turned_near c.requires.ticks) in
    let n0 : FitsSigned w128 (pos 0 -ℤ c.args.ticks) = fits (record { le = tt }) (none_less c.requires.ticks) in
    let t : FitsSigned w128 c.least_reading.result = fits (record { le = tt }) c.least_reading.ensures.within in
    let u : FitsSigned w128 (neg_ℤ c.least_reading.result) = fits (record { le = tt }) (turned_near c.least_reading.ensures.within) in
    let u0 : FitsSigned w128 (pos 0 -ℤ c.least_reading.result) = fits (record { le = tt }) (none_less c.least_reading.ensures.within) in
    let value : c.least_reading.result ≡ least_reading c.args.drift (neg_ℤ c.args.ticks) = simp (to_z-of_z, less_than_none) at c.least_reading.ensures.value in
    simp (to_z-of_z, less_than_none) (ap neg_ℤ value)

pub returns-clause-within : goal.returns-clause-within
returns-clause-within c =
    let t : FitsSigned w128 c.least_reading.result = fits (record { le = tt }) c.least_reading.ensures.within in
    let u0 : FitsSigned w128 (pos 0 -ℤ c.least_reading.result) = fits (record { le = tt }) (none_less c.least_reading.ensures.within) in
    simp to_z-of_z (none_less c.least_reading.ensures.within)

pub returns-clause-some : goal.returns-clause-some
returns-clause-some c =
    λ some.
    let ticks : FitsSigned w128 c.args.ticks = fits (record { le = tt }) c.requires.ticks in
    let turned : FitsSigned w128 (pos 0 -ℤ c.args.ticks) = fits (record { le = tt }) (none_less c.requires.ticks) in
    let t : FitsSigned w128 c.least_reading.result = fits (record { le = tt }) c.least_reading.ensures.within in
    let u0 : FitsSigned w128 (pos 0 -ℤ c.least_reading.result) = fits (record { le = tt }) (none_less c.least_reading.ensures.within) in
    simp to_z-of_z (above_none c.least_reading.result (c.least_reading.ensures.less (simp to_z-of_z (below_none c.args.ticks some))))
