use Rattle.std.proofs.Common.{◌≡◌, ◌∙◌, FitsSigned, ap, ℤ, pos, refl, arith}
use Rattle.std.specs.Prelude.{◌-ℤ◌, neg_ℤ}
use mir.Syntax.{w128}
use mir.Val.{to_z}
use Rattle.std.proofs.lemmas.Int.{ints, to_z-of_z}
use Rattle.fr_base.specs.Within.{IsBetween, IsWithin}
use Rattle.fr_course.specs.Readings.{most_reading}
use Rattle.fr_course.proofs.Fits.{difference_near, fits, natural_read, none_near}
use Rattle.fr_course.proofs.stamps.earliest.Goals as goal

earliest_near : (ticks delay : ℤ) → IsBetween (pos 0) (pos 900_000_000_000_000_000) ticks → IsWithin (pos 1_001_000_000_000) delay
    → IsBetween (neg_ℤ (pos 2_000_000_000_000)) (pos 910_000_000_000_000_000) (ticks -ℤ delay)
earliest_near ticks delay one other =
    record { low = omega (arith, ints, one.low, other.high); high = omega (arith, ints, one.high, other.low) }

pub returns-clause-value : goal.returns-clause-value
returns-clause-value c =
    let ticks : FitsSigned w128 c.ticks_at.result = fits (record { le = tt }) (none_near (record { le = tt }) c.ticks_at.ensures.within) in
    let far : FitsSigned w128 c.most_reading.result = fits (record { le = tt }) c.most_reading.ensures.within in
    let both : FitsSigned w128 (c.ticks_at.result -ℤ c.most_reading.result) = fits (record { le = tt }) (difference_near (none_near (record { le = tt }) c.ticks_at.ensures.within) c.most_reading.ensures.within) in
    let whole : to_z w128 c.args.delays.now.most ≡ pos c.args.delays.now.most = natural_read c.args.delays.now.most c.requires.delays.most in
    let delay : c.most_reading.result ≡ most_reading c.args.observer.now.drift (pos c.args.delays.now.most) = c.most_reading.ensures.value ∙ ap (most_reading c.args.observer.now.drift) whole in
    simp to_z-of_z (rw (c.ticks_at.ensures.value, delay) refl)

pub returns-clause-within : goal.returns-clause-within
returns-clause-within c =
    let ticks : FitsSigned w128 c.ticks_at.result = fits (record { le = tt }) (none_near (record { le = tt }) c.ticks_at.ensures.within) in
    let far : FitsSigned w128 c.most_reading.result = fits (record { le = tt }) c.most_reading.ensures.within in
    let both : FitsSigned w128 (c.ticks_at.result -ℤ c.most_reading.result) = fits (record { le = tt }) (difference_near (none_near (record { le = tt }) c.ticks_at.ensures.within) c.most_reading.ensures.within) in
    simp to_z-of_z (earliest_near c.ticks_at.result c.most_reading.result c.ticks_at.ensures.within c.most_reading.ensures.within)
