use Rattle.std.proofs.Common.{◌≡◌, ◌∙◌, FitsSigned, ap, ℤ, pos, refl, arith}
use Rattle.std.specs.Prelude.{◌+ℤ◌, ◌-ℤ◌, neg_ℤ}
use mir.Syntax.{w128}
use mir.Val.{to_z}
use Rattle.std.proofs.lemmas.Int.{ints, to_z-of_z}
use Rattle.fr_base.specs.Within.{IsBetween, IsWithin}
use Rattle.fr_course.specs.Readings.{least_reading}
use Rattle.fr_course.proofs.Fits.{difference_near, fits, natural_read, none_near, sum_near}
use Rattle.fr_course.proofs.stamps.latest.Goals as goal

latest_near : (ticks breadth delay : ℤ) → IsBetween (pos 0) (pos 900_000_000_000_000_000) ticks → IsBetween (pos 0) (pos 2_000_000_000) breadth
    → IsWithin (pos 1_001_000_000_000) delay
    → IsBetween (neg_ℤ (pos 2_000_000_000_000)) (pos 910_000_000_000_000_000) ((ticks +ℤ breadth) -ℤ delay)
latest_near ticks breadth delay one more other =
    record { low = omega (arith, ints, one.low, more.low, other.high); high = omega (arith, ints, one.high, more.high, other.low) }

pub returns-clause-value : goal.returns-clause-value
returns-clause-value c =
    let ticks : FitsSigned w128 c.ticks_at.result = fits (record { le = tt }) (none_near (record { le = tt }) c.ticks_at.ensures.within) in
    let broad : FitsSigned w128 c.breadth.result = fits (record { le = tt }) (none_near (record { le = tt }) c.breadth.ensures.within) in
    let begun : FitsSigned w128 (c.ticks_at.result +ℤ c.breadth.result) = fits (record { le = tt }) (sum_near (none_near (record { le = tt }) c.ticks_at.ensures.within) (none_near (record { le = tt }) c.breadth.ensures.within)) in
    let far : FitsSigned w128 c.least_reading.result = fits (record { le = tt }) c.least_reading.ensures.within in
    let all : FitsSigned w128 ((c.ticks_at.result +ℤ c.breadth.result) -ℤ c.least_reading.result) = fits (record { le = tt }) (difference_near (sum_near (none_near (record { le = tt }) c.ticks_at.ensures.within) (none_near (record { le = tt }) c.breadth.ensures.within)) c.least_reading.ensures.within) in
    let whole : to_z w128 c.args.delays.now.least ≡ pos c.args.delays.now.least = natural_read c.args.delays.now.least c.requires.delays.least in
    let delay : c.least_reading.result ≡ least_reading c.args.observer.now.drift (pos c.args.delays.now.least) = c.least_reading.ensures.value ∙ ap (least_reading c.args.observer.now.drift) whole in
    simp to_z-of_z (rw (c.ticks_at.ensures.value, c.breadth.ensures.value, delay) refl)

pub returns-clause-within : goal.returns-clause-within
returns-clause-within c =
    let ticks : FitsSigned w128 c.ticks_at.result = fits (record { le = tt }) (none_near (record { le = tt }) c.ticks_at.ensures.within) in
    let broad : FitsSigned w128 c.breadth.result = fits (record { le = tt }) (none_near (record { le = tt }) c.breadth.ensures.within) in
    let begun : FitsSigned w128 (c.ticks_at.result +ℤ c.breadth.result) = fits (record { le = tt }) (sum_near (none_near (record { le = tt }) c.ticks_at.ensures.within) (none_near (record { le = tt }) c.breadth.ensures.within)) in
    let far : FitsSigned w128 c.least_reading.result = fits (record { le = tt }) c.least_reading.ensures.within in
    let all : FitsSigned w128 ((c.ticks_at.result +ℤ c.breadth.result) -ℤ c.least_reading.result) = fits (record { le = tt }) (difference_near (sum_near (none_near (record { le = tt }) c.ticks_at.ensures.within) (none_near (record { le = tt }) c.breadth.ensures.within)) c.least_reading.ensures.within) in
    simp to_z-of_z (latest_near c.ticks_at.result c.breadth.result c.least_reading.result c.ticks_at.ensures.within c.breadth.ensures.within c.least_reading.ensures.within)
