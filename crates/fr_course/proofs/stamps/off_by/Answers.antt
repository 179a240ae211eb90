use Rattle.std.proofs.Common.{◌≡◌, ◌∙◌, FitsSigned, ap, pos, refl}
use Rattle.std.specs.Prelude.{◌+ℤ◌}
use mir.Syntax.{w128}
use mir.Val.{to_z}
use Rattle.std.proofs.lemmas.Int.{to_z-of_z}
use Rattle.fr_course.specs.Readings.{most_reading}
use Rattle.fr_course.proofs.Fits.{fits, natural_read, none_near, sum_near, wider_near}
use Rattle.fr_course.proofs.stamps.off_by.Goals as goal

pub returns-clause-value : goal.returns-clause-value
returns-clause-value c =
    let broad : FitsSigned w128 c.breadth.result = fits (record { le = tt }) (none_near (record { le = tt }) c.breadth.ensures.within) in
    let far : FitsSigned w128 c.most_reading.result = fits (record { le = tt }) c.most_reading.ensures.within in
    let both : FitsSigned w128 (c.breadth.result +ℤ c.most_reading.result) = fits (record { le = tt }) (sum_near (none_near (record { le = tt }) c.breadth.ensures.within) c.most_reading.ensures.within) in
    let whole : to_z w128 c.args.delays.now.jitter ≡ pos c.args.delays.now.jitter = natural_read c.args.delays.now.jitter c.requires.delays.jitter in
    let delay : c.most_reading.result ≡ most_reading c.args.observer.now.drift (pos c.args.delays.now.jitter) = c.most_reading.ensures.value ∙ ap (most_reading c.args.observer.now.drift) whole in
    simp to_z-of_z (rw (c.breadth.ensures.value, delay) refl)

pub returns-clause-within : goal.returns-clause-within
returns-clause-within c =
    let broad : FitsSigned w128 c.breadth.result = fits (record { le = tt }) (none_near (record { le = tt }) c.breadth.ensures.within) in
    let far : FitsSigned w128 c.most_reading.result = fits (record { le = tt }) c.most_reading.ensures.within in
    let both : FitsSigned w128 (c.breadth.result +ℤ c.most_reading.result) = fits (record { le = tt }) (sum_near (none_near (record { le = tt }) c.breadth.ensures.within) c.most_reading.ensures.within) in
    simp to_z-of_z (wider_near (record { le = tt }) (sum_near (none_near (record { le = tt }) c.breadth.ensures.within) c.most_reading.ensures.within))
