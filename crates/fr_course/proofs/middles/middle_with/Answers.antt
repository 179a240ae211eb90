use Rattle.std.proofs.Common.{◌≡◌, ◌∙◌, ℕ, ◌+◌, ◌-◌, length, ap}
use Rattle.std.proofs.lemmas.List.{length-map}
use Rattle.std.proofs.lemmas.List.Sorted.{length_permutation}
use Rattle.fr_midpoint.specs.Midpoint.{discarded}
use Rattle.fr_course.specs.Middles.{lows_of, middle_where}
use Rattle.fr_course.specs.Readings.{Interval}
use Rattle.fr_course.proofs.middles.middle_with.Goals as goal

pub returns-clause-value : goal.returns-clause-value
returns-clause-value c = λ known lows highs.
    let count : length c.args.lows.now ≡ length known = length_permutation (lows_of known) c.args.lows.now lows.same ∙ length-map known (λ (interval : Interval). interval.low) in
    c.middle_where.ensures.value known lows highs
    ∙ ap (λ (n : ℕ). middle_where c.args.further c.args.missed n known)
    (c.discarded_of-ends.ensures.value ∙ ap (λ (n : ℕ). discarded (n + c.args.further)) c.saturating_sub.ensures ∙ ap (λ (n : ℕ). discarded ((n - c.args.missed) + c.args.further)) count)
