use Rattle.std.proofs.Common.{◌≡◌, ◌∙◌, FitsSigned, ℤ, Option, Some, false, sym, ap₂, arith, rules}
use Rattle.std.specs.Prelude.{nat_lt}
use mir.Syntax.{w128}
use Rattle.std.proofs.lemmas.Int.{to_z-of_z}
use Rattle.std.proofs.lemmas.Bool.Decides.{nat_tests}
use Rattle.fr_midpoint.specs.Midpoint.{half_of_sum}
use Rattle.fr_course.specs.Readings.{Interval}
use Rattle.fr_course.specs.Middles.{greatest_middle, highs_of, least_middle, lows_of}
use Rattle.fr_course.proofs.Fits.{end_read}
use Rattle.fr_course.proofs.Middling.{middle_where-some}
use Rattle.fr_course.proofs.middles.middle_where.Goals as goal

pub returns-clause-value : goal.returns-clause-value
returns-clause-value c = λ known lows highs.
    let few : nat_lt c.args.ends c.args.further ≡ false = grind (arith, nat_tests) in
    let l : FitsSigned w128 c.half_sum.result = search rules in
    let h : FitsSigned w128 c.half_sum-2.result = search rules in
    let low : c.half_sum.result ≡ least_middle c.args.further c.args.missed c.args.ends known =
    c.half_sum.ensures.value
    ∙ ap₂ half_of_sum (end_read c.least_left.result c.least_left.ensures.within ∙ c.least_left.ensures.value (lows_of known) lows) (end_read c.greatest_left.result c.greatest_left.ensures.within ∙ c.greatest_left.ensures.value (lows_of known) lows) in
    let high : c.half_sum-2.result ≡ greatest_middle c.args.further c.args.missed c.args.ends known =
    c.half_sum-2.ensures.value
    ∙ ap₂ half_of_sum (end_read c.least_left-2.result c.least_left-2.ensures.within ∙ c.least_left-2.ensures.value (highs_of known) highs) (end_read c.greatest_left-2.result c.greatest_left-2.ensures.within ∙ c.greatest_left-2.ensures.value (highs_of known) highs) in
    let pair : ℤ → ℤ → Option Interval = λ x y. Some (record { low = x; high = y }) in
    ap₂ pair (to_z-of_z w128 c.half_sum.result l ∙ low) (to_z-of_z w128 c.half_sum-2.result h ∙ high)
    ∙ sym (middle_where-some c.args.further c.args.missed c.args.ends known few)
