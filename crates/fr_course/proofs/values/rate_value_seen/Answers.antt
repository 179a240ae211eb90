use Rattle.std.proofs.Common.{◌≡◌, ◌∙◌, FitsSigned, ℤ, ap, arith}
use mir.Syntax.{w128}
use Rattle.std.proofs.lemmas.Int.{ints, to_z-of_z}
use Rattle.fr_course.specs.Course.{between}
use Rattle.fr_course.specs.Computed.{ticks_in, placed_in}
use Rattle.fr_course.proofs.Numbers.{rate_error_are}
use Rattle.fr_course.proofs.values.rate_value_seen.Goals as goal

pub returns-clause-value : goal.returns-clause-value
returns-clause-value c =
    let e : FitsSigned w128 c.measuring.inside.rate_error = omega (arith, ints, c.measuring.invariant.rate_error) in
    let gap : c.between.result ≡ between c.args.receiver.now.length c.args.sender.now.apart = c.between.ensures.value in
    let longer : c.ticks_in-longer.result ≡ ticks_in c.args.scale.now (between c.args.receiver.now.length c.args.sender.now.apart) = c.ticks_in-longer.ensures.value ∙ ap (ticks_in c.args.scale.now) gap in
    c.placed_in.ensures.value
    ∙ ap (λ (x : ℤ). placed_in c.args.measuring.now x c.ticks_in-longer.result) (to_z-of_z w128 c.measuring.inside.rate_error e ∙ rate_error_are c.measuring.view_is)
    ∙ ap (placed_in c.args.measuring.now c.args.measuring.now.rate_error) longer
