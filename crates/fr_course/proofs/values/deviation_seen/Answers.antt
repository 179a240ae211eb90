use Rattle.std.proofs.Common.{◌≡◌, ◌∙◌, FitsSigned, ℤ, ap, arith, rules}
use mir.Syntax.{w128}
use Rattle.std.proofs.lemmas.Int.{ints, to_z-of_z}
use Rattle.fr_course.specs.Readings.{Interval}
use Rattle.fr_course.specs.Course.{between, odd_macrotick}
use Rattle.fr_course.specs.Computed.{ticks_in, counted_in}
use Rattle.fr_course.proofs.Numbers.{arrival_error_are}
use Rattle.fr_course.proofs.values.deviation_seen.Goals as goal

pub returns-clause-value : goal.returns-clause-value
returns-clause-value c =
    let e : FitsSigned w128 c.measuring.inside.arrival_error = omega (arith, ints, c.measuring.invariant.arrival_error) in
    let a : FitsSigned w128 c.args.sender.now.action = search rules in
    let at : c.odd_macrotick-at.result ≡ odd_macrotick c.args.scale.now c.args.receiver.now c.args.sender.now.action = c.odd_macrotick-at.ensures.value ∙ ap (odd_macrotick c.args.scale.now c.args.receiver.now) (to_z-of_z w128 c.args.sender.now.action a) in
    let gap : c.between.result ≡ between (odd_macrotick c.args.scale.now c.args.receiver.now c.args.sender.now.action) c.args.sender.now.odd = c.between.ensures.value ∙ ap (λ (x : Interval). between x c.args.sender.now.odd) at in
    let late : c.ticks_in-late.result ≡ ticks_in c.args.scale.now (between (odd_macrotick c.args.scale.now c.args.receiver.now c.args.sender.now.action) c.args.sender.now.odd) = c.ticks_in-late.ensures.value ∙ ap (ticks_in c.args.scale.now) gap in
    c.counted_in.ensures.value
    ∙ ap (λ (x : ℤ). counted_in c.args.measuring.now x c.ticks_in-late.result) (to_z-of_z w128 c.measuring.inside.arrival_error e ∙ arrival_error_are c.measuring.view_is)
    ∙ ap (counted_in c.args.measuring.now c.args.measuring.now.arrival_error) late
