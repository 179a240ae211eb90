use Rattle.std.proofs.Common.{◌≡◌, ℤ, pos, ap, ◌∙◌, ◌<◌, FitsSigned, w64, to_z, arith, rules}
use Rattle.std.specs.Prelude.{◌-ℤ◌}
use Rattle.std.proofs.lemmas.Int.{ints, to_z-of_z}
use Rattle.fr_course.specs.Numbering.{is_timely}
use Rattle.fr_time.specs.Slots.{action_point_of}
use Rattle.fr_sightings.proofs.placing.is_in_time.Goals as goal

pub returns : goal.returns
returns c =
    let p = c.args.params.now in
    let apart : FitsSigned w64 c.args.apart = c.ranges.apart in
    let number : FitsSigned w64 c.args.number = c.ranges.number in
    let small : c.args.last.now.number < 4294967296 = search rules in
    let last : to_z w64 c.args.last.now.number ≡ pos c.args.last.now.number = omega (arith, ints, small) in
    let first : FitsSigned w64 c.action_point.result = omega (arith, ints, c.action_point.ensures.early.from, c.action_point.ensures.early.to) in
    let second : FitsSigned w64 c.action_point-2.result = omega (arith, ints, c.action_point-2.ensures.early.from, c.action_point-2.ensures.early.to) in
    let cycles : FitsSigned w64 (c.args.number -ℤ pos c.args.last.now.number) = omega (arith, ints, c.requires.number.low, c.requires.number.high) in
    let macroticks : FitsSigned w64 (c.action_point.result -ℤ c.action_point-2.result) =
    omega (arith, ints, c.action_point.ensures.early.from, c.action_point.ensures.early.to, c.action_point-2.ensures.early.from, c.action_point-2.ensures.early.to) in
    let value : c.is_timely.result ≡ is_timely p c.args.apart (c.args.number -ℤ pos c.args.last.now.number) (c.action_point.result -ℤ c.action_point-2.result) =
    simp (to_z-of_z, last) at c.is_timely.ensures in
    value
    ∙ ap (λ (a : ℤ). is_timely p c.args.apart (c.args.number -ℤ pos c.args.last.now.number) (a -ℤ c.action_point-2.result)) c.action_point.ensures.value
    ∙ ap (λ (a : ℤ). is_timely p c.args.apart (c.args.number -ℤ pos c.args.last.now.number) (pos (action_point_of p c.args.judged.now.slot) -ℤ a)) c.action_point-2.ensures.value
