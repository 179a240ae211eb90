use Rattle.std.proofs.Common.{◌≡◌, ℤ, pos, ap, ◌∙◌, FitsSigned, w64, arith}
use Rattle.std.specs.Prelude.{◌-ℤ◌}
use Rattle.std.proofs.lemmas.Int.{ints, to_z-of_z}
use Rattle.fr_base.specs.Within.{lies_within}
use Rattle.fr_course.specs.Numbering.{nominal_cycle, scheduled}
use Rattle.fr_time.specs.Position.{floor_of}
use Rattle.fr_sightings.proofs.numbering.is_timely.Goals as goal

pub returns : goal.returns
returns c =
    let p = c.args.params.now in
    let apart : FitsSigned w64 c.args.apart = c.ranges.apart in
    let cycles : FitsSigned w64 c.args.cycles = c.ranges.cycles in
    let macroticks : FitsSigned w64 c.args.macroticks = c.ranges.macroticks in
    let half : FitsSigned w64 c.half_cycle.result = omega (arith, ints, c.half_cycle.ensures.within.low, c.half_cycle.ensures.within.high) in
    let due : FitsSigned w64 c.scheduled.result = omega (arith, ints, c.scheduled.ensures.within.low, c.scheduled.ensures.within.high) in
    let late : FitsSigned w64 (c.args.apart -ℤ c.scheduled.result) =
    omega (arith, ints, c.requires.apart.low, c.requires.apart.high, c.scheduled.ensures.within.low, c.scheduled.ensures.within.high) in
    let at : c.scheduled.result ≡ scheduled p c.args.cycles c.args.macroticks = simp to_z-of_z at c.scheduled.ensures.value in
    let value : c.lies_within.result ≡ lies_within c.half_cycle.result (c.args.apart -ℤ c.scheduled.result) = simp to_z-of_z at c.lies_within.ensures in
    value
    ∙ ap (λ (bound : ℤ). lies_within bound (c.args.apart -ℤ c.scheduled.result)) c.half_cycle.ensures.value
    ∙ ap (λ (due : ℤ). lies_within (floor_of (nominal_cycle p) (pos 2)) (c.args.apart -ℤ due)) at
