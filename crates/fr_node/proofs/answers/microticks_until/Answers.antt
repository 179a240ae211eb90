use Rattle.std.proofs.Common.{◌≡◌, ◌/◌, ℤ, pos, ap, ◌∙◌, to_z, FitsSigned, w64, arith}
use Rattle.std.specs.Prelude.{◌-ℤ◌, ◌≤ℤ◌}
use Rattle.std.proofs.lemmas.Int.{ints, to_z-of_z}
use Rattle.fr_time.specs.Position.{floor_of}
use Rattle.fr_node.proofs.Floors.{floor_le}
use Rattle.fr_node.proofs.answers.microticks_until.Goals as goal

pub returns-clause-value : goal.returns-clause-value
returns-clause-value c =
    let at : FitsSigned w64 c.args.at = c.ranges.at in
    let ticks : pos c.ticks_until-ticks.result ≡ c.args.at -ℤ c.args.row.now.start = simp to_z-of_z at c.ticks_until-ticks.ensures.value in
    let number : to_z w64 c.quotient.result ≡ pos (c.ticks_until-ticks.result / c.length_of-length.result) = omega (arith, ints, c.quotient.ensures.value, c.quotient.ensures.most) in
    number
    ∙ ap (λ (x : ℤ). floor_of x (pos c.length_of-length.result)) ticks
    ∙ ap (λ (x : ℤ). floor_of (c.args.at -ℤ c.args.row.now.start) x) c.length_of-length.ensures.value

pub returns-clause-within : goal.returns-clause-within
returns-clause-within c =
    let at : FitsSigned w64 c.args.at = c.ranges.at in
    let ticks : pos c.ticks_until-ticks.result ≡ c.args.at -ℤ c.args.row.now.start = simp to_z-of_z at c.ticks_until-ticks.ensures.value in
    let most : floor_of (pos c.ticks_until-ticks.result) (pos c.length_of-length.result) ≤ℤ pos 700000 =
    floor_le (pos c.ticks_until-ticks.result) (pos c.length_of-length.result) 700000 (omega (arith, ints))
    (omega (arith, ints, ticks, c.length_of-length.ensures.value, c.requires.at.to)) (omega (arith, ints, c.length_of-length.ensures.some)) in
    record {
      low = omega (arith, ints, c.quotient.ensures.value, c.quotient.ensures.most);
      high = omega (arith, ints, most, c.quotient.ensures.value, c.quotient.ensures.most);
    }
