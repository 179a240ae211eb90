use Rattle.std.proofs.Common.{FitsSigned, arith, rules}
use Rattle.std.specs.Prelude.{◌+ℤ◌, ◌-ℤ◌}
use mir.Syntax.{w128}
use Rattle.std.proofs.lemmas.Int.{ints, to_z-of_z}
use Rattle.fr_course.proofs.measuring.further_by.Goals as goal

pub returns-clause-value : goal.returns-clause-value
returns-clause-value c =
    let m : FitsSigned w128 c.args.more = search rules in
    let l : FitsSigned w128 c.args.interval.now.low = search rules in
    let h : FitsSigned w128 c.args.interval.now.high = search rules in
    let low : FitsSigned w128 (c.args.interval.now.low -ℤ c.args.more) = omega (arith, ints, c.requires.interval, c.requires.more) in
    let high : FitsSigned w128 (c.args.interval.now.high +ℤ c.args.more) = omega (arith, ints, c.requires.interval, c.requires.more) in
    simp to_z-of_z

pub returns-clause-near : goal.returns-clause-near
returns-clause-near c =
    let m : FitsSigned w128 c.args.more = search rules in
    let l : FitsSigned w128 c.args.interval.now.low = search rules in
    let h : FitsSigned w128 c.args.interval.now.high = search rules in
    let low : FitsSigned w128 (c.args.interval.now.low -ℤ c.args.more) = omega (arith, ints, c.requires.interval, c.requires.more) in
    let high : FitsSigned w128 (c.args.interval.now.high +ℤ c.args.more) = omega (arith, ints, c.requires.interval, c.requires.more) in
    λ bound near. simp to_z-of_z (record {
      low_from = omega (arith, ints, near.low_from, c.requires.more);
      low_to = omega (arith, ints, near.low_to, c.requires.more);
      high_from = omega (arith, ints, near.high_from, c.requires.more);
      high_to = omega (arith, ints, near.high_to, c.requires.more);
    })
