use Rattle.std.proofs.Common.{FitsSigned, pos, arith, rules}
use Rattle.std.specs.Prelude.{◌-ℤ◌}
use mir.Syntax.{w128}
use Rattle.std.proofs.lemmas.Int.{ints, to_z-of_z}
use Rattle.fr_base.specs.Within.{IsWithin}
use Rattle.fr_course.proofs.Numbers.{scale_is}
use Rattle.fr_judging.proofs.zeros.ahead_of.Goals as goal

pub returns-clause-within : goal.returns-clause-within
returns-clause-within c =
    let is = scale_is c.scale.view_is c.scale.invariant in
    let a : FitsSigned w128 c.args.sender.now.action = search rules in
    let b : FitsSigned w128 c.args.receiver.now.action = search rules in
    let within : IsWithin (pos 16_000) (c.args.sender.now.action -ℤ c.args.receiver.now.action) = record {
      low = omega (arith, ints, c.requires.sender.action_from, c.requires.receiver.action_to, is.correction_to, is.macros_to);
      high = omega (arith, ints, c.requires.sender.action_to, c.requires.receiver.action_from, is.correction_to, is.macros_to);
    } in
    let d : FitsSigned w128 (c.args.sender.now.action -ℤ c.args.receiver.now.action) = omega (arith, ints, within.low, within.high) in
    simp to_z-of_z within
