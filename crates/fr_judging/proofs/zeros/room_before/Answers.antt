use Rattle.std.proofs.Common.{FitsSigned, refl, rules, arith}
use Rattle.std.specs.Prelude.{◌+ℤ◌, ◌-ℤ◌}
use mir.Syntax.{w128}
use Rattle.std.proofs.lemmas.Int.{ints, to_z-of_z}
use Rattle.fr_course.proofs.Numbers.{micro_to_are, scale_is}
use Rattle.fr_judging.proofs.zeros.room_before.Goals as goal

pub returns-clause-value : goal.returns-clause-value
returns-clause-value c =
    let is = scale_is c.scale.view_is c.scale.invariant in
    let a : FitsSigned w128 c.args.sender.now.high = search rules in
    let b : FitsSigned w128 c.args.receiver.now.low = search rules in
    let m : FitsSigned w128 c.args.scale.now.micro_to = omega (arith, ints, is.micro_to.low, is.micro_to.high) in
    let d : FitsSigned w128 (c.args.sender.now.high -ℤ c.args.receiver.now.low) = omega (arith, ints, c.requires.sender, c.requires.receiver) in
    let e : FitsSigned w128 ((c.args.sender.now.high -ℤ c.args.receiver.now.low) +ℤ c.args.scale.now.micro_to) = omega (arith, ints, c.requires.sender, c.requires.receiver, is.micro_to.low, is.micro_to.high) in
    simp (to_z-of_z, micro_to_are c.scale.view_is)
