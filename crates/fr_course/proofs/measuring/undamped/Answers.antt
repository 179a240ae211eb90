use Rattle.std.proofs.Common.{FitsSigned, of_z, pos, to_z, arith}
use Rattle.std.specs.Prelude.{◌+ℤ◌}
use mir.Syntax.{w128}
use Rattle.std.proofs.lemmas.Int.{ints, to_z-of_z}
use Rattle.fr_course.specs.Near.{EndWithin}
use Rattle.fr_course.proofs.Limits.{wider}
use Rattle.fr_course.proofs.measuring.undamped.Goals as goal

pub returns-in-Some-clause-near : goal.returns-in-Some-clause-near
returns-in-Some-clause-near c =
    let d : FitsSigned w128 c.measuring.inside.damping = omega (arith, ints, c.measuring.invariant.damping) in
    let same = to_z-of_z w128 c.measuring.inside.damping d in
    let bound = pos 21_000_000_000_000 +ℤ to_z w128 (of_z w128 c.measuring.inside.damping) in
    let near : EndWithin bound c.further_by.result = c.further_by.ensures.near (pos 21_000_000_000_000) (rw c.in-Some.is at c.requires.damped) in
    wider bound (pos 22_000_000_000_000) c.further_by.result (omega (arith, ints, same, c.measuring.invariant.damping)) near
