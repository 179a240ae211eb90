use Rattle.std.proofs.Common.{◌≡◌, rules, sym}
use mir.Val.{to_z, of_z}
use mir.Syntax.{w64}
use Rattle.std.proofs.lemmas.Int.{to_z-of_z}
use Rattle.fr_verdict.proofs.Checks.{checks-none, checks-some}
use Rattle.fr_verdict.proofs.covering.failing_check.Goals as goal

pub returns-in-Ok : goal.returns-in-Ok
returns-in-Ok c = sym (checks-none c.args.params.now c.in-Ok.ensures.all)

pub returns-in-Err : goal.returns-in-Err
returns-in-Err c =
    let left : to_z w64 (of_z w64 c.side-sides.result.left) ≡ c.side-sides.result.left = to_z-of_z w64 c.side-sides.result.left (search rules) in
    let right : to_z w64 (of_z w64 c.side-sides.result.right) ≡ c.side-sides.result.right = to_z-of_z w64 c.side-sides.result.right (search rules) in
    rw (left, right, c.side-sides.ensures.left, c.side-sides.ensures.right) (sym (checks-some c.args.params.now c.in-Err.number c.in-Err.ensures.first))
