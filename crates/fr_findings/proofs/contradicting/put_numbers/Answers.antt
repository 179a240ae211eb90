use Rattle.std.proofs.Common.{ℕ, List, ◌++◌, subst}
use Rattle.fr_base.specs.Device.{Puts}
use Rattle.fr_base.proofs.Putting.{cut, then}
use Rattle.fr_judging.specs.Knowing.{spread_told}
use Rattle.fr_findings.specs.Ground.{basis_in, double_in}
use Rattle.fr_findings.proofs.Printing.{missed-is, spread-is}
use Rattle.fr_findings.proofs.contradicting.put_numbers.Goals as goal

pub returns-in_err-put_missed : goal.returns-in_err-put_missed
returns-in_err-put_missed g c =
    let b = basis_in c.args.ground.now in
    let d = double_in c.args.double.now in
    let st = c.args.standing.now in
    let spread : List ℕ = spread_told b.params b.log d.number st in
    subst (λ (l : List ℕ). Puts c.from_residual.result (g.O.Sink.state c.args.out.now) (g.O.Sink.state c.put_missed.new.out) (l ++ spread))
    (missed-is c.args.ground.now c.args.double.now c.scene_of-scene.result st c.scene_of-scene.ensures.value)
    (cut c.from_residual.result spread c.in_err-put_missed.ensures c.from_residual.ensures.0)

pub returns : goal.returns
returns g c =
    let st = c.args.standing.now in
    let missed = missed-is c.args.ground.now c.args.double.now c.scene_of-scene.result st c.scene_of-scene.ensures.value in
    let spread = spread-is c.args.ground.now c.args.double.now c.scene_of-scene.result st c.scene_of-scene.ensures.value in
    subst (Puts c.put_spread.result (g.O.Sink.state c.args.out.now) (g.O.Sink.state c.put_spread.new.out)) (λ i. missed i ++ spread i)
    (then c.put_spread.result c.in_ok-put_missed.ensures c.put_spread.ensures)
