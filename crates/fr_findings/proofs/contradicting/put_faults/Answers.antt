use Rattle.std.proofs.Common.{◌≡◌, ◌∙◌, List, Ok, is_none, ap, subst, rules}
use Rattle.std.specs.List.{flat_map}
use Rattle.std.specs.Option.{option_or}
use Rattle.fr_base.specs.Device.{Puts}
use Rattle.fr_observe.specs.Faults.{fault_row, first_of_faults, is_nil}
use Rattle.fr_judging.specs.Knowing.{known_next}
use Rattle.fr_judging.specs.Obstacles.{farther}
use Rattle.fr_observe.specs.declared.fault.Fault.{Fault}
use Rattle.fr_observe.proofs.Told.{clean-is}
use Rattle.fr_findings.specs.Ground.{basis_in, double_in}
use Rattle.fr_findings.specs.Verdict.{known_next_told, known_told, moving_told, standing_told}
use Rattle.fr_findings.proofs.Printing.{known-is, moving-cut, moving-is, moving-then, told_failed}
use Rattle.fr_findings.proofs.contradicting.put_faults.Goals as goal

pub returns-in_err-put_moving_faults-clause-puts : goal.returns-in_err-put_moving_faults-clause-puts
returns-in_err-put_moving_faults-clause-puts g c =
    let result = c.from_residual.result in
    let known = known-is c.args.ground.now c.args.double.now c.scene_of-scene.result c.args.standing.now c.args.progress.now.known c.scene_of-scene.ensures.value c.requires.standing in
    subst (λ (faults : List Fault). Puts result (g.O.Sink.state c.args.out.now) (g.O.Sink.state c.put_moving_faults.new.out) (flat_map fault_row faults)) known
    (moving-cut c.scene_of-scene.result c.args.standing.now result c.in_err-put_moving_faults.ensures c.from_residual.ensures.0).puts

pub returns-in_err-put_term_faults-clause-puts : goal.returns-in_err-put_term_faults-clause-puts
returns-in_err-put_term_faults-clause-puts g c =
    let result = c.from_residual-in_err-put_term_faults.result in
    let known = known-is c.args.ground.now c.args.double.now c.scene_of-scene.result c.args.standing.now c.args.progress.now.known c.scene_of-scene.ensures.value c.requires.standing in
    subst (λ (faults : List Fault). Puts result (g.O.Sink.state c.args.out.now) (g.O.Sink.state c.put_term_faults.new.out) (flat_map fault_row faults)) known
    (told_failed result (moving-then c.scene_of-scene.result c.args.standing.now _ c.in_ok-put_moving_faults.ensures c.in_err-put_term_faults.ensures) c.from_residual-in_err-put_term_faults.ensures.0).puts

pub returns-clause-puts : goal.returns-clause-puts
returns-clause-puts g c =
    let known = known-is c.args.ground.now c.args.double.now c.scene_of-scene.result c.args.standing.now c.args.progress.now.known c.scene_of-scene.ensures.value c.requires.standing in
    subst (λ (faults : List Fault). Puts (Ok tt) (g.O.Sink.state c.args.out.now) (g.O.Sink.state c.put_term_faults.new.out) (flat_map fault_row faults)) known
    (moving-then c.scene_of-scene.result c.args.standing.now (Ok tt) c.in_ok-put_moving_faults.ensures c.in_ok-put_term_faults.ensures).puts

pub returns-clause-progress : goal.returns-clause-progress
returns-clause-progress g c =
    let b = basis_in c.args.ground.now in
    let d = double_in c.args.double.now in
    let progress = c.args.progress.now in
    let known = known-is c.args.ground.now c.args.double.now c.scene_of-scene.result c.args.standing.now progress.known c.scene_of-scene.ensures.value c.requires.standing in
    let moving =
    moving-is c.args.ground.now c.args.double.now c.scene_of-scene.result c.args.standing.now progress.known c.scene_of-scene.ensures.value c.requires.standing in
    let moved : c.put_moving_faults.new.first ≡ first_of_faults (moving_told b d progress.known) = c.in_ok-put_moving_faults.ensures.first ∙ ap first_of_faults moving in
    let against : c.put_term_faults.new.first ≡ first_of_faults (known_told b d progress.known) =
    (moving-then c.scene_of-scene.result c.args.standing.now (Ok tt) c.in_ok-put_moving_faults.ensures c.in_ok-put_term_faults.ensures).first ∙ ap first_of_faults known in
    let none : c.is_none.result ≡ is_none c.put_moving_faults.new.first = search rules in
    let clear : c.is_none.result ≡ is_nil (moving_told b d progress.known) = none ∙ ap is_none moved ∙ clean-is (moving_told b d progress.known) in
    let next : c.known_next-progress.result ≡ known_next_told b d progress.known =
    c.known_next-progress.ensures ∙ (λ i. known_next b.params b.log (c.requires.standing i) (clear i)) in
    let first : c.earlier-progress.result ≡ option_or progress.first (first_of_faults (known_told b d progress.known)) =
    c.earlier-progress.ensures ∙ ap (option_or progress.first) against in
    let farthest : c.farther-progress.result ≡ farther progress.obstacle (standing_told b d progress.known).obstacle =
    c.farther-progress.ensures ∙ (λ i. farther progress.obstacle (c.requires.standing i).obstacle) in
    λ i. record progress { known = next i; first = first i; obstacle = farthest i }
