use Rattle.std.proofs.Common.{◌≡◌, ℕ, ◌+◌, ◌*◌, Option, rules}
use Rattle.fr_sightings.specs.Senders.{seen_box, seen_span}
use Rattle.fr_observe.specs.Faults.{box_fault, clock_faults, limit_fault}
use Rattle.fr_observe.specs.declared.fault.Fault.{Fault}
use Rattle.fr_observe.proofs.Told.{told_cut, told_cut_two, told_is, told_then}
use Rattle.fr_observe.proofs.own_faults.put_clock.Goals as goal

pub returns-in_err-tell : goal.returns-in_err-tell
unfolding clock_faults
returns-in_err-tell g c =
    let l = c.args.scene.now.log.now in
    let here = c.args.scene.now.here.now in
    let node = c.args.node in
    let even : ℕ = 2 * c.args.scene.now.number in
    let one : c.box_fault.result ≡ box_fault even node (seen_box l here node even) = search rules in
    told_cut_two _ _ _ (told_is one c.in_err-tell.ensures) c.from_residual.ensures.0

pub returns-in_err-tell-2 : goal.returns-in_err-tell-2
unfolding clock_faults
returns-in_err-tell-2 g c =
    let l = c.args.scene.now.log.now in
    let here = c.args.scene.now.here.now in
    let node = c.args.node in
    let even : ℕ = 2 * c.args.scene.now.number in
    let odd : ℕ = 2 * c.args.scene.now.number + 1 in
    let one : c.box_fault.result ≡ box_fault even node (seen_box l here node even) = search rules in
    let two : c.box_fault-2.result ≡ box_fault odd node (seen_box l here node odd) = search rules in
    told_cut _ _ (told_then _ (told_is one c.in_ok-tell.ensures) (told_is two c.in_err-tell-2.ensures)) c.from_residual-in_err-tell-2.ensures.0

pub returns : goal.returns
unfolding clock_faults
returns g c =
    let l = c.args.scene.now.log.now in
    let here = c.args.scene.now.here.now in
    let node = c.args.node in
    let even : ℕ = 2 * c.args.scene.now.number in
    let odd : ℕ = 2 * c.args.scene.now.number + 1 in
    let one : c.box_fault.result ≡ box_fault even node (seen_box l here node even) = search rules in
    let two : c.box_fault-2.result ≡ box_fault odd node (seen_box l here node odd) = search rules in
    let three : c.limit_fault.result ≡ limit_fault c.args.scene.now.scale.now even node (seen_box l here node even) (seen_box l here node odd) (seen_span l here here node even odd) = search rules in
    told_then _ (told_then _ (told_is one c.in_ok-tell.ensures) (told_is two c.in_ok-tell-2.ensures)) (told_is three c.tell-3.ensures)
