use Rattle.std.proofs.Common.{◌≡◌, Option, filter_map, get_or, option_to_list, refl, sym, subst, arith, rules}
use Rattle.std.specs.List.{Contains}
use Rattle.std.proofs.lemmas.List.Elements.{Contains-get_or}
use Rattle.fr_observe.specs.Telling.{sender_fault}
use Rattle.fr_sightings.specs.declared.sender.Sender.{Sender}
use Rattle.fr_observe.specs.declared.fault.Fault.{Fault}
use Rattle.fr_observe.proofs.Told.{may-step, told_end, told_is, told_next, told_stop}
use Rattle.fr_observe.proofs.sender_faults.put_of_senders.Goals as goal

pub sender_fault-requires-clause-among : goal.sender_fault-requires-clause-among
sender_fault-requires-clause-among g c =
    let senders = c.args.scene.now.senders.now in
    let place = c.loop-sender.sender-index in
    let s = c.sender-item.result in
    let at : s ≡ get_or senders place s = search rules in
    subst (Contains senders) (sym at) (Contains-get_or senders place s (omega arith))

pub loop-sender-preserved : goal.loop-sender-preserved
loop-sender-preserved g c = λ result after last rest.
    let h : Sender → Option Fault = sender_fault c.args.asked c.args.scene.now.params.now c.args.scene.now.log.now c.args.scene.now.scale.now c.args.scene.now.number c.args.scene.now.senders.now in
    let items = c.args.scene.now.senders.now in
    let place = c.loop-sender.sender-index in
    let item = c.sender-item.result in
    let at : item ≡ get_or items place item = search rules in
    let is : c.sender_fault.result ≡ h item = search rules in
    c.loop-sender.invariant result after last
    (told_next (λ x. option_to_list (h x)) (filter_map h) (may-step h) result items place item (omega arith) at
    (told_is is c.in_ok-tell.ensures) rest)

pub returns-in_err-tell : goal.returns-in_err-tell
returns-in_err-tell g c =
    let h : Sender → Option Fault = sender_fault c.args.asked c.args.scene.now.params.now c.args.scene.now.log.now c.args.scene.now.scale.now c.args.scene.now.number c.args.scene.now.senders.now in
    let items = c.args.scene.now.senders.now in
    let place = c.loop-sender.sender-index in
    let item = c.sender-item.result in
    let at : item ≡ get_or items place item = search rules in
    let is : c.sender_fault.result ≡ h item = search rules in
    c.loop-sender.invariant _ _ _
    (told_stop (λ x. option_to_list (h x)) (filter_map h) (may-step h) c.from_residual.result items place item (omega arith) at
    (told_is is c.in_err-tell.ensures) c.from_residual.ensures.0)

pub returns : goal.returns
returns g c =
    let h : Sender → Option Fault = sender_fault c.args.asked c.args.scene.now.params.now c.args.scene.now.log.now c.args.scene.now.scale.now c.args.scene.now.number c.args.scene.now.senders.now in
    c.loop-sender.invariant _ _ _
    (
    told_end (λ x. option_to_list (h x)) (filter_map h) (may-step h) (g.O.Sink.state c.loop-sender.out) c.loop-sender.first c.args.scene.now.senders.now c.loop-sender.sender-index refl
    (omega arith)
    )
