use Rattle.std.proofs.Common.{◌≡◌, Option, get_or, sym, subst, arith, rules}
use Rattle.std.specs.List.{Contains}
use Rattle.std.proofs.lemmas.List.Elements.{Contains-get_or}
use Rattle.fr_judging.specs.Missing.{missed_where, missed_row}
use Rattle.fr_judging.specs.declared.missed.Missed.{Missed}
use Rattle.fr_sightings.specs.declared.sender.Sender.{Sender}
use Rattle.fr_judging.proofs.Rows.{rows-end, rows-next, rows-same, rows-stop}
use Rattle.fr_judging.proofs.missed.put_of_term.Goals as goal

pub missed_where-requires-clause-among : goal.missed_where-requires-clause-among
missed_where-requires-clause-among g c =
    let senders = c.args.scene.now.senders.now in
    let place = c.loop-sender.sender-index in
    let s = c.sender-item.result in
    let at : s ≡ get_or senders place s = search rules in
    subst (Contains senders) (sym at) (Contains-get_or senders place s (omega arith))

pub loop-sender-preserved : goal.loop-sender-preserved
loop-sender-preserved g c = λ result after rest.
    let s = c.args.scene.now in
    let h : Sender → Option Missed = missed_where c.args.term s.params.now s.log.now s.scale.now s.number s.senders.now in
    let senders = s.senders.now in
    let place = c.loop-sender.sender-index in
    let item = c.sender-item.result in
    let at : item ≡ get_or senders place item = search rules in
    c.loop-sender.invariant result after
    (rows-next h missed_row result senders place item (omega arith) at (rows-same missed_row {same = h item} c.missed_where.ensures c.in_ok-put_one.ensures) rest)

pub returns-in_err-put_one : goal.returns-in_err-put_one
returns-in_err-put_one g c =
    let s = c.args.scene.now in
    let h : Sender → Option Missed = missed_where c.args.term s.params.now s.log.now s.scale.now s.number s.senders.now in
    let senders = s.senders.now in
    let place = c.loop-sender.sender-index in
    let item = c.sender-item.result in
    let at : item ≡ get_or senders place item = search rules in
    c.loop-sender.invariant _ _
    (rows-stop h missed_row c.from_residual.result senders place item (omega arith) at (rows-same missed_row {same = h item} c.missed_where.ensures c.in_err-put_one.ensures) c.from_residual.ensures.0)

pub returns : goal.returns
returns g c =
    let s = c.args.scene.now in
    let h : Sender → Option Missed = missed_where c.args.term s.params.now s.log.now s.scale.now s.number s.senders.now in
    c.loop-sender.invariant _ _ (rows-end h missed_row (g.O.Sink.state c.loop-sender.out) s.senders.now c.loop-sender.sender-index (omega arith))
