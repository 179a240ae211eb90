use Rattle.std.proofs.Math.Seq.{drop-cons}
use Rattle.std.proofs.Common.{◌≡◌, ◌∙◌, ℕ, suc, ◌+◌, ◌<◌, ◌≤◌, List, ◌∷◌, ◌++◌, Ok, get_or, drop, length, ap, sym, subst, arith, rules}
use Rattle.std.specs.List.{flat_map}
use Rattle.std.proofs.lemmas.List.{drop_all}
use Rattle.fr_base.specs.Device.{Puts}
use Rattle.fr_base.proofs.Putting.{cut, puts_none, then}
use Rattle.fr_observe.specs.Observing.{node_row}
use Rattle.fr_sightings.specs.declared.sender.Sender.{Sender}
use Rattle.fr_findings.proofs.writing.put_nodes.Goals as goal

-- one sender, and those behind it
more : (f : Sender → List ℕ) (senders : List Sender) (place : ℕ) (s : Sender) (row : List ℕ) → place < length senders → s ≡ get_or senders place s → row ≡ f s
    → row ++ flat_map f (drop (place + 1) senders) ≡ flat_map f (drop place senders)
more f senders place s row lt at is =
    let one : place + 1 ≡ suc place = omega arith in
    let cut_is : drop place senders ≡ s ∷ drop (place + 1) senders = drop-cons senders place s lt ∙ (λ i. sym at i ∷ drop (sym one i) senders) in
    ap (λ (l : List ℕ). l ++ flat_map f (drop (place + 1) senders)) is ∙ ap (flat_map f) (sym cut_is)

pub loop-sender-preserved : goal.loop-sender-preserved
loop-sender-preserved g c = λ result after put.
    let f : Sender → List ℕ = node_row c.args.scale.now c.args.double in
    let senders = c.args.senders.now in
    let place = c.loop-sender.sender-index in
    let s = c.sender-item.result in
    let at : s ≡ get_or senders place s = search rules in
    let row : c.node_row.result ≡ f s = search rules in
    let text : c.node_row.result ++ flat_map f (drop (place + 1) senders) ≡ flat_map f (drop place senders) = more f senders place s c.node_row.result (omega arith) at row in
    c.loop-sender.invariant result after
    (subst (Puts result (g.O.Sink.state c.loop-sender.out) after) text
    (then {text = c.node_row.result} {rest = flat_map f (drop (place + 1) senders)} result c.in_ok-put_line.ensures put))

pub returns-in_err-put_line : goal.returns-in_err-put_line
returns-in_err-put_line g c =
    let f : Sender → List ℕ = node_row c.args.scale.now c.args.double in
    let senders = c.args.senders.now in
    let place = c.loop-sender.sender-index in
    let s = c.sender-item.result in
    let at : s ≡ get_or senders place s = search rules in
    let row : c.node_row.result ≡ f s = search rules in
    let text : c.node_row.result ++ flat_map f (drop (place + 1) senders) ≡ flat_map f (drop place senders) = more f senders place s c.node_row.result (omega arith) at row in
    c.loop-sender.invariant _ _
    (subst (Puts c.from_residual.result (g.O.Sink.state c.loop-sender.out) (g.O.Sink.state c.put_line.new.out)) text
    (cut {text = c.node_row.result} c.from_residual.result (flat_map f (drop (place + 1) senders)) c.in_err-put_line.ensures c.from_residual.ensures.0))

pub returns : goal.returns
returns g c =
    let f : Sender → List ℕ = node_row c.args.scale.now c.args.double in
    let a = g.O.Sink.state c.loop-sender.out in
    let done : length c.args.senders.now ≤ c.loop-sender.sender-index = omega arith in
    c.loop-sender.invariant _ _ (subst (λ (l : List Sender). Puts (Ok tt) a a (flat_map f l)) (sym (drop_all c.loop-sender.sender-index c.args.senders.now done)) (puts_none a))
