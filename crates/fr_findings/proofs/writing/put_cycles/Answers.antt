use Rattle.std.proofs.Common.{◌≡◌, ◌∙◌, ℕ, ◌+◌, ◌*◌, List, ◌++◌, length, ap, subst, rules}
use Rattle.fr_base.specs.Device.{Puts}
use Rattle.fr_base.proofs.Putting.{cut, then}
use Rattle.fr_observe.specs.Observing.{cycle_row, cycles_text}
use Rattle.fr_findings.proofs.Printing.{cycles-are}
use Rattle.fr_findings.proofs.writing.put_cycles.Goals as goal

pub returns-in_err-put_line : goal.returns-in_err-put_line
returns-in_err-put_line g c =
    let skews = c.args.double.now.skews.now in
    let count = length c.args.double.now.senders.now in
    let odd : List ℕ = cycle_row c.args.ground.now.precision (2 * c.args.double.now.number + 1) count skews.odd_low skews.odd_high in
    let even : c.cycle_row.result ≡ cycle_row c.args.ground.now.precision (2 * c.args.double.now.number) count skews.even_low skews.even_high = search rules in
    let whole : c.cycle_row.result ++ odd ≡ cycles_text c.args.ground.now.precision c.args.ground.now.scale.now c.args.double.now.number c.args.double.now.senders.now =
    ap (λ (l : List ℕ). l ++ odd) even ∙ cycles-are c.args.ground.now.precision c.args.ground.now.scale.now c.args.double.now.number c.args.double.now.senders.now skews c.requires.skews in
    subst (Puts c.from_residual.result (g.O.Sink.state c.args.out.now) (g.O.Sink.state c.put_line.new.out)) whole
    (cut {text = c.cycle_row.result} c.from_residual.result odd c.in_err-put_line.ensures c.from_residual.ensures.0)

pub returns : goal.returns
returns g c =
    let skews = c.args.double.now.skews.now in
    let count = length c.args.double.now.senders.now in
    let even : c.cycle_row.result ≡ cycle_row c.args.ground.now.precision (2 * c.args.double.now.number) count skews.even_low skews.even_high = search rules in
    let odd : c.cycle_row-2.result ≡ cycle_row c.args.ground.now.precision (2 * c.args.double.now.number + 1) count skews.odd_low skews.odd_high = search rules in
    let whole : c.cycle_row.result ++ c.cycle_row-2.result ≡ cycles_text c.args.ground.now.precision c.args.ground.now.scale.now c.args.double.now.number c.args.double.now.senders.now =
    (λ i. even i ++ odd i) ∙ cycles-are c.args.ground.now.precision c.args.ground.now.scale.now c.args.double.now.number c.args.double.now.senders.now skews c.requires.skews in
    subst (Puts c.put_line-2.result (g.O.Sink.state c.args.out.now) (g.O.Sink.state c.put_line-2.new.out)) whole
    (then {text = c.cycle_row.result} {rest = c.cycle_row-2.result} c.put_line-2.result c.in_ok-put_line.ensures c.put_line-2.ensures)
