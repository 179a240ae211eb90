use Rattle.std.proofs.Common.{List, sym, subst}
use Rattle.std.specs.List.{flat_map}
use Rattle.std.proofs.lemmas.Grind.{flat_map-append}
use Rattle.fr_base.specs.Device.{Puts}
use Rattle.fr_base.proofs.Putting.{cut, then}
use Rattle.fr_judging.specs.Missing.{missed_of_term, missed_row}
use Rattle.fr_judging.specs.declared.missed.Missed.{Missed}
use Rattle.fr_observe.specs.declared.term.Term.TheVariants as term
use Rattle.fr_judging.proofs.missed.put_both.Goals as goal

pub returns-in_err-put_of_term : goal.returns-in_err-put_of_term
returns-in_err-put_of_term g c =
    let s = c.args.scene.now in
    let offsets : List Missed = missed_of_term term.Offset s.params.now s.log.now s.scale.now s.number s.senders.now in
    let rates : List Missed = missed_of_term term.Rate s.params.now s.log.now s.scale.now s.number s.senders.now in
    subst (Puts c.from_residual.result (g.O.Sink.state c.args.out.now) (g.O.Sink.state c.put_of_term.new.out)) (sym (flat_map-append missed_row offsets rates))
    (cut {text = flat_map missed_row offsets} c.from_residual.result (flat_map missed_row rates) c.in_err-put_of_term.ensures c.from_residual.ensures.0)

pub returns : goal.returns
returns g c =
    let s = c.args.scene.now in
    let offsets : List Missed = missed_of_term term.Offset s.params.now s.log.now s.scale.now s.number s.senders.now in
    let rates : List Missed = missed_of_term term.Rate s.params.now s.log.now s.scale.now s.number s.senders.now in
    subst (Puts c.put_of_term-2.result (g.O.Sink.state c.args.out.now) (g.O.Sink.state c.put_of_term-2.new.out)) (sym (flat_map-append missed_row offsets rates))
    (then {text = flat_map missed_row offsets} {rest = flat_map missed_row rates} c.put_of_term-2.result c.in_ok-put_of_term.ensures c.put_of_term-2.ensures)
