use Rattle.std.proofs.Common.{ℕ, List, ◌++◌, map, ap, refl, subst}
use Rattle.std.specs.Prelude.{codes}
use Rattle.fr_base.proofs.Putting.{cut, then}
use Rattle.fr_base.specs.Device.{Puts}
use Rattle.fr_cluster.specs.Values.{Values}
use Rattle.fr_params.proofs.Putting.{whole-text}
use Rattle.fr_params.specs.Texts.{node_record, slot_record}
use Rattle.fr_text.specs.Texts.{text_of_records}
use Rattle.fr_params.proofs.writing.write.Goals as goal

pub put_text-requires : goal.put_text-requires
put_text-requires g c = record { front = codes "version,2,,,"; ended = refl }

pub returns-in_err-put_text : goal.returns-in_err-put_text
returns-in_err-put_text g c = rw (← whole-text c.args.params.now) (cut _ _ c.in_err-put_text.ensures c.from_residual.ensures.0)

pub returns-in_err-put_values : goal.returns-in_err-put_values
returns-in_err-put_values g c =
    rw (← whole-text c.args.params.now) (then _ c.in_ok-put_text.ensures (cut _ _ c.in_err-put_values.ensures c.from_residual-in_err-put_values.ensures.0))

pub returns : goal.returns
returns g c =
    let Lists : Values → List ℕ = λ p. text_of_records (map node_record p.nodes) ++ text_of_records (map slot_record p.slots) in
    let P : List ℕ → Type 0 = λ text. Puts c.put_lists.result (g.O.Sink.state c.put_values.new.out) (g.O.Sink.state c.put_lists.new.out) text in
    let lists : P (Lists c.args.params.now) = subst P (ap Lists c.params.view_is) c.put_lists.ensures in
    rw (← whole-text c.args.params.now) (then c.put_lists.result c.in_ok-put_text.ensures (then c.put_lists.result c.in_ok-put_values.ensures lists))
