use Rattle.std.proofs.Common.{◌≡◌, ◌∙◌, ℤ, [], FitsSigned, w64, ap, sym, subst}
use Rattle.std.proofs.lemmas.Int.{to_z-of_z}
use Rattle.fr_base.specs.declared.node_row.NodeRow.{NodeRow}
use Rattle.fr_cluster.specs.Values.{Values}
use Rattle.fr_reception.specs.Offers.{Offer}
use Rattle.fr_node.specs.Receptions.{answer_with}
use Rattle.fr_node.specs.View.{node_row_of}
use Rattle.fr_node.proofs.Receptions.{answer_received}
use Rattle.fr_node.proofs.node.Node.hear_received.Goals as goal

pub returns-clause-answer : goal.returns-clause-answer
returns-clause-answer c bytes made =
    let a = c.args in
    let p : Values = a.params.now in
    let row : NodeRow = node_row_of a.self.now in
    let offer : Offer = record { slot = a.slot; channel = a.channel; arrival = a.arrival; bytes = bytes } in
    let arrival : FitsSigned w64 a.arrival = c.ranges.arrival in
    let P : ℤ → Type 0 = λ at. c.answer_to-heard.result ≡ answer_with p row (record { slot = a.slot; channel = a.channel; arrival = at; bytes = [] }) a.reception.now in
    subst P (to_z-of_z w64 a.arrival arrival) c.answer_to-heard.ensures.answer
    ∙ ap (answer_with p row offer) made
    ∙ sym (answer_received p a.self.now.cycle row offer)

pub returns-clause-made : goal.returns-clause-made
returns-clause-made c =
    let a = c.args in
    let p : Values = a.params.now in
    let arrival : FitsSigned w64 a.arrival = c.ranges.arrival in
    let P : ℤ → Type 0 = λ at. c.answer_to-heard.result ≡ answer_with p (node_row_of a.self.now) (record { slot = a.slot; channel = a.channel; arrival = at; bytes = [] }) a.reception.now in
    subst P (to_z-of_z w64 a.arrival arrival) c.answer_to-heard.ensures.answer
