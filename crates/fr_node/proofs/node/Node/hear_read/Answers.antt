use Rattle.std.proofs.Common.{◌≡◌, ◌∙◌, ℕ, ℤ, FitsSigned, w64, ap, subst}
use Rattle.std.proofs.lemmas.Int.{to_z-of_z}
use Rattle.fr_cluster.specs.Values.{Values}
use Rattle.fr_frame.specs.Reading.{read_as}
use Rattle.fr_reception.specs.Answers.{answer_of}
use Rattle.fr_node.specs.Receptions.{received_as}
use Rattle.fr_node.specs.View.{NodeView, node_row_of}
use Rattle.fr_node.proofs.node.Node.hear_read.Goals as goal

pub returns-clause-answer : goal.returns-clause-answer
returns-clause-answer c =
    let a = c.args in
    let p : Values = a.params.now in
    let arrival : FitsSigned w64 a.arrival = c.ranges.arrival in
    let cycle : c.self.inside.cycle ≡ a.self.now.cycle = ap (λ (node : NodeView). node.cycle) c.self.view_is in
    let made : c.received-reception.result ≡ received_as p a.self.now.cycle a.slot (read_as a.channel a.bytes.now) =
    c.received-reception.ensures
    ∙ ap (λ (n : ℕ). received_as p n a.slot a.told.now) cycle
    ∙ ap (received_as p a.self.now.cycle a.slot) c.requires.told in
    let P : ℤ → Type 0 = λ at. c.hear_received.result ≡ answer_of p a.self.now.cycle (node_row_of a.self.now) (record { slot = a.slot; channel = a.channel; arrival = at; bytes = a.bytes.now }) in
    subst P (to_z-of_z w64 a.arrival arrival) (c.hear_received.ensures.answer a.bytes.now made)
