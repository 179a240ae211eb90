use Rattle.std.proofs.Common.{◌≡◌, ◌∙◌, List, ℕ, Some, length, ap, sym, subst}
use Rattle.std.specs.Prelude.{slice_get, vec_capacity}
use Rattle.fr_air.specs.Cells.{IsThere, StandsInCell}
use Rattle.fr_air.specs.Memory.{MemoryView, frame_at, frame_on, HasFrame}
use Rattle.fr_air.specs.Sending.{coming_offer}
use Rattle.fr_air.specs.Turns.{HasAnswered, IsMadeOf}
use Rattle.fr_air.proofs.Claiming.{stands-on}
use Rattle.fr_air.proofs.Messages.{frame-there, memory-same, there}
use Rattle.fr_air.proofs.memory.Memory.hear.Goals as goal

pub cell_at-requires : goal.cell_at-requires
cell_at-requires c =
    let m = c.self.inside in
    there m.bytes m.pool m.messages.items m.said c.args.air.now.cell (length m.places.items) (subst (λ (memory : MemoryView). HasFrame memory c.args.air.now.cell) (sym c.self.view_is) c.requires.air.stands)

pub cell_at-requires-2 : goal.cell_at-requires-2
cell_at-requires-2 c =
    let m = c.self.inside in
    there m.bytes m.pool m.messages.items m.said c.args.air.now.cell (length m.places.items) (subst (λ (memory : MemoryView). HasFrame memory c.args.air.now.cell) (sym c.self.view_is) c.requires.air.stands)

pub answer-requires-clause-stands : goal.answer-requires-clause-stands
answer-requires-clause-stands c =
    let a = c.args in
    let m = c.self.inside in
    let is : IsThere m.messages.items m.said a.air.now.cell =
    there m.bytes m.pool m.messages.items m.said a.air.now.cell (length m.places.items) (subst (λ (memory : MemoryView). HasFrame memory a.air.now.cell) (sym c.self.view_is) c.requires.air.stands) in
    let P : ℕ → Type 0 = λ k. StandsInCell m.pool k m.bytes in
    subst P (sym c.cell_at-2.ensures)
    (stands-on m.pool m.messages.items m.places.items (vec_capacity m.messages) m.bytes m.said a.air.now.cell c.read-frame.result.now c.self.invariant.0 c.self.invariant.1 is
    (subst (λ k. slice_get m.pool.bytes k ≡ Some c.read-frame.result.now) c.cell_at.ensures c.read-frame.ensures.bytes) c.read-frame.ensures.whole)

pub answer-requires-clause-reception : goal.answer-requires-clause-reception
answer-requires-clause-reception c =
    let a = c.args in
    let m = c.self.inside in
    let is : IsThere m.messages.items m.said a.air.now.cell =
    there m.bytes m.pool m.messages.items m.said a.air.now.cell (length m.places.items) (subst (λ (memory : MemoryView). HasFrame memory a.air.now.cell) (sym c.self.view_is) c.requires.air.stands) in
    let same : frame_on a.self.now a.air.now.cell ≡ frame_at m.pool c.cell_at-2.result.now m.bytes =
    ap (λ (memory : MemoryView). frame_on memory a.air.now.cell) (sym c.self.view_is)
    ∙ frame-there m.bytes m.pool m.messages.items m.said a.air.now.cell (length m.places.items) is
    ∙ ap (λ (k : ℕ). frame_at m.pool k m.bytes) (sym c.cell_at-2.ensures) in
    let P : List ℕ → Type 0 = λ frame. IsMadeOf a.files.now a.air.now.turn.now frame a.air.now.reception.now in
    subst P same c.requires.air.reception

pub returns-clause-answered : goal.returns-clause-answered
returns-clause-answered c =
    let a = c.args in
    let m = c.self.inside in
    let is : IsThere m.messages.items m.said a.air.now.cell =
    there m.bytes m.pool m.messages.items m.said a.air.now.cell (length m.places.items) (subst (λ (memory : MemoryView). HasFrame memory a.air.now.cell) (sym c.self.view_is) c.requires.air.stands) in
    let same : frame_at m.pool c.cell_at-2.result.now m.bytes ≡ frame_on a.self.now a.air.now.cell =
    ap (λ (k : ℕ). frame_at m.pool k m.bytes) c.cell_at-2.ensures
    ∙ sym (frame-there m.bytes m.pool m.messages.items m.said a.air.now.cell (length m.places.items) is)
    ∙ ap (λ (memory : MemoryView). frame_on memory a.air.now.cell) c.self.view_is in
    let P : List ℕ → Type 0 = λ frame. HasAnswered a.files.now a.air.now.turn.now (coming_offer a.air.now.turn.now frame a.coming.now) a.node.now c.answer.new.node c.answer.result in
    subst P same c.answer.ensures.answered

pub returns-clause-stays : goal.returns-clause-stays
returns-clause-stays c =
    let m = c.self.inside in
    memory-same (length m.places.items) m.bytes m.pool c.answer.new.pool m.messages.items m.said c.self.invariant.0.cells c.answer.ensures.stays ∙ c.self.view_is
