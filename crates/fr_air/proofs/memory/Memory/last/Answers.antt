use Rattle.std.proofs.Common.{◌≡◌, ◌∙◌, ◌<◌, List, ℕ, [], Some, None, length, get_or, take, ap, sym, subst, arith}
use Rattle.std.specs.Prelude.{vec_capacity}
use Rattle.std.proofs.lemmas.List.{get_or_past, get_or_read}
use Rattle.std.proofs.lemmas.Option.{get_or_from_slice_get}
use Rattle.fr_air.specs.Memory.{frame_in_cell, frame_at, MemoryView}
use Rattle.fr_air.specs.declared.memory.Message.{Message}
use Rattle.fr_air.proofs.Messages.{at-place, frame-found, frame-none, none}
use Rattle.fr_air.proofs.memory.Memory.last.Goals as goal

pub returns-then-place-len : goal.returns-then-place-len
returns-then-place-len c =
    let m = c.self.inside in
    let P : MemoryView → Type 0 = λ memory. None ≡ frame_in_cell memory.held c.args.place in
    subst P c.self.view_is (frame-none m.bytes m.pool m.messages.items m.places.items (vec_capacity m.messages) c.args.place m.said c.self.invariant.0 (get_or_past m.places.items c.args.place None (omega arith)))

pub index-requires-in-Some : goal.index-requires-in-Some
index-requires-in-Some c =
    let m = c.self.inside in
    let lt : c.args.place < length m.places.items = omega arith in
    let at : get_or m.places.items c.args.place None ≡ Some c.in-Some.cell = at-place m.places.items c.args.place c.index.result.now (Some c.in-Some.cell) lt c.index.ensures c.in-Some.is in
    let within = c.self.invariant.0.at_places.found c.args.place c.in-Some.cell at in
    omega (arith, within)

pub returns-in-Some : goal.returns-in-Some
returns-in-Some c =
    let m = c.self.inside in
    let lt : c.args.place < length m.places.items = omega arith in
    let at : get_or m.places.items c.args.place None ≡ Some c.in-Some.cell = at-place m.places.items c.args.place c.index.result.now (Some c.in-Some.cell) lt c.index.ensures c.in-Some.is in
    let within : c.in-Some.cell < length m.messages.items = c.self.invariant.0.at_places.found c.args.place c.in-Some.cell at in
    let message : c.index-in-Some.result.now ≡ get_or m.messages.items c.in-Some.cell none = get_or_read m.messages.items c.in-Some.cell c.index-in-Some.result.now within c.index-in-Some.ensures none in
    let P : MemoryView → Type 0 = λ memory. Some (take m.bytes c.read.result.now) ≡ frame_in_cell memory.held c.args.place in
    subst P c.self.view_is (
    ap (λ (stored : List ℕ). Some (take m.bytes stored)) (sym (get_or_from_slice_get m.pool.bytes c.index-in-Some.result.now.cell c.read.result.now [] c.read.ensures.bytes))
    ∙ ap (λ (one : Message). Some (frame_at m.pool one.cell m.bytes)) message
    ∙ frame-found m.bytes m.pool m.messages.items m.places.items (vec_capacity m.messages) c.args.place c.in-Some.cell m.said c.self.invariant.0 at)

pub returns-in-None : goal.returns-in-None
returns-in-None c =
    let m = c.self.inside in
    let lt : c.args.place < length m.places.items = omega arith in
    let at : get_or m.places.items c.args.place None ≡ None = at-place m.places.items c.args.place c.index.result.now None lt c.index.ensures c.in-None.is in
    let P : MemoryView → Type 0 = λ memory. None ≡ frame_in_cell memory.held c.args.place in
    subst P c.self.view_is (frame-none m.bytes m.pool m.messages.items m.places.items (vec_capacity m.messages) c.args.place m.said c.self.invariant.0 at)
