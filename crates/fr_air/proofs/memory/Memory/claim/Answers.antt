use Rattle.std.proofs.Common.{◌≡◌, ◌∙◌, ◌<◌, ◌++◌, [], ◌∷◌, List, ℕ, Option, Some, None, length, get_or, map, take, ap, ap₂, sym, subst, arith}
use Rattle.std.specs.Prelude.{option_map, vec_capacity}
use Rattle.fr_air.specs.Cells.{held_of, bytes_said, IsClaimed, IsMemory}
use Rattle.fr_air.specs.Memory.{Held, MemoryView}
use Rattle.fr_air.specs.declared.memory.Message.{Message}
use Rattle.fr_air.proofs.Messages.{at-place, claimed-found, claimed-new, unsaid}
use Rattle.fr_air.proofs.memory.Memory.claim.Goals as goal

pub returns-in-Some-clause-claimed : goal.returns-in-Some-clause-claimed
returns-in-Some-clause-claimed c =
    let m = c.self.inside in
    let lt : c.args.place < length m.places.items = omega (arith, subst (λ (memory : MemoryView). c.args.place < memory.places) (sym c.self.view_is) c.requires.within) in
    let at : get_or m.places.items c.args.place None ≡ Some c.in-Some.cell = at-place m.places.items c.args.place c.index.result.now (Some c.in-Some.cell) lt c.index.ensures c.in-Some.is in
    let P : MemoryView → Type 0 = λ memory. IsClaimed memory.held memory.held c.args.place c.in-Some.cell in
    subst P c.self.view_is (claimed-found m.bytes m.pool m.messages.items m.places.items (vec_capacity m.messages) c.args.place c.in-Some.cell c.self.invariant.0.at_places at)

pub returns-in-None-clause-claimed : goal.returns-in-None-clause-claimed
returns-in-None-clause-claimed c =
    let m = c.self.inside in
    let lt : c.args.place < length m.places.items = omega (arith, subst (λ (memory : MemoryView). c.args.place < memory.places) (sym c.self.view_is) c.requires.within) in
    let at : get_or m.places.items c.args.place None ≡ None = at-place m.places.items c.args.place c.index.result.now None lt c.index.ensures c.in-None.is in
    let pushed : c.take_for.new.messages.items ≡ m.messages.items ++ (let last : Message = record { place = c.args.place; cell = length m.messages.items } in last ∷ []) =
    c.take_for.ensures.message ∙ ap (λ (k : ℕ). let last : Message = record { place = c.args.place; cell = k } in m.messages.items ++ last ∷ []) c.take_for.ensures.cell in
    let new : List Held = map (held_of m.bytes c.take_for.new.pool) c.take_for.new.messages.items in
    let P : MemoryView → Type 0 = λ memory. IsClaimed memory.held new c.args.place c.take_for.result in
    let Q : ℕ → Type 0 = λ k. IsClaimed (map (held_of m.bytes m.pool) m.messages.items) new c.args.place k in
    subst P c.self.view_is (subst Q (sym c.take_for.ensures.cell)
    (claimed-new m.bytes m.pool c.take_for.new.pool m.messages.items c.take_for.new.messages.items m.places.items (vec_capacity m.messages) c.args.place c.self.invariant.0.at_places at
    c.take_for.ensures.bytes pushed))

pub take_for-requires-clause-memory : goal.take_for-requires-clause-memory
take_for-requires-clause-memory c =
    let m = c.self.inside in
    let quiet : m.said ≡ None = unsaid m.bytes m.pool m.said (ap (λ (memory : MemoryView). memory.said) c.self.view_is ∙ c.requires.none) in
    let P : Option ℕ → Type 0 = λ said. IsMemory m.pool m.messages.items m.places.items (vec_capacity m.messages) said in
    subst P quiet c.self.invariant.0

pub invariant_of-self : goal.invariant_of-self
invariant_of-self c =
    let m = c.self.inside in
    let quiet : m.said ≡ None = unsaid m.bytes m.pool m.said (ap (λ (memory : MemoryView). memory.said) c.self.view_is ∙ c.requires.none) in
    let P : Option ℕ → Type 0 = λ said. IsMemory c.take_for.new.pool c.take_for.new.messages.items c.take_for.new.places.items (vec_capacity c.take_for.new.messages) said in
    (subst P (sym quiet) c.take_for.ensures.memory, c.self.invariant.1)

pub returns-in-None-clause-rest : goal.returns-in-None-clause-rest
returns-in-None-clause-rest c =
    let m = c.self.inside in
    let new : List Held = map (held_of m.bytes c.take_for.new.pool) c.take_for.new.messages.items in
    let bytes : bytes_said m.bytes c.take_for.new.pool m.said ≡ bytes_said m.bytes m.pool m.said = ap (λ (stored : List (List ℕ)). option_map (λ (cell : ℕ). take m.bytes (get_or stored cell [])) m.said) c.take_for.ensures.bytes in
    ap₂ (λ (places : ℕ) (said : Option (List ℕ)). let now : MemoryView = record { places = places; bytes = m.bytes; held = new; said = said } in now) c.take_for.ensures.long bytes
    ∙ ap (λ (memory : MemoryView). let now : MemoryView = record memory { held = new } in now) c.self.view_is
