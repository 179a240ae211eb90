use Rattle.std.proofs.Common.{◌≡◌, ◌∙◌, ◌≤◌, ◌<◌, ◌+◌, List, ℕ, Option, Some, None, length, drop, map, ap, ap₂, sym, subst, arith}
use Rattle.std.specs.Prelude.{vec_capacity}
use Rattle.std.proofs.lemmas.Option.{none-some, slice_get_within}
use Rattle.fr_pool.specs.Pool.{PoolView, written_in}
use Rattle.fr_reception.specs.Regular.{payload_bytes}
use Rattle.fr_air.specs.Cells.{held_of, bytes_said, IsMemory}
use Rattle.fr_air.specs.Memory.{Held, MemoryView, frame_at}
use Rattle.fr_air.specs.Turns.{frame_of_turn}
use Rattle.fr_air.proofs.Claiming.{memory-said, spare, taken-next}
use Rattle.fr_air.proofs.Messages.{held-beside, unsaid}
use Rattle.fr_air.proofs.Remembered.{short, written-long}
use Rattle.fr_air.proofs.Staying.{front-written}
use Rattle.fr_air.proofs.memory.Memory.begin_saying.Goals as goal

pub take_spare-cell-requires : goal.take_spare-cell-requires
take_spare-cell-requires c =
    let m = c.self.inside in
    spare m.pool m.messages.items m.places.items (vec_capacity m.messages) m.said c.self.invariant.0

pub write_frame-requires-clause-room : goal.write_frame-requires-clause-room
write_frame-requires-clause-room c = omega (arith, short c.args.files.now.params c.sane.ensures, c.write.ensures.whole)

pub give-requires : goal.give-requires
give-requires c =
    let m = c.self.inside in
    let quiet : m.said ≡ None = unsaid m.bytes m.pool m.said (ap (λ (memory : MemoryView). memory.said) c.self.view_is ∙ c.requires.none) in
    absurd (none-some c.in-Some.former (sym quiet ∙ sym c.replace.ensures.value ∙ c.in-Some.is))

pub returns-in-None : goal.returns-in-None
returns-in-None c =
    let a = c.args in
    let m = c.self.inside in
    let quiet : m.said ≡ None = unsaid m.bytes m.pool m.said (ap (λ (memory : MemoryView). memory.said) c.self.view_is ∙ c.requires.none) in
    let taken = c.take_spare-cell in
    let P : Option ℕ → Type 0 = λ said. IsMemory m.pool m.messages.items m.places.items (vec_capacity m.messages) said in
    let is : IsMemory m.pool m.messages.items m.places.items (vec_capacity m.messages) None = subst P quiet c.self.invariant.0 in
    let next : taken.result ≡ length m.messages.items = taken-next m.pool taken.new.pool m.messages.items taken.result is.cells taken.ensures in
    let frame : List ℕ = frame_of_turn a.files.now a.turn.now a.sending.now in
    let old : List ℕ = c.write.result.now in
    let out : List ℕ = c.write_frame.new.out in
    let bytes : m.bytes ≡ 8 + payload_bytes a.files.now.params = ap (λ (memory : MemoryView). memory.bytes) c.self.view_is ∙ c.requires.bytes in
    let fits : c.write_frame.result ≤ length old = omega (arith, short a.files.now.params c.sane.ensures, c.write_frame.ensures.count, c.write.ensures.whole) in
    let long : length frame ≡ m.bytes = written-long frame old out c.write_frame.result c.write_frame.ensures.written c.write_frame.auto.out fits ∙ c.write_frame.ensures.count ∙ sym bytes in
    let lt : taken.result < length taken.new.pool.bytes = slice_get_within taken.new.pool.bytes taken.result old c.write.ensures.bytes in
    let same : taken.new.pool.bytes ≡ m.pool.bytes = ap (λ (p : PoolView). p.bytes) taken.ensures.taken in
    let said : frame_at (written_in taken.result out taken.new.pool) taken.result m.bytes ≡ frame =
    ap (λ (written : List ℕ). frame_at (written_in taken.result written taken.new.pool) taken.result m.bytes) c.write_frame.ensures.written
    ∙ front-written taken.new.pool taken.result m.bytes frame (drop c.write_frame.result old) lt long in
    let seen : List Held → List ℕ → MemoryView = λ held f. record { places = length m.places.items; bytes = m.bytes; held = held; said = Some f } in
    ap (λ (kept : Option ℕ). let now : MemoryView = record { places = length m.places.items; bytes = m.bytes; held = map (held_of m.bytes (written_in taken.result out taken.new.pool)) m.messages.items; said = bytes_said m.bytes (written_in taken.result out taken.new.pool) kept } in now) c.replace.ensures.after
    ∙ ap₂ seen (held-beside m.bytes m.pool taken.new.pool m.messages.items taken.result out is.cells (omega (arith, next)) same) said
    ∙ ap (λ (memory : MemoryView). let now : MemoryView = record memory { said = Some frame } in now) c.self.view_is

pub returns-in-Some : goal.returns-in-Some
returns-in-Some c =
    let m = c.self.inside in
    let quiet : m.said ≡ None = unsaid m.bytes m.pool m.said (ap (λ (memory : MemoryView). memory.said) c.self.view_is ∙ c.requires.none) in
    absurd (none-some c.in-Some.former (sym quiet ∙ sym c.replace.ensures.value ∙ c.in-Some.is))

pub invariant_of-self : goal.invariant_of-self
invariant_of-self c =
    let m = c.self.inside in
    let quiet : m.said ≡ None = unsaid m.bytes m.pool m.said (ap (λ (memory : MemoryView). memory.said) c.self.view_is ∙ c.requires.none) in
    let taken = c.take_spare-cell in
    let P : Option ℕ → Type 0 = λ said. IsMemory m.pool m.messages.items m.places.items (vec_capacity m.messages) said in
    let is : IsMemory m.pool m.messages.items m.places.items (vec_capacity m.messages) None = subst P quiet c.self.invariant.0 in
    let Q : Option ℕ → Type 0 = λ said. IsMemory (written_in taken.result c.write_frame.new.out taken.new.pool) m.messages.items m.places.items (vec_capacity m.messages) said in
    (subst Q (sym c.replace.ensures.after) (memory-said m.pool taken.new.pool m.messages.items m.places.items (vec_capacity m.messages) taken.result c.write_frame.new.out is taken.ensures), c.self.invariant.1)

pub invariant_of-self-in-Some : goal.invariant_of-self-in-Some
invariant_of-self-in-Some c =
    let m = c.self.inside in
    let quiet : m.said ≡ None = unsaid m.bytes m.pool m.said (ap (λ (memory : MemoryView). memory.said) c.self.view_is ∙ c.requires.none) in
    absurd (none-some c.in-Some.former (sym quiet ∙ sym c.replace.ensures.value ∙ c.in-Some.is))
