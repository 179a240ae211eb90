use Rattle.std.proofs.Common.{◌≡◌, ◌∙◌, ◌+◌, ◌≤◌, ◌<◌, List, ℕ, Option, length, get_or, drop, map, take, ap, ap₂, sym, subst, arith}
use Rattle.std.proofs.lemmas.List.{get_or_read, length-map, take_at}
use Rattle.fr_pool.specs.Pool.{written_in}
use Rattle.fr_reception.specs.Regular.{payload_bytes}
use Rattle.fr_air.specs.Cells.{bytes_said, held_of}
use Rattle.fr_air.specs.Memory.{Held, MemoryView, with_frame}
use Rattle.fr_air.specs.Turns.{frame_of_turn}
use Rattle.fr_air.specs.declared.memory.Message.{Message}
use Rattle.fr_air.proofs.Messages.{held-written, none, said-beside}
use Rattle.fr_air.proofs.Remembered.{holding, short, written-long}
use Rattle.fr_air.proofs.memory.Memory.encode.Goals as goal

pub write_frame-requires-clause-room : goal.write_frame-requires-clause-room
write_frame-requires-clause-room c = omega (arith, short c.args.files.now.params c.sane.ensures, c.write.ensures.whole)

pub returns : goal.returns
returns c =
    let a = c.args in
    let m = c.self.inside in
    let frame : List ℕ = frame_of_turn a.files.now a.turn.now a.sending.now in
    let old : List ℕ = c.write.result.now in
    let lt : a.cell < length m.messages.items = rw length-map at (subst (λ (memory : MemoryView). a.cell < length memory.held) (sym c.self.view_is) c.requires.kept) in
    let bytes : m.bytes ≡ 8 + payload_bytes a.files.now.params = ap (λ (memory : MemoryView). memory.bytes) c.self.view_is ∙ c.requires.bytes in
    let message : c.index.result.now ≡ get_or m.messages.items a.cell none = get_or_read m.messages.items a.cell c.index.result.now lt c.index.ensures none in
    let number : c.index.result.now.cell ≡ a.cell = ap (λ (one : Message). one.cell) message ∙ c.self.invariant.0.cells.order a.cell none lt in
    let fits : c.write_frame.result ≤ length old = omega (arith, short a.files.now.params c.sane.ensures, c.write_frame.ensures.count, c.write.ensures.whole) in
    let long : length frame ≡ m.bytes = written-long frame old c.write_frame.new.out c.write_frame.result c.write_frame.ensures.written c.write_frame.auto.out fits ∙ c.write_frame.ensures.count ∙ sym bytes in
    let front : take m.bytes c.write_frame.new.out ≡ frame = ap (take m.bytes) c.write_frame.ensures.written ∙ take_at frame (drop c.write_frame.result old) m.bytes long in
    let whole : ℕ → MemoryView = λ k. record { places = length m.places.items; bytes = m.bytes; held = map (held_of m.bytes (written_in k c.write_frame.new.out m.pool)) m.messages.items; said = bytes_said m.bytes (written_in k c.write_frame.new.out m.pool) m.said } in
    let seen : List Held → Option (List ℕ) → MemoryView = λ held said. record { places = length m.places.items; bytes = m.bytes; held = held; said = said } in
    let P : MemoryView → Type 0 = λ memory. whole c.index.result.now.cell ≡ holding memory (with_frame a.cell frame memory.held) in
    record {
      written = subst P c.self.view_is (
          ap whole number
          ∙ ap₂ seen (held-written m.bytes m.pool m.messages.items a.cell c.write_frame.new.out m.said c.self.invariant.0.cells lt c.self.invariant.0.whole)
          (said-beside m.bytes m.pool m.messages.items a.cell c.write_frame.new.out m.said c.self.invariant.0.cells lt)
          ∙ ap (λ (bytes : List ℕ). seen (with_frame a.cell bytes (map (held_of m.bytes m.pool) m.messages.items)) (bytes_said m.bytes m.pool m.said)) front);
      long = long ∙ ap (λ (memory : MemoryView). memory.bytes) c.self.view_is;
    }
