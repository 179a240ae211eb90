use Rattle.std.proofs.Common.{◌≡◌, ◌∙◌, ◌+◌, ◌*◌, ℕ, ap, arith}
use Rattle.fr_cluster.specs.Values.{amount}
use Rattle.fr_cluster.specs.declared.names.ParamName.TheVariants as name
use Rattle.fr_reception.specs.Regular.{payload_bytes}
use Rattle.fr_air.specs.Memory.{MemoryView, held_at}
use Rattle.fr_air.specs.Turns.{frame_of_turn}
use Rattle.fr_air.proofs.Messages.{frame-put}
use Rattle.fr_air.proofs.memory.Memory.keep.Goals as goal

pub claim-cell-requires-clause-within : goal.claim-cell-requires-clause-within
claim-cell-requires-clause-within c =
    let a = c.args in
    let places : a.self.now.places ≡ 2 * amount a.files.now.params name.gNumberOfStaticSlots = ap (λ (memory : MemoryView). memory.places) c.requires.memory in
    omega (arith, places, c.requires.sending.static_slot, c.place_of_slot.ensures.below)

pub returns-clause-frame : goal.returns-clause-frame
returns-clause-frame c =
    let cell : ℕ = c.claim-cell.result in
    ap (λ (memory : MemoryView). (held_at memory.held cell).frame) c.encode.ensures.written
    ∙ frame-put c.claim-cell.new.self.held cell (frame_of_turn c.args.files.now c.args.turn.now c.args.sending.now) c.claim-cell.ensures.claimed.within

pub returns-clause-long : goal.returns-clause-long
returns-clause-long c =
    let a = c.args in
    let bytes : c.claim-cell.new.self.bytes ≡ 8 + payload_bytes a.files.now.params = ap (λ (memory : MemoryView). memory.bytes) c.claim-cell.ensures.rest ∙ ap (λ (memory : MemoryView). memory.bytes) c.requires.memory in
    omega (arith, c.encode.ensures.long, bytes)
