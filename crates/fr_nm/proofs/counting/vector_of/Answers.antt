use Rattle.std.proofs.Common.{◌≡◌, ◌∙◌, Bool, List, ℕ, Some, None, true, false, ap, sym}
use Rattle.std.specs.Prelude.{if◌then◌else◌}
use Rattle.fr_nm.specs.Vectors.{has_vector, placed}
use Rattle.fr_nm.proofs.Found.{vector-fault, vector-frame}
use Rattle.fr_nm.proofs.counting.vector_of.Goals as goal

pub returns-in_default : goal.returns-in_default
returns-in_default c = sym (vector-fault c.args.width c.args.cycle c.args.channel c.args.bytes.now c.in_default.field-0 c.in_default.ensures.fault)

pub returns-then-has_vector : goal.returns-then-has_vector
returns-then-has_vector c =
    let is : has_vector c.args.width c.args.cycle c.in-Ok.frame.header ≡ true = sym c.has_vector.ensures ∙ c.if-has_vector.true in
    ap (λ (v : List ℕ). Some v) c.placed.ensures
    ∙ sym (vector-frame c.args.width c.args.cycle c.args.channel c.in-Ok.frame.header c.in-Ok.frame.payload.now c.args.bytes.now c.in-Ok.frame.header_crc c.in-Ok.frame.frame_crc c.in-Ok.ensures.found
    ∙ ap (λ (b : Bool). if b then Some (placed c.args.width c.in-Ok.frame.payload.now) else None) is)

pub returns-else-has_vector : goal.returns-else-has_vector
returns-else-has_vector c =
    let is : has_vector c.args.width c.args.cycle c.in-Ok.frame.header ≡ false = sym c.has_vector.ensures ∙ c.if-has_vector.false in
    sym (vector-frame c.args.width c.args.cycle c.args.channel c.in-Ok.frame.header c.in-Ok.frame.payload.now c.args.bytes.now c.in-Ok.frame.header_crc c.in-Ok.frame.frame_crc c.in-Ok.ensures.found
    ∙ ap (λ (b : Bool). if b then Some (placed c.args.width c.in-Ok.frame.payload.now) else None) is)
