use Rattle.std.proofs.Common.{◌≡◌, ◌+◌, ◌-◌, ℕ, Bool, length, take, drop, ap, sym, ◌∙◌, arith}
use Rattle.fr_reception.specs.Regular.{payload_of}
use Rattle.fr_node.proofs.Written.{ramp, ramp_payload}
use Rattle.fr_node.proofs.frames.fill.Goals as goal

pub returns-then-valid : goal.returns-then-valid
returns-then-valid c =
    let first : ℕ = c.first_byte-first.result in
    let n : ℕ = length c.args.bytes.now in
    let long : first + n - first ≡ n = omega arith in
    c.copy_from_slice.ensures.after
    ∙ ap (λ (k : ℕ). take k (drop first ramp)) long
    ∙ ramp_payload c.args.slot c.args.cycle first n c.first_byte-first.ensures.value c.first_byte-first.ensures.most c.requires
    ∙ ap (λ (v : Bool). payload_of v n c.args.slot c.args.cycle) (sym c.if-valid.true)
