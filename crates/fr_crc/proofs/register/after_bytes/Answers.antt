use Rattle.std.proofs.Common.{◌+◌, List, Bool, drop, ap, sym, ◌∙◌, arith}
use Rattle.fr_crc.specs.Bits.{bits, message_of}
use Rattle.fr_crc.specs.Register.{after}
use Rattle.fr_crc.proofs.Steps.{after-message_first}
use Rattle.fr_crc.proofs.register.after_bytes.Goals as goal

pub loop-byte-preserved : goal.loop-byte-preserved
loop-byte-preserved c =
    let g : List Bool = bits c.args.generator.width c.args.generator.terms in
    record {
      fits = c.after_bits-register.ensures.fits;
      rest = ap (λ (s : List Bool). after g s (message_of (drop (c.loop-byte.byte-index + 1) c.args.bytes.now))) (rw c.from.ensures at c.after_bits-register.ensures.after)
          ∙ sym (after-message_first g (bits c.args.generator.width c.loop-byte.register) c.args.bytes.now c.loop-byte.byte-index (omega arith))
          ∙ c.loop-byte.invariant.rest;
    }
