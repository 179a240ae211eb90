use Rattle.std.proofs.Common.{◌+◌, List, Bool, drop, ap, sym, ◌∙◌, arith}
use Rattle.fr_crc.specs.Bits.{bits, message_of}
use Rattle.fr_crc.specs.Crc.{frame_generator}
use Rattle.fr_crc.specs.Register.{after}
use Rattle.fr_crc.proofs.Steps.{after-message_first}
use Rattle.fr_crc.proofs.tables.after_each.Goals as goal

pub loop-byte-preserved : goal.loop-byte-preserved
loop-byte-preserved c = record {
  fits = c.after_byte-register.ensures.fits;
  rest = ap (λ (s : List Bool). after frame_generator s (message_of (drop (c.loop-byte.byte-index + 1) c.args.bytes.now))) c.after_byte-register.ensures.next
      ∙ sym (after-message_first frame_generator (bits 24 c.loop-byte.register) c.args.bytes.now c.loop-byte.byte-index (omega arith))
      ∙ c.loop-byte.invariant.rest;
}
