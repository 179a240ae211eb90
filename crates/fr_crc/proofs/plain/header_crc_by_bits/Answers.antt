use Rattle.fr_crc.proofs.Steps.{header_crc_after}
use Rattle.fr_crc.proofs.plain.header_crc_by_bits.Goals as goal

pub returns : goal.returns
returns c =
    header_crc_after c.args.sync c.args.startup c.args.id c.args.words
    c.after_bit-register.result c.after_bit-register-2.result c.after_bits-register.result c.after_bits-register-2.result
    c.after_bits-register-2.ensures.fits c.after_bit-register.ensures.next c.after_bit-register-2.ensures.next
    (rw c.from.ensures at c.after_bits-register.ensures.after) (rw c.from-2.ensures at c.after_bits-register-2.ensures.after)
