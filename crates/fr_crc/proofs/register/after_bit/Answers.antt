use Rattle.std.proofs.Common.{◌*◌, ◌%◌}
use Rattle.fr_crc.proofs.Remainders.{taken-lt, bits-taken, bits-left}
use Rattle.fr_crc.proofs.register.after_bit.Goals as goal

pub returns-then-top-bit-clause-fits : goal.returns-then-top-bit-clause-fits
returns-then-top-bit-clause-fits c =
    taken-lt c.args.generator.width (c.args.register * 2 % 4294967296) c.args.generator.terms c.args.generator.room c.args.generator.fits

pub returns-then-top-bit-clause-next : goal.returns-then-top-bit-clause-next
returns-then-top-bit-clause-next c =
    bits-taken c.args.generator.width c.args.generator.terms c.args.register c.args.bit c.args.generator.some c.args.generator.room c.requires c.if-top-bit.true

pub returns-else-top-bit-clause-next : goal.returns-else-top-bit-clause-next
returns-else-top-bit-clause-next c =
    bits-left c.args.generator.width c.args.generator.terms c.args.register c.args.bit c.args.generator.some c.args.generator.room c.requires c.if-top-bit.false
