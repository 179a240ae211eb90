use Rattle.fr_crc.proofs.Entering.{byte-lt, bits-byte}
use Rattle.fr_crc.proofs.tables.after_byte.Goals as goal

pub returns-clause-fits : goal.returns-clause-fits
returns-clause-fits c = byte-lt c.args.register c.frame_entry.result c.frame_entry.ensures.fits

pub returns-clause-next : goal.returns-clause-next
returns-clause-next c = bits-byte c.args.register c.args.byte c.frame_entry.result c.frame_entry.ensures.after
