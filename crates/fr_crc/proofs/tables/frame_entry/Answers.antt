use Rattle.std.proofs.Common.{lit<, arith}
use Rattle.fr_crc.specs.Bits.{bits}
use Rattle.fr_crc.proofs.Entering.{frame_entered, from_zeros}
use Rattle.fr_crc.proofs.tables.frame_entry.Goals as goal

pub returns-clause-fits : goal.returns-clause-fits
returns-clause-fits c = (frame_entered c.args.index c.frame_place.result (omega arith) c.frame_place.ensures).0

pub returns-clause-after : goal.returns-clause-after
returns-clause-after c = (frame_entered c.args.index c.frame_place.result (omega arith) c.frame_place.ensures).1

pub returns-clause-remainder : goal.returns-clause-remainder
returns-clause-remainder c =
    from_zeros 24 0x5D6DCB c.frame_place.result (bits 8 c.args.index) (lit< tt)
    (frame_entered c.args.index c.frame_place.result (omega arith) c.frame_place.ensures).1
