use Rattle.std.proofs.Common.{ap, sym}
use Rattle.fr_frame.proofs.Found.{frame_read, fault_read}
use Rattle.fr_sightings.specs.Judging.{header_read}
use Rattle.fr_sightings.proofs.judging.framed_header.Goals as goal

pub returns-in-Ok-clause-value : goal.returns-in-Ok-clause-value
returns-in-Ok-clause-value c =
    ap header_read
    (sym (frame_read c.args.channel c.in-Ok.frame.header c.in-Ok.frame.payload.now c.args.bytes.now (c.in-Ok.frame.header_crc, (c.in-Ok.frame.frame_crc, c.in-Ok.ensures.found))))

pub returns-in-Err-clause-value : goal.returns-in-Err-clause-value
returns-in-Err-clause-value c = ap header_read (sym (fault_read c.args.channel c.args.bytes.now c.in-Err.field-0 c.in-Err.ensures.fault))
