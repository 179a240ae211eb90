use Rattle.fr_frame.proofs.FirstFault.{fault_is_no_frame}
use Rattle.fr_capture.proofs.reading.fault_of_whole.Goals as goal

pub unreachable-requires : goal.unreachable-requires
unreachable-requires c =
    fault_is_no_frame c.args.channel c.args.kept.now c.requires.fault c.requires.first c.in-Ok.field-0.header c.in-Ok.field-0.payload.now
    (c.in-Ok.field-0.header_crc, (c.in-Ok.field-0.frame_crc, c.in-Ok.ensures.found))
