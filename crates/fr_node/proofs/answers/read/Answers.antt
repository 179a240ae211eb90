use Rattle.std.proofs.Common.{sym}
use Rattle.fr_frame.proofs.Found.{frame_read, fault_read}
use Rattle.fr_node.proofs.answers.read.Goals as goal

pub returns-in-Ok : goal.returns-in-Ok
returns-in-Ok c = sym (frame_read c.args.channel c.in-Ok.frame.header c.in-Ok.frame.payload.now c.args.bytes.now (c.in-Ok.frame.header_crc, (c.in-Ok.frame.frame_crc, c.in-Ok.ensures.found)))

pub returns-in-Err : goal.returns-in-Err
returns-in-Err c = sym (fault_read c.args.channel c.args.bytes.now c.in-Err.fault c.in-Err.ensures.fault)
