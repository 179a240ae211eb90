use Rattle.fr_frame.proofs.Writing.{closed}
use Rattle.fr_frame.proofs.encoding.close.Goals as goal

pub returns : goal.returns
returns c =
    closed c.args.channel c.args.header.now c.header_crc-crc.result c.frame_crc.result c.from.result c.header_as_bytes.result c.trailer_as_bytes-back.result c.args.out.now c.put_at.new.out c.put_at-2.new.out c.requires c.from.ensures c.header_crc-crc.ensures c.header_as_bytes.ensures c.put_at.ensures.written c.put_at.ensures.others c.frame_crc.ensures c.trailer_as_bytes-back.ensures c.put_at-2.ensures.written c.put_at-2.ensures.others
