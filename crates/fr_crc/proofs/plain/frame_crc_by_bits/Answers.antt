use Rattle.fr_crc.proofs.Steps.{frame_crc_after}
use Rattle.fr_crc.proofs.plain.frame_crc_by_bits.Goals as goal

pub returns : goal.returns
returns c = frame_crc_after c.args.channel c.args.body.now c.start_on.result c.after_bytes.result c.after_bytes.ensures.fits c.start_on.ensures c.after_bytes.ensures.after
