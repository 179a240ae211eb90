use Rattle.fr_crc.proofs.Steps.{frame_crc_after}
use Rattle.fr_crc.proofs.checks.frame_crc.Goals as goal

pub returns : goal.returns
returns c = frame_crc_after c.args.channel c.args.body.now c.start_on.result c.after_body.result c.after_body.ensures.fits c.start_on.ensures c.after_body.ensures.after
