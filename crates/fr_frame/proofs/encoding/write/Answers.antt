use Rattle.fr_frame.proofs.Writing.{around}
use Rattle.fr_frame.proofs.encoding.write.Goals as goal

pub returns : goal.returns
returns c =
    around c.args.channel c.args.header.now c.args.payload.now c.args.out.now c.put_at.new.out c.close.new.out c.close.result c.requires c.put_at.ensures.written c.put_at.ensures.others c.close.ensures
