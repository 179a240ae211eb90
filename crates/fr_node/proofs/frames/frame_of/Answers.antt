use Rattle.std.proofs.Common.{◌≡◌}
use Rattle.fr_frame.specs.declared.header.Header.{Header}
use Rattle.fr_reception.specs.Regular.{regular_frame, regular_header}
use Rattle.fr_node.proofs.Written.{placed}
use Rattle.fr_node.proofs.frames.frame_of.Goals as goal

pub returns-clause-written : goal.returns-clause-written
unfolding regular_frame
returns-clause-written c =
    let header : Header = regular_header c.args.params.now c.args.sending.now c.args.slot c.args.cycle in
    let same : c.header_of-header.result ≡ header = c.header_of-header.ensures.value in
    placed c.args.channel c.header_of-header.result header c.args.slot c.args.cycle c.from.result c.in-Ok.written c.args.out.now c.fill.new.bytes c.seal.new.out c.from.ensures same c.requires.room c.fill.ensures c.in-Ok.ensures.written
