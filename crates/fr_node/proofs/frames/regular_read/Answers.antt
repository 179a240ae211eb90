use Rattle.std.proofs.Common.{◌∙◌, Ok, ap, sym}
use Rattle.fr_frame.proofs.Found.{frame_read}
use Rattle.fr_reception.proofs.Frames.{regular_is_frame}
use Rattle.fr_reception.specs.Regular.{regular_frame, regular_header, regular_payload}
use Rattle.fr_node.proofs.frames.regular_read.Goals as goal

pub returns : goal.returns
returns c =
    let p = c.args.params.now in
    let sending = c.args.sending.now in
    let slot = c.args.slot in
    let cycle = c.args.cycle in
    let channel = c.args.channel in
    ap Ok c.header_of.ensures.value
    ∙ sym (frame_read channel (regular_header p sending slot cycle) (regular_payload p sending slot cycle) (regular_frame p sending slot cycle channel)
    (regular_is_frame p sending slot cycle channel c.sane.ensures c.requires.sends))
