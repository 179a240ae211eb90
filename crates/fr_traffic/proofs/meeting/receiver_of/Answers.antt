use Rattle.std.proofs.Common.{◌∙◌, ap, sym}
use Rattle.fr_midpoint.specs.Midpoint.{discarded}
use Rattle.fr_traffic.specs.Traffic.{traffic_with}
use Rattle.fr_traffic.proofs.MeetingRows.{absent_is, begun_is}
use Rattle.fr_traffic.proofs.meeting.receiver_of.Goals as goal

pub returns-then-may_receive : goal.returns-then-may_receive
returns-then-may_receive c =
    let t = traffic_with c.args.nodes.now c.args.script.now in
    begun_is c.args.rate t c.args.double c.args.node.now c.sure_bits.result c.discarded_of.result (sym (c.may_receive.ensures c.args.nodes.now) ∙ c.if-may_receive.true)
    c.sure_bits.ensures (c.discarded_of.ensures.value ∙ ap discarded c.most_count.ensures.value)

pub returns-else-may_receive : goal.returns-else-may_receive
returns-else-may_receive c =
    let t = traffic_with c.args.nodes.now c.args.script.now in
    absent_is c.args.rate t c.args.double c.args.node.now c.absent.result (sym (c.may_receive.ensures c.args.nodes.now) ∙ c.if-may_receive.false)
    c.absent.ensures.id c.absent.ensures.begun c.absent.ensures.sure c.absent.ensures.discards
