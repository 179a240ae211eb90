use Rattle.std.proofs.Common.{◌≡◌, true, false, rules}
use Rattle.fr_traffic.specs.Traffic.{has_value, may_send, traffic_with}
use Rattle.fr_traffic.proofs.HeardLists.{or_first, or_second}
use Rattle.fr_traffic.proofs.hearing.has_sent.Goals as goal

pub returns-then-not-may_send : goal.returns-then-not-may_send
returns-then-not-may_send c = λ nodes.
    let t = traffic_with nodes c.args.script.now in
    let none : c.may_send.result ≡ false = search rules in
    or_first c.may_send.result (may_send t c.args.asked.now.double c.args.sender.now) (has_value c.args.asked.now.rate c.args.asked.now.surely t c.args.asked.now.double c.args.receiver.now c.args.sender.now) (c.may_send.ensures nodes) none

pub returns-else-not-may_send : goal.returns-else-not-may_send
returns-else-not-may_send c = λ nodes.
    let t = traffic_with nodes c.args.script.now in
    let some : c.may_send.result ≡ true = search rules in
    or_second c.may_send.result (may_send t c.args.asked.now.double c.args.sender.now) (has_value c.args.asked.now.rate c.args.asked.now.surely t c.args.asked.now.double c.args.receiver.now c.args.sender.now) c.has_value.result (c.may_send.ensures nodes) some (c.has_value.ensures nodes)
