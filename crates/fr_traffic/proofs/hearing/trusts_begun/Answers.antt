use Rattle.std.proofs.Common.{◌≡◌, true, false, rules}
use Rattle.fr_traffic.specs.Traffic.{is_trusted, may_receive, traffic_with}
use Rattle.fr_traffic.proofs.HeardLists.{or_first, or_second}
use Rattle.fr_traffic.proofs.hearing.trusts_begun.Goals as goal

pub returns-then-not-may_receive : goal.returns-then-not-may_receive
returns-then-not-may_receive c =
    let t = traffic_with c.args.nodes.now c.args.script.now in
    let none : c.may_receive.result ≡ false = search rules in
    or_first c.may_receive.result (may_receive t c.args.double c.args.node.now) (is_trusted c.args.rate t c.args.double c.args.node.now) (c.may_receive.ensures c.args.nodes.now) none

pub returns-else-not-may_receive : goal.returns-else-not-may_receive
returns-else-not-may_receive c =
    let t = traffic_with c.args.nodes.now c.args.script.now in
    let some : c.may_receive.result ≡ true = search rules in
    or_second c.may_receive.result (may_receive t c.args.double c.args.node.now) (is_trusted c.args.rate t c.args.double c.args.node.now) c.is_trusted.result (c.may_receive.ensures c.args.nodes.now) some c.is_trusted.ensures
