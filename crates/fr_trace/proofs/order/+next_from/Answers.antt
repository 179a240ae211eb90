use Rattle.std.proofs.Common.{◌<◌, ◌∙◌, sym, length, arith}
use Rattle.fr_trace.proofs.Nodes.{next-here, next-there}
use Rattle.fr_trace.proofs.order.+next_from.Goals as goal

pub returns-then-is_due_behind : goal.returns-then-is_due_behind
returns-then-is_due_behind t c =
    let s = c.args.standing.now in
    let lt : c.args.place < length c.args.nodes.now = omega arith in
    next-here s.named.now s.joins.now s.cycle s.before.now c.args.nodes.now c.args.node c.args.place c.node_at-spec.result.now lt c.node_at-spec.ensures
    (sym c.is_due_behind.ensures ∙ c.if-is_due_behind.true)

pub returns : goal.returns
returns t c =
    let s = c.args.standing.now in
    let lt : c.args.place < length c.args.nodes.now = omega arith in
    c.next_from.ensures
    ∙ next-there s.named.now s.joins.now s.cycle s.before.now c.args.nodes.now c.args.node c.args.place c.node_at-spec.result.now lt c.node_at-spec.ensures
    (sym c.is_due_behind.ensures ∙ c.if-is_due_behind.false)
