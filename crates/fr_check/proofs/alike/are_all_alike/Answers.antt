use Rattle.std.proofs.Common.{◌∙◌, ◌+◌, ◌*◌, sym, subst, arith}
use Rattle.fr_verdict.specs.Sound.{IsHeardCycle}
use Rattle.fr_check.proofs.AlikeCycles.{alike_away, alike_there}
use Rattle.fr_check.proofs.alike.are_all_alike.Goals as goal

pub are_alike_in-requires-clause-even : goal.are_alike_in-requires-clause-even
are_alike_in-requires-clause-even c =
    let lt = c.if-even-cycles.true in
    subst IsHeardCycle (sym c.index-cycles-even.is) (c.heard_cycles-cycles.ensures.heard (2 * c.args.double) c.index-cycles-even.result (omega (arith, lt)))

pub are_alike_in-requires-clause-odd : goal.are_alike_in-requires-clause-odd
are_alike_in-requires-clause-odd c =
    subst IsHeardCycle (sym c.index-cycles-even-then-even-cycles.is)
    (c.heard_cycles-cycles.ensures.heard (2 * c.args.double + 1) c.index-cycles-even-then-even-cycles.result c.if-even-cycles.true)

pub returns-then-even-cycles : goal.returns-then-even-cycles
returns-then-even-cycles c =
    c.are_alike_in.ensures
    ∙ sym (alike_there c.args.params.now c.args.trace.now c.heard_cycles-cycles.result.now c.args.double c.index-cycles-even.result c.index-cycles-even-then-even-cycles.result c.heard_cycles-cycles.ensures.history c.if-even-cycles.true
    c.index-cycles-even.is c.index-cycles-even-then-even-cycles.is)

pub returns-else-even-cycles : goal.returns-else-even-cycles
returns-else-even-cycles c =
    sym (alike_away c.args.params.now c.args.trace.now c.heard_cycles-cycles.result.now c.args.double c.heard_cycles-cycles.ensures.history c.if-even-cycles.false)
