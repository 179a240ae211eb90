use Rattle.std.proofs.Common.{◌≡◌, ◌≤◌, ◌∙◌, sym, arith}
use Rattle.fr_cold.proofs.Texts.{apart-found, apart-not, apart-over}
use Rattle.fr_cold.proofs.connected.apart_after.Goals as goal

pub returns-then-are_apart : goal.returns-then-are_apart
returns-then-are_apart c =
    sym (c.loop-number.invariant.asked ∙ apart-found c.args.params.now c.args.node c.loop-number.number (omega arith) (sym c.are_apart.ensures ∙ c.if-are_apart.true))

pub loop-number-preserved : goal.loop-number-preserved
loop-number-preserved c = record {
  from = omega arith;
  asked = c.loop-number.invariant.asked ∙ apart-not c.args.params.now c.args.node c.loop-number.number (omega arith) (sym c.are_apart.ensures ∙ c.if-are_apart.false);
}

pub returns : goal.returns
returns c = sym (c.loop-number.invariant.asked ∙ apart-over c.args.params.now c.args.node c.loop-number.number (omega arith))
