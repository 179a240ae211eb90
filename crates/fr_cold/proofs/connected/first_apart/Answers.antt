use Rattle.std.proofs.Common.{◌≡◌, ◌≤◌, ◌∙◌, sym, refl, arith}
use Rattle.fr_cold.proofs.Texts.{pair-found, pair-not, pair-over}
use Rattle.fr_cold.proofs.connected.first_apart.Goals as goal

pub loop-number-init : goal.loop-number-init
loop-number-init c = record { from = omega arith; asked = refl }

pub returns-in-Some : goal.returns-in-Some
returns-in-Some c = sym (c.loop-number.invariant.asked ∙ pair-found c.args.params.now c.loop-number.number c.in-Some.other (omega arith) (sym c.in-Some.ensures))

pub loop-number-preserved : goal.loop-number-preserved
loop-number-preserved c = record {
  from = omega arith;
  asked = c.loop-number.invariant.asked ∙ pair-not c.args.params.now c.loop-number.number (omega arith) (sym c.in-None.ensures);
}

pub returns : goal.returns
returns c = sym (c.loop-number.invariant.asked ∙ pair-over c.args.params.now c.loop-number.number (omega arith))
