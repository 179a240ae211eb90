use Rattle.std.proofs.Common.{ap, sym, ◌∙◌, subst}
use Rattle.fr_poc.specs.Control.{Control}
use Rattle.fr_node.specs.Fits.{NodeFits}
use Rattle.fr_node.specs.View.{NodeView}
use Rattle.fr_node.proofs.node.Node.step.Goals as goal

pub returns-then-not-self-clause-fits : goal.returns-then-not-self-clause-fits
returns-then-not-self-clause-fits c p fits =
    let P : NodeView → Type 0 = λ (node : NodeView). NodeFits p node in
    let old = subst P (sym c.self.view_is) fits in
    record {
      sane = old.sane;
      known = old.known;
      rate = old.rate;
      limits = ap (λ (control : Control). control.limits) c.step.ensures.steps ∙ old.limits;
      not_itself = old.not_itself;
    }
