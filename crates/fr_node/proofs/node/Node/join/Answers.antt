use Rattle.std.proofs.Common.{ap, sym, ◌∙◌, subst}
use Rattle.fr_poc.specs.Control.{Control}
use Rattle.fr_node.specs.Fits.{NodeFits}
use Rattle.fr_node.specs.View.{NodeView}
use Rattle.fr_node.proofs.node.Node.join.Goals as goal

pub returns-clause-fits : goal.returns-clause-fits
returns-clause-fits c p fits =
    let P : NodeView → Type 0 = λ (node : NodeView). NodeFits p node in
    let old = subst P (sym c.self.view_is) fits in
    record {
      sane = old.sane;
      known = old.known;
      rate = old.rate;
      limits = ap (λ (control : Control). control.limits) c.restart.ensures ∙ old.limits;
      not_itself = old.not_itself;
    }
