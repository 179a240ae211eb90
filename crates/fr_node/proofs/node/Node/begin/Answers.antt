use Rattle.std.proofs.Common.{sym, subst}
use Rattle.fr_node.specs.Fits.{NodeFits}
use Rattle.fr_node.specs.View.{NodeView}
use Rattle.fr_node.proofs.Fitting.{still_none}
use Rattle.fr_node.proofs.node.Node.begin.Goals as goal

pub returns-clause-fits : goal.returns-clause-fits
returns-clause-fits c p fits =
    let P : NodeView → Type 0 = λ (node : NodeView). NodeFits p node in
    let old = subst P (sym c.self.view_is) fits in
    record {
      sane = old.sane;
      known = old.known;
      rate = old.rate;
      limits = old.limits;
      not_itself = λ index odd channel own. still_none c.self.inside.table c.keep_in_odd.new.table c.args.cycle index odd channel c.keep_in_odd.ensures (old.not_itself index odd channel own);
    }
