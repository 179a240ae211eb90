use Rattle.std.proofs.Common.{◌∙◌, ap}
use Rattle.fr_bound.specs.declared.judging.Heard.TheVariants as heard
use Rattle.fr_precision.specs.Among.{both}
use Rattle.fr_precision.specs.declared.kinds.Kinds.{Kinds}
use Rattle.fr_sharp.specs.LossSteps.{heard_apart}
use Rattle.fr_bound.specs.SharpSpreads.{sharply_near_in}
use Rattle.fr_sharp.proofs.LossNumbers.{cost_of_row}
use Rattle.fr_sharp.proofs.loss_costs.loss_cost.Goals as goal

pub returns-clause-is : goal.returns-clause-is
returns-clause-is c =
    let p = c.args.params.now in
    let t = c.args.flutter in
    cost_of_row p t c.args.count c.apart.result c.near.result c.value-macros.ensures.sane c.requires.from (c.apart.ensures.value ∙ ap (λ (what : Kinds). heard_apart what p t c.behind-spread.result.spread) c.both.ensures ∙ ap (heard_apart (both heard.Clean) p t) c.behind-spread.ensures.spread) (c.near.ensures.value ∙ ap (sharply_near_in p) c.behind-spread.ensures.spread)
