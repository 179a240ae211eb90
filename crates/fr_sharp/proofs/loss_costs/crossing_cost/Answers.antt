use Rattle.std.proofs.Common.{◌≡◌, ◌∙◌, ℕ, ap, ap₂, arith}
use Rattle.std.specs.Prelude.{max}
use Rattle.fr_bound.specs.declared.judging.Heard.TheVariants as heard
use Rattle.fr_bound.specs.SharpSpreads.{sharply_near_in}
use Rattle.fr_precision.specs.Among.{both, kinds_spread}
use Rattle.fr_precision.specs.declared.kinds.Kinds.{Kinds}
use Rattle.fr_sharp.specs.LossSteps.{heard_apart}
use Rattle.fr_sharp.proofs.CrossingPeaks.{behind, cost_of_crossing, crossed, row}
use Rattle.fr_sharp.proofs.LossNumbers.{same_yet}
use Rattle.fr_sharp.proofs.loss_costs.crossing_cost.Goals as goal

pub step-requires : goal.step-requires
step-requires c = omega (arith, c.behind-spread.ensures.passed, c.requires.to)

pub returns-clause-is : goal.returns-clause-is
returns-clause-is c =
    let p = c.args.params.now in
    let t = c.args.flutter in
    let n = c.args.count in
    let row_is : c.behind-spread.result.spread ≡ row p t n = c.behind-spread.ensures.spread ∙ same_yet p t n n (omega arith) in
    let behind_is : c.step.new.self.spread ≡ behind p t n = c.step.ensures.spread ∙ ap (kinds_spread crossed p t) row_is in
    let first = c.apart-peak.ensures.value ∙ ap (heard_apart crossed p t) row_is in
    let second = c.apart.ensures.value ∙ ap (λ (what : Kinds). heard_apart what p t c.step.new.self.spread) c.both.ensures ∙ ap (heard_apart (both heard.Clean) p t) behind_is in
    let near = c.near-reach.ensures.value ∙ ap (sharply_near_in p) row_is in
    let close = c.near.ensures.value ∙ ap (sharply_near_in p) behind_is in
    cost_of_crossing p t n (record { peak = c.max.result; reach = c.max-2.result }) c.value-macros.ensures.sane c.requires.from
    (c.max.ensures ∙ ap₂ (λ (a b : ℕ). max a b) first second) (c.max-2.ensures ∙ ap₂ (λ (a b : ℕ). max a b) near close)
