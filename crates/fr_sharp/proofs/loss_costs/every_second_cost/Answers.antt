use Rattle.std.proofs.Common.{◌≡◌, ◌∙◌, true, false, ap}
use Rattle.fr_bound.specs.declared.judging.Heard.TheVariants as heard
use Rattle.fr_bound.specs.SharpSpreads.{next_lost_spread}
use Rattle.fr_bound.specs.declared.settling.Spread.{Spread}
use Rattle.fr_precision.specs.Among.{both, kinds_spread}
use Rattle.fr_precision.specs.declared.kinds.Kinds.{Kinds}
use Rattle.fr_sharp.specs.LossSteps.{heard_apart}
use Rattle.fr_bound.specs.SharpSpreads.{sharply_near_in}
use Rattle.fr_promise.proofs.LossOrder.{calm}
use Rattle.fr_sharp.proofs.LossLemmas.{widest}
use Rattle.fr_sharp.proofs.LossNumbers.{cost_of_widest, first_by, never_heard}
use Rattle.fr_sharp.proofs.loss_costs.every_second_cost.Goals as goal

pub returns-clause-is : goal.returns-clause-is
returns-clause-is c =
    let p = c.args.params.now in
    let t = c.args.flutter in
    let goes : Kinds → Spread → Spread = λ what s. kinds_spread what p t s in
    let first : c.step.new.self.spread ≡ next_lost_spread false p t (calm p t) =
    c.step.ensures.spread ∙ ap (λ (what : Kinds). goes what c.first-spread.result.spread) c.both.ensures ∙ ap (next_lost_spread false p t) (first_by p t c.first-spread.result.spread (c.first-spread.ensures.spread never_heard)) in
    let second = c.step-2.ensures.spread ∙ ap (λ (what : Kinds). goes what c.step.new.self.spread) c.both-2.ensures ∙ ap (next_lost_spread true p t) first in
    let is : c.step-3.new.self.spread ≡ widest p t =
    c.step-3.ensures.spread ∙ ap (λ (what : Kinds). goes what c.step-2.new.self.spread) c.both-3.ensures ∙ ap (next_lost_spread false p t) second in
    cost_of_widest p t (record { peak = c.apart.result; reach = c.near.result }) c.value-macros.ensures.sane
    (c.apart.ensures.value ∙ ap (λ (what : Kinds). heard_apart what p t c.step-3.new.self.spread) c.both-4.ensures ∙ ap (heard_apart (both heard.Clean) p t) is) (c.near.ensures.value ∙ ap (sharply_near_in p) is)
