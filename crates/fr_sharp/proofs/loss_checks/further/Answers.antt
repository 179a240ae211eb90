use Rattle.std.proofs.Common.{◌≡◌, ◌∙◌, ◌+◌, ◌*◌, ℕ, ap, sym, rules}
use Rattle.fr_cluster.specs.Values.{amount}
use Rattle.fr_cluster.specs.declared.names.ParamName.TheVariants as name
use Rattle.fr_bound.specs.SharpChecks.{sharp_right_of}
use Rattle.fr_sharp.proofs.LossNumbers.{needs_more}
use Rattle.fr_sharp.proofs.loss_checks.further.Goals as goal

pub returns-in_default-clause-value : goal.returns-in_default-clause-value
returns-in_default-clause-value c = λ flutter.
    let macros : c.from.result ≡ amount c.args.params.now name.gMacroPerCycle = c.from.ensures ∙ c.natural.ensures.value in
    let is = needs_more c.args.params.now flutter c.args.reach c.args.number (search rules) (search rules) (search rules) c.requires.number.from c.requires.number.to in
    is ∙ ap (λ (m : ℕ). sharp_right_of c.args.number flutter 0 c.args.params.now + m * c.args.reach) (sym macros)
