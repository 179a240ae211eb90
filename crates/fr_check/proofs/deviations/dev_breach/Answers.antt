use Rattle.std.proofs.Common.{◌∙◌, ap₂}
use Rattle.std.specs.Option.{option_or}
use Rattle.fr_check.proofs.Ranks.{breach_of_allowed}
use Rattle.fr_check.proofs.deviations.dev_breach.Goals as goal

pub returns : goal.returns
returns c = λ p t h r half is.
    c.first_of-2.ensures ∙ ap₂ option_or (c.first_of.ensures ∙ ap₂ option_or c.silent-silent.ensures c.outside-outside.ensures) c.apart-apart.ensures
    ∙ breach_of_allowed p t c.args.number c.args.double h r c.args.dev.now c.args.allowed.now half is
