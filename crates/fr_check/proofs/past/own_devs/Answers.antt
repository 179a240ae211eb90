use Rattle.std.proofs.Common.{◌==◌, ◌∙◌, ap, subst, sym}
use Rattle.std.specs.Prelude.{filter}
use Rattle.fr_base.specs.Rows.{AreAscendingDevs}
use Rattle.fr_base.specs.declared.dev.Dev.{Dev}
use Rattle.fr_check.proofs.past.own_devs.Goals as goal

pub devs_of-requires : goal.devs_of-requires
devs_of-requires c = subst AreAscendingDevs (sym c.deref.ensures.value) c.requires

pub returns : goal.returns
returns c = c.devs_of.ensures ∙ ap (filter (λ (dev : Dev). dev.receiver == c.args.node)) c.deref.ensures.value
