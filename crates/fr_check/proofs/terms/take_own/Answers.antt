use Rattle.std.proofs.Common.{sym, subst}
use Rattle.std.specs.Prelude.{All, ◌==◌}
use Rattle.std.proofs.lemmas.List.Elements.{All-filter}
use Rattle.fr_base.specs.declared.dev.Dev.{Dev}
use Rattle.fr_verdict.specs.Sound.{IsSoundDev}
use Rattle.fr_check.proofs.Taking.{own_taken}
use Rattle.fr_check.proofs.terms.take_own.Goals as goal

pub take_devs-requires : goal.take_devs-requires
take_devs-requires c =
    subst (All (IsSoundDev c.args.params.now)) (sym c.devs_of.ensures)
    (All-filter (λ (dev : Dev). dev.receiver == c.args.node) (IsSoundDev c.args.params.now) c.args.devs.now c.requires.each)

pub returns : goal.returns
returns c = own_taken c.args.params.now c.args.devs.now c.devs_of.result.now c.args.node c.args.odd c.args.table.now c.take_devs.new.table c.devs_of.ensures c.take_devs.ensures
