use Rattle.std.proofs.Common.{◌∙◌, Option, ap, sym}
use Rattle.fr_script.specs.Events.{event_by, event_of}
use Rattle.fr_script.specs.View.{deed_of, is_arbitrary}
use Rattle.fr_script.specs.declared.deed.Deed.{Deed}
use Rattle.fr_script.proofs.Proper.{event-proper}
use Rattle.fr_script.proofs.script.Script.at.Goals as goal

pub returns-else-may_have_deed-clause-value : goal.returns-else-may_have_deed-clause-value
unfolding event_of deed_of
returns-else-may_have_deed-clause-value c =
    c.without_deed.ensures.value
    ∙ ap (λ (o : Option Deed). event_by (is_arbitrary c.args.self.now c.args.sender) o) (sym (c.may_have_deed.ensures c.if-may_have_deed.false c.args.receiver c.args.cycle))

pub returns-else-may_have_deed-clause-proper : goal.returns-else-may_have_deed-clause-proper
returns-else-may_have_deed-clause-proper c = event-proper c.args.self.now c.args.cycle c.args.sender c.args.receiver c.args.channel c.without_deed.ensures.sane
