use Rattle.std.proofs.Common.{◌∙◌, ap, sym, subst, Option}
use Rattle.std.specs.Prelude.{is_some, option_and_then}
use Rattle.fr_base.specs.Rows.{AreAscendingDevs, dev_in}
use Rattle.fr_history.specs.History.{Record}
use Rattle.fr_trace.specs.declared.trace.TracedCycle.{TracedCycle}
use Rattle.fr_verdict.proofs.Records.{no_record, record_of_cycle}
use Rattle.fr_verdict.proofs.covering.has_dev.Goals as goal

pub has_dev_in-requires : goal.has_dev_in-requires
has_dev_in-requires c =
    subst (λ (cycle : TracedCycle). AreAscendingDevs cycle.devs.items) (sym c.index-cycles-cycle.is) (c.requires c.args.cycle c.index-cycles-cycle.result c.if-cycle-cycles.true)

pub returns-then-cycle-cycles : goal.returns-then-cycle-cycles
returns-then-cycle-cycles c =
    c.has_dev_in.ensures
    ∙ sym (ap (λ (o : Option Record). is_some (option_and_then (λ r. option_and_then (λ slot. dev_in r.devs c.args.receiver.now.id slot c.args.channel) c.args.sender.now.key) o))
    (record_of_cycle c.args.cycles.now c.args.cycle c.index-cycles-cycle.result c.if-cycle-cycles.true c.index-cycles-cycle.is))

pub returns-else-cycle-cycles : goal.returns-else-cycle-cycles
returns-else-cycle-cycles c =
    sym (ap (λ (o : Option Record). is_some (option_and_then (λ r. option_and_then (λ slot. dev_in r.devs c.args.receiver.now.id slot c.args.channel) c.args.sender.now.key) o))
    (no_record c.args.cycles.now c.args.cycle c.if-cycle-cycles.false))
