use Rattle.std.proofs.Common.{◌≡◌, ◌∙◌, sym}
use Rattle.fr_cold.specs.Cluster.{action_of}
use Rattle.fr_cold.proofs.KeySlots.{action-none, action-own, action-within, own-static}
use Rattle.fr_cold.proofs.actions.action.Goals as goal

pub point-requires : goal.point-requires
point-requires c = (own-static c.args.params.now c.args.node c.in-Some.slot c.value-cycle.ensures.sane (sym c.in-Some.ensures)).1

pub returns-in-None-clause-value : goal.returns-in-None-clause-value
returns-in-None-clause-value c = sym (action-none c.args.params.now c.args.node (sym c.in-None.ensures))

pub returns-in-Some-clause-value : goal.returns-in-Some-clause-value
returns-in-Some-clause-value c = c.point.ensures ∙ sym (action-own c.args.params.now c.args.node c.in-Some.slot (sym c.in-Some.ensures))

pub returns-in-Some-clause-within : goal.returns-in-Some-clause-within
returns-in-Some-clause-within c =
    let value : c.point.result ≡ action_of c.args.params.now c.args.node = c.point.ensures ∙ sym (action-own c.args.params.now c.args.node c.in-Some.slot (sym c.in-Some.ensures)) in
    rw value (action-within c.args.params.now c.args.node c.value-cycle.ensures.sane)
