use Rattle.std.specs.Prelude.{◌==◌}
use Rattle.std.proofs.lemmas.List.Elements.{All-weaker}
use Rattle.fr_cluster.specs.Ranges.{IsProperSlot}
use Rattle.fr_cluster.specs.Sane.{IsSaneSlot}
use Rattle.fr_cluster.specs.Searches.{slot_in}
use Rattle.fr_cluster.specs.declared.nodes.SlotSpec.{SlotSpec}
use Rattle.fr_cluster.proofs.Found.{find_keeps, lent_keeps}
use Rattle.fr_cluster.proofs.params.Params.further_slot.Goals as goal

pub returns-clause-proper : goal.returns-clause-proper
returns-clause-proper c =
    let slots = c.self.inside.slots in
    let proper = All-weaker (IsSaneSlot c.self.inside.nodes) IsProperSlot (λ slot sane. sane.proper) slots c.self.invariant.lists.slots_sane in
    lent_keeps IsProperSlot c.with_number.result (slot_in slots c.args.slot) c.with_number.ensures
    (find_keeps IsProperSlot (λ (spec : SlotSpec). spec.slot == c.args.slot) slots proper)
