use Rattle.std.proofs.Common.{◌∙◌, arith}
use Rattle.fr_cluster.specs.Searches.{slot_in}
use Rattle.fr_cluster.proofs.Found.{at_number}
use Rattle.fr_cluster.proofs.lists.SlotList.with_number.Goals as goal

pub returns : goal.returns
returns c =
    c.as_ref.ensures.value
    ∙ at_number slot_in c.self.inside.slots.items c.args.self.now c.self.inside.by_number.items 1024 c.from.result c.args.slot c.index.result.now
    c.self.view_is c.self.invariant c.index.ensures (c.from.ensures ∙ c.slot.view_is) (omega (arith, c.slot.invariant.1, c.slot.view_is))
