use Rattle.std.proofs.Common.{◌+◌, ◌<◌, ◌∙◌, sym, length, arith, None}
use Rattle.std.proofs.lemmas.List.{get_or_default}
use Rattle.fr_params.proofs.Listing.{listed-zero, listed-pushed}
use Rattle.fr_params.proofs.reading.listed_slots.Goals as goal

pub loop-earlier-init : goal.loop-earlier-init
loop-earlier-init c = c.new-items.ensures.items ∙ sym (listed-zero _)

pub loop-earlier-preserved : goal.loop-earlier-preserved
loop-earlier-preserved c =
    let room : c.loop-earlier.earlier + 1 < length c.args.slots.now = omega arith in
    listed-pushed c.loop-earlier.earlier c.args.slots.now c.loop-earlier.items.items c.push_entry.new.items.items _
    c.loop-earlier.invariant c.in_ok-push_entry.ensures
    (get_or_default c.args.slots.now (c.loop-earlier.earlier + 1) c.index-slots-earlier.result None room)
