use Rattle.std.proofs.Common.{◌<◌, length, arith}
use Rattle.fr_base.proofs.Putting.{cut, then}
use Rattle.fr_params.proofs.Putting.{text-from}
use Rattle.fr_params.specs.Texts.{slot_record}
use Rattle.fr_params.proofs.writing.+put_slots.Goals as goal

pub returns-in_err-put_slot : goal.returns-in_err-put_slot
returns-in_err-put_slot g t c =
    let lt : c.args.place < length c.args.slots.now = omega arith in
    let text = text-from slot_record c.args.slots.now c.args.place c.slot_at.result.now lt c.slot_at.ensures in
    rw (← text) (cut _ _ c.in_err-put_slot.ensures c.from_residual.ensures.0)

pub returns : goal.returns
returns g t c =
    let lt : c.args.place < length c.args.slots.now = omega arith in
    let text = text-from slot_record c.args.slots.now c.args.place c.slot_at.result.now lt c.slot_at.ensures in
    rw (← text) (then _ c.in_ok-put_slot.ensures c.put_slots.ensures)
