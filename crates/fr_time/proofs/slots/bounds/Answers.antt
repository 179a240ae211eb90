use Rattle.std.proofs.Common.{◌≡◌, nat_abs, ◌≤◌, pos, refl, rules, arith, w64}
use mir.Val.{to_z, of_z}
use Rattle.std.proofs.lemmas.Int.{ints, to_z-of_z}
use Rattle.std.specs.Prelude.{◌<ℤ◌}
use Rattle.fr_cluster.specs.Values.{amount}
use Rattle.fr_cluster.specs.declared.names.ParamName.TheVariants as name
use Rattle.fr_time.specs.Slots.{slot_end_of}
use Rattle.fr_time.proofs.Placing.{action_point_lt, before_correction}
use Rattle.fr_time.proofs.slots.bounds.Goals as goal

-- the length of a slot
length_lem : (c : goal.After-from-slot) → nat_abs (to_z w64 (of_z w64 c.value-length.result)) ≡ amount c.args.params.now name.gdStaticSlot
length_lem c =
    let back : to_z w64 (of_z w64 c.value-length.result) ≡ c.value-length.result = to_z-of_z w64 c.value-length.result (search rules) in
    rw (back, c.value-length.ensures.value) refl

pub returns-clause-acts : goal.returns-clause-acts
returns-clause-acts c =
    rw (c.from-slot.ensures, length_lem c) (action_point_lt c.args.params.now c.args.slot c.value-length.ensures.sane c.requires.from)

pub returns-clause-early : goal.returns-clause-early
returns-clause-early c =
    let sane = c.value-length.ensures.sane in
    let range = sane.ranges name.gOffsetCorrectionStart in
    let before : pos (slot_end_of c.args.params.now c.args.slot) <ℤ c.args.params.now.correction = before_correction c.args.params.now c.args.slot sane c.requires.to in
    let end : slot_end_of c.args.params.now c.args.slot ≤ 16000 = omega (arith, ints, before, range.1) in
    rw (c.from-slot.ensures, length_lem c) (record { from = omega (arith, ints); to = omega (arith, ints, end); before_correction = before })
