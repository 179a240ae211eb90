use Rattle.std.proofs.Common.{◌≡◌, ℤ, true, false, ap, FitsSigned, w64, arith}
use Rattle.std.specs.Prelude.{◌||◌, ◌≤ℤ◌, ◌<ℤ◌, int_le, int_lt}
use Rattle.std.proofs.lemmas.Int.{ints, to_z-of_z}
use Rattle.fr_time.specs.Instant.{slot_begins, slot_ends}
use Rattle.fr_node.proofs.answers.outside.Goals.{then-at-from-via-then-at-from, then-at-from-via-else-at-from+then-at-to}
use Rattle.fr_node.proofs.answers.outside.Goals as goal

pub returns-then-at-from-clause-out : goal.returns-then-at-from-clause-out
returns-then-at-from-clause-out c =
    let timed = c.requires.timed in
    let from = c.slot_instants-from.result.0 in
    let to = c.slot_instants-from.result.1 in
    let at_fits : FitsSigned w64 c.args.at = c.ranges.at in
    let from_fits : FitsSigned w64 from = omega (arith, ints, timed.start.low, timed.start.high, timed.length.high, c.slot_instants-from.ensures.begins.from, c.slot_instants-from.ensures.begins.to) in
    let to_fits : FitsSigned w64 to = omega (arith, ints, timed.start.low, timed.start.high, timed.length.high, c.slot_instants-from.ensures.ends.from, c.slot_instants-from.ensures.ends.to) in
    let begins : from ≡ slot_begins c.args.params.now c.args.row.now c.args.slot = ap (λ (x : ℤ × ℤ). x.0) c.slot_instants-from.ensures.value in
    let ends : to ≡ slot_ends c.args.params.now c.args.row.now c.args.slot = ap (λ (x : ℤ × ℤ). x.1) c.slot_instants-from.ensures.value in
    let out : (int_lt c.args.at from || int_le to c.args.at) ≡ true = elim c.then-at-from.branch [
      | then-at-from-via-then-at-from w ↦ grind (arith, ints, to_z-of_z, w.if-at-from.true)
      | then-at-from-via-else-at-from+then-at-to w ↦ grind (arith, ints, to_z-of_z, w.if-at-to.true)
    ] in
    rw (to_z-of_z w64 from from_fits, to_z-of_z w64 to to_fits) (record { out = rw (← begins, ← ends) out; begins = begins; ends = ends })

pub returns-clause-within : goal.returns-clause-within
returns-clause-within c =
    let timed = c.requires.timed in
    let from = c.slot_instants-from.result.0 in
    let to = c.slot_instants-from.result.1 in
    let at_fits : FitsSigned w64 c.args.at = c.ranges.at in
    let from_fits : FitsSigned w64 from = omega (arith, ints, timed.start.low, timed.start.high, timed.length.high, c.slot_instants-from.ensures.begins.from, c.slot_instants-from.ensures.begins.to) in
    let to_fits : FitsSigned w64 to = omega (arith, ints, timed.start.low, timed.start.high, timed.length.high, c.slot_instants-from.ensures.ends.from, c.slot_instants-from.ensures.ends.to) in
    let begins : from ≡ slot_begins c.args.params.now c.args.row.now c.args.slot = ap (λ (x : ℤ × ℤ). x.0) c.slot_instants-from.ensures.value in
    let ends : to ≡ slot_ends c.args.params.now c.args.row.now c.args.slot = ap (λ (x : ℤ × ℤ). x.1) c.slot_instants-from.ensures.value in
    let after : from ≤ℤ c.args.at = grind (arith, ints, to_z-of_z, c.if-at-from.false) in
    let before : c.args.at <ℤ to = grind (arith, ints, to_z-of_z, c.if-at-to.false) in
    let in_slot : (int_lt c.args.at from || int_le to c.args.at) ≡ false = grind (arith, ints, after, before) in
    record {
      within = rw (← begins, ← ends) in_slot;
      in_cycle = record { from = omega (arith, ints, after, c.slot_instants-from.ensures.begins.from); to = omega (arith, ints, before, c.slot_instants-from.ensures.ends.to) };
    }
