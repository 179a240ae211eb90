use Rattle.std.proofs.Common.{FitsSigned, ℤ, subst, arith}
use Rattle.std.specs.Prelude.{◌*ℤ◌, ◌≤ℤ◌}
use mir.Syntax.{w128}
use Rattle.std.proofs.lemmas.Int.{ints, to_z-of_z}
use Rattle.fr_judging.proofs.zeros.has_room.Goals as goal

pub returns-then-take_at_most : goal.returns-then-take_at_most
returns-then-take_at_most c = λ is.
    let macros = c.args.scale.now.macros in
    let ahead = c.args.ahead in
    let lengths = c.args.lengths.now in
    let a : FitsSigned w128 ahead = c.ranges.ahead in
    let l : FitsSigned w128 lengths.low = omega (arith, ints, c.requires.lengths.low_from, c.requires.lengths.low_to) in
    let h : FitsSigned w128 lengths.high = omega (arith, ints, c.requires.lengths.high_from, c.requires.lengths.high_to) in
    let b : FitsSigned w128 c.room_before.result = omega (arith, ints, c.room_before.ensures.within.low, c.room_before.ensures.within.high) in
    let d : FitsSigned w128 c.room_behind.result = omega (arith, ints, c.room_behind.ensures.within.low, c.room_behind.ensures.within.high) in
    let before : (ahead *ℤ lengths.low) ≤ℤ (macros *ℤ c.room_before.result) = simp to_z-of_z at c.take_at_most.ensures c.if-take_at_most.true in
    let behind : (macros *ℤ c.room_behind.result) ≤ℤ (ahead *ℤ lengths.high) = simp to_z-of_z at c.take_at_least.ensures is in
    record {
      before = subst (λ (room : ℤ). (ahead *ℤ lengths.low) ≤ℤ (macros *ℤ room)) c.room_before.ensures.value before;
      behind = subst (λ (room : ℤ). (macros *ℤ room) ≤ℤ (ahead *ℤ lengths.high)) c.room_behind.ensures.value behind;
    }
