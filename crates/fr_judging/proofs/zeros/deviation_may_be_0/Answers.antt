use Rattle.std.proofs.Common.{◌≡◌, true, false, FitsSigned, ℤ, pos, subst, arith}
use Rattle.std.specs.Prelude.{int_le}
use mir.Syntax.{w128}
use Rattle.std.proofs.lemmas.Int.{ints, to_z-of_z}
use Rattle.fr_course.specs.declared.intervals.Interval.{Interval}
use Rattle.fr_judging.specs.Zeros.{MayMeet}
use Rattle.fr_judging.proofs.ZeroTerms.{ahead-zero, before-zero}
use Rattle.fr_course.proofs.Numbers.{scale_is}
use Rattle.fr_judging.proofs.zeros.deviation_may_be_0.Goals as goal

pub returns-then-ahead-ge0 : goal.returns-then-ahead-ge0
returns-then-ahead-ge0 c = λ is.
    let scale = c.args.scale.now in
    let receiver = c.args.receiver.now in
    let sender = c.args.sender.now in
    let ahead : ℤ = c.ahead_of-ahead.result in
    let fits : FitsSigned w128 ahead = omega (arith, ints, c.ahead_of-ahead.ensures.within.low, c.ahead_of-ahead.ensures.within.high) in
    let tested : int_le (pos 0) ahead ≡ true = simp to_z-of_z at c.if-ahead-ge0.true in
    let room : MayMeet scale receiver.odd sender.odd ahead receiver.length = simp to_z-of_z at c.has_room.ensures is in
    ahead-zero scale receiver sender (scale_is c.scale.view_is c.scale.invariant).macros_from (subst (λ (a : ℤ). int_le (pos 0) a ≡ true) c.ahead_of-ahead.ensures.value tested)
    (subst (λ (a : ℤ). MayMeet scale receiver.odd sender.odd a receiver.length) c.ahead_of-ahead.ensures.value room)

pub returns-else-ahead-ge0 : goal.returns-else-ahead-ge0
returns-else-ahead-ge0 c = λ is.
    let scale = c.args.scale.now in
    let receiver = c.args.receiver.now in
    let sender = c.args.sender.now in
    let ahead : ℤ = c.ahead_of-ahead.result in
    let fits : FitsSigned w128 ahead = omega (arith, ints, c.ahead_of-ahead.ensures.within.low, c.ahead_of-ahead.ensures.within.high) in
    let tested : int_le (pos 0) ahead ≡ false = simp to_z-of_z at c.if-ahead-ge0.false in
    let lengths : Interval = record { low = receiver.length.high; high = receiver.length.low } in
    let exchanged : c.turned.result ≡ lengths = (λ i. record { low = c.turned.ensures.low i; high = c.turned.ensures.high i }) in
    let turned : MayMeet scale receiver.odd sender.odd ahead c.turned.result = simp to_z-of_z at c.has_room-else-ahead-ge0.ensures is in
    let room : MayMeet scale receiver.odd sender.odd ahead lengths = subst (MayMeet scale receiver.odd sender.odd ahead) exchanged turned in
    before-zero scale receiver sender (scale_is c.scale.view_is c.scale.invariant).macros_from (subst (λ (a : ℤ). int_le (pos 0) a ≡ false) c.ahead_of-ahead.ensures.value tested)
    (subst (λ (a : ℤ). MayMeet scale receiver.odd sender.odd a lengths) c.ahead_of-ahead.ensures.value room)
