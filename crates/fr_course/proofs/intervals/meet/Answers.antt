use Rattle.std.proofs.Common.{◌≡◌, FitsSigned, refl, rules}
use Rattle.std.specs.Int.{int_max, int_min}
use mir.Syntax.{w128}
use Rattle.std.proofs.lemmas.Int.{to_z-of_z}
use Rattle.fr_course.proofs.Limits.{meet_between}
use Rattle.fr_course.proofs.intervals.meet.Goals as goal

pub returns-clause-value : goal.returns-clause-value
returns-clause-value c =
    let m : FitsSigned w128 (c.max.result) = search rules in
    let n : FitsSigned w128 (c.min.result) = search rules in
    let a : FitsSigned w128 (c.args.one.now.low) = search rules in
    let b : FitsSigned w128 (c.args.one.now.high) = search rules in
    let d : FitsSigned w128 (c.args.other.now.low) = search rules in
    let e : FitsSigned w128 (c.args.other.now.high) = search rules in
    let low : c.max.result ≡ int_max c.args.one.now.low c.args.other.now.low = simp to_z-of_z at c.max.ensures.value in
    let high : c.min.result ≡ int_min c.args.one.now.high c.args.other.now.high = simp to_z-of_z at c.min.ensures.value in
    simp to_z-of_z (rw (low, high) refl)

pub returns-clause-near : goal.returns-clause-near
returns-clause-near c =
    λ least greatest x y. rw (returns-clause-value c) (meet_between least greatest c.args.one.now c.args.other.now x y)
