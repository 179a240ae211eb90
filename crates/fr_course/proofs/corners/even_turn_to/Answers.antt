use Rattle.std.proofs.Common.{◌≡◌, FitsSigned, pos, refl, subst, sym}
use Rattle.std.specs.Prelude.{◌+ℤ◌}
use Rattle.std.specs.Int.{int_min}
use mir.Syntax.{w128}
use Rattle.std.proofs.lemmas.Int.{to_z-of_z}
use Rattle.fr_base.specs.Within.{IsWithin}
use Rattle.fr_course.proofs.Fits.{fits, high_near, micro_near, sum_near, wider_near}
use Rattle.fr_course.proofs.Limits.{min_within, sum_fits, sum_within}
use Rattle.fr_course.proofs.Numbers.{micro_to_are, scale_is}
use Rattle.fr_course.proofs.corners.even_turn_to.Goals as goal

before_near : (c : goal.After-result-1) → IsWithin (pos 2_900_000_000_000_000_000) (c.args.course.now.even.high +ℤ c.ahead_to.result)
before_near c = wider_near (record { le = tt }) (sum_near (high_near {bound = pos 1_900_000_000_000_000_000} c.requires.course.even) c.ahead_to.ensures.within)

turn_near : (c : goal.After-result-1) → IsWithin (pos 2_900_000_000_000_000_000) c.turn_to.result
turn_near c = wider_near (record { le = tt }) c.turn_to.ensures.within

all : (c : goal.After-result-1) → c.min.result ≡ int_min (c.args.course.now.even.high +ℤ c.ahead_to.result) c.turn_to.result
all c =
    let first : FitsSigned w128 c.args.course.now.even.high = fits (record { le = tt }) (high_near {bound = pos 1_900_000_000_000_000_000} c.requires.course.even) in
    let one : FitsSigned w128 c.ahead_to.result = fits (record { le = tt }) c.ahead_to.ensures.within in
    let x : FitsSigned w128 (c.args.course.now.even.high +ℤ c.ahead_to.result) = fits (record { le = tt }) (before_near c) in
    let z : FitsSigned w128 c.turn_to.result = fits (record { le = tt }) (turn_near c) in
    simp to_z-of_z at c.min.ensures.value

all_near : (c : goal.After-result-1) → IsWithin (pos 2_900_000_000_000_000_000) c.min.result
all_near c = subst (IsWithin (pos 2_900_000_000_000_000_000)) (sym (all c)) (min_within (pos 2_900_000_000_000_000_000) (c.args.course.now.even.high +ℤ c.ahead_to.result) c.turn_to.result (before_near c) (turn_near c))

pub returns-clause-value : goal.returns-clause-value
returns-clause-value c =
    let top : FitsSigned w128 c.min.result = fits (record { le = tt }) (all_near c) in
    let micro : FitsSigned w128 c.args.scale.now.micro_to = fits (record { le = tt }) (micro_near (scale_is c.scale.view_is c.scale.invariant).micro_to) in
    let sum : FitsSigned w128 (c.min.result +ℤ c.args.scale.now.micro_to) = sum_fits c.min.result c.args.scale.now.micro_to (all_near c) (scale_is c.scale.view_is c.scale.invariant).micro_to in
    simp (to_z-of_z, micro_to_are c.scale.view_is) (rw (all c, c.ahead_to.ensures.value, c.turn_to.ensures.value) refl)

pub returns-clause-within : goal.returns-clause-within
returns-clause-within c =
    let top : FitsSigned w128 c.min.result = fits (record { le = tt }) (all_near c) in
    let micro : FitsSigned w128 c.args.scale.now.micro_to = fits (record { le = tt }) (micro_near (scale_is c.scale.view_is c.scale.invariant).micro_to) in
    let sum : FitsSigned w128 (c.min.result +ℤ c.args.scale.now.micro_to) = sum_fits c.min.result c.args.scale.now.micro_to (all_near c) (scale_is c.scale.view_is c.scale.invariant).micro_to in
    simp (to_z-of_z, micro_to_are c.scale.view_is) (sum_within c.min.result c.args.scale.now.micro_to (all_near c) (scale_is c.scale.view_is c.scale.invariant).micro_to)
