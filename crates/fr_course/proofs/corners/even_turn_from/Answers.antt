use Rattle.std.proofs.Common.{◌≡◌, FitsSigned, pos, refl, subst, sym}
use Rattle.std.specs.Prelude.{◌+ℤ◌}
use Rattle.std.specs.Int.{int_max}
use mir.Syntax.{w128}
use Rattle.std.proofs.lemmas.Int.{to_z-of_z}
use Rattle.fr_base.specs.Within.{IsWithin}
use Rattle.fr_course.proofs.Fits.{fits, low_near, sum_near, wider_near}
use Rattle.fr_course.proofs.Limits.{max_within}
use Rattle.fr_course.proofs.corners.even_turn_from.Goals as goal

before_near : (c : goal.After-max) → IsWithin (pos 2_900_000_000_000_000_000) (c.args.course.now.even.low +ℤ c.ahead_from.result)
before_near c = wider_near (record { le = tt }) (sum_near (low_near {bound = pos 1_900_000_000_000_000_000} c.requires.course.even) c.ahead_from.ensures.within)

turn_near : (c : goal.After-max) → IsWithin (pos 2_900_000_000_000_000_000) c.turn_from.result
turn_near c = wider_near (record { le = tt }) c.turn_from.ensures.within

all : (c : goal.After-max) → c.max.result ≡ int_max (c.args.course.now.even.low +ℤ c.ahead_from.result) c.turn_from.result
all c =
    let first : FitsSigned w128 c.args.course.now.even.low = fits (record { le = tt }) (low_near {bound = pos 1_900_000_000_000_000_000} c.requires.course.even) in
    let one : FitsSigned w128 c.ahead_from.result = fits (record { le = tt }) c.ahead_from.ensures.within in
    let x : FitsSigned w128 (c.args.course.now.even.low +ℤ c.ahead_from.result) = fits (record { le = tt }) (before_near c) in
    let z : FitsSigned w128 c.turn_from.result = fits (record { le = tt }) (turn_near c) in
    simp to_z-of_z at c.max.ensures.value

all_near : (c : goal.After-max) → IsWithin (pos 2_900_000_000_000_000_000) c.max.result
all_near c = subst (IsWithin (pos 2_900_000_000_000_000_000)) (sym (all c)) (max_within (pos 2_900_000_000_000_000_000) (c.args.course.now.even.low +ℤ c.ahead_from.result) c.turn_from.result (before_near c) (turn_near c))

pub returns-clause-value : goal.returns-clause-value
returns-clause-value c =
    let top : FitsSigned w128 c.max.result = fits (record { le = tt }) (all_near c) in
    simp to_z-of_z (rw (all c, c.ahead_from.ensures.value, c.turn_from.ensures.value) refl)

pub returns-clause-within : goal.returns-clause-within
returns-clause-within c =
    let top : FitsSigned w128 c.max.result = fits (record { le = tt }) (all_near c) in
    simp to_z-of_z (all_near c)
