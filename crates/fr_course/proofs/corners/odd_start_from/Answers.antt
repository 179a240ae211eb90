use Rattle.std.proofs.Common.{◌≡◌, ◌∙◌, FitsSigned, pos, ap, refl, subst, sym}
use Rattle.std.specs.Prelude.{◌+ℤ◌, ◌-ℤ◌}
use Rattle.std.specs.Int.{int_max}
use mir.Syntax.{w128}
use Rattle.std.proofs.lemmas.Int.{to_z-of_z}
use Rattle.fr_base.specs.Within.{IsWithin}
use Rattle.fr_course.proofs.Fits.{difference_near, fits, low_near, sum_near, wider_near}
use Rattle.fr_course.proofs.Limits.{max_within}
use Rattle.fr_course.proofs.corners.odd_start_from.Goals as goal

before_near : (c : goal.After-max-2) → IsWithin (pos 2_900_000_000_000_000_000) (c.args.course.now.even.low +ℤ c.rest_from.result)
before_near c = wider_near (record { le = tt }) (sum_near (low_near {bound = pos 1_900_000_000_000_000_000} c.requires.course.even) c.rest_from.ensures.within)

behind_near : (c : goal.After-max-2) → IsWithin (pos 2_900_000_000_000_000_000) (c.args.course.now.odd.low -ℤ c.action_to.result)
behind_near c = wider_near (record { le = tt }) (difference_near (low_near {bound = pos 1_900_000_000_000_000_000} c.requires.course.odd) c.action_to.ensures.within)

middle_near : (c : goal.After-max-2) → IsWithin (pos 2_900_000_000_000_000_000) c.between_from.result
middle_near c = wider_near (record { le = tt }) c.between_from.ensures.within

inner : (c : goal.After-max-2) → c.max.result ≡ int_max (c.args.course.now.odd.low -ℤ c.action_to.result) c.between_from.result
inner c =
    let second : FitsSigned w128 (c.args.course.now.odd.low) = fits (record { le = tt }) (low_near {bound = pos 1_900_000_000_000_000_000} c.requires.course.odd) in
    let two : FitsSigned w128 c.action_to.result = fits (record { le = tt }) c.action_to.ensures.within in
    let y : FitsSigned w128 (c.args.course.now.odd.low -ℤ c.action_to.result) = fits (record { le = tt }) (behind_near c) in
    let z : FitsSigned w128 c.between_from.result = fits (record { le = tt }) (middle_near c) in
    simp to_z-of_z at c.max.ensures.value

inner_near : (c : goal.After-max-2) → IsWithin (pos 2_900_000_000_000_000_000) c.max.result
inner_near c = subst (IsWithin (pos 2_900_000_000_000_000_000)) (sym (inner c)) (max_within (pos 2_900_000_000_000_000_000) (c.args.course.now.odd.low -ℤ c.action_to.result) c.between_from.result (behind_near c) (middle_near c))

outer : (c : goal.After-max-2) → c.max-2.result ≡ int_max (c.args.course.now.even.low +ℤ c.rest_from.result) c.max.result
outer c =
    let first : FitsSigned w128 (c.args.course.now.even.low) = fits (record { le = tt }) (low_near {bound = pos 1_900_000_000_000_000_000} c.requires.course.even) in
    let one : FitsSigned w128 c.rest_from.result = fits (record { le = tt }) c.rest_from.ensures.within in
    let x : FitsSigned w128 (c.args.course.now.even.low +ℤ c.rest_from.result) = fits (record { le = tt }) (before_near c) in
    let m : FitsSigned w128 c.max.result = fits (record { le = tt }) (inner_near c) in
    simp to_z-of_z at c.max-2.ensures.value

outer_near : (c : goal.After-max-2) → IsWithin (pos 2_900_000_000_000_000_000) c.max-2.result
outer_near c = subst (IsWithin (pos 2_900_000_000_000_000_000)) (sym (outer c)) (max_within (pos 2_900_000_000_000_000_000) (c.args.course.now.even.low +ℤ c.rest_from.result) c.max.result (before_near c) (inner_near c))

all : (c : goal.After-max-2) → c.max-2.result ≡ int_max (c.args.course.now.even.low +ℤ c.rest_from.result) (int_max (c.args.course.now.odd.low -ℤ c.action_to.result) c.between_from.result)
all c = outer c ∙ ap (int_max (c.args.course.now.even.low +ℤ c.rest_from.result)) (inner c)

pub returns-clause-value : goal.returns-clause-value
returns-clause-value c =
    let top : FitsSigned w128 c.max-2.result = fits (record { le = tt }) (outer_near c) in
    simp to_z-of_z (rw (all c, c.rest_from.ensures.value, c.action_to.ensures.value, c.between_from.ensures.value) refl)

pub returns-clause-within : goal.returns-clause-within
returns-clause-within c =
    let top : FitsSigned w128 c.max-2.result = fits (record { le = tt }) (outer_near c) in
    simp to_z-of_z ((outer_near c))
