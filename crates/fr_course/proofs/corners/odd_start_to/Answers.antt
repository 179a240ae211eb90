use Rattle.std.proofs.Common.{◌≡◌, ◌∙◌, FitsSigned, pos, ap, refl, subst, sym}
use Rattle.std.specs.Prelude.{◌+ℤ◌, ◌-ℤ◌}
use Rattle.std.specs.Int.{int_min}
use mir.Syntax.{w128}
use Rattle.std.proofs.lemmas.Int.{to_z-of_z}
use Rattle.fr_base.specs.Within.{IsWithin}
use Rattle.fr_course.proofs.Fits.{difference_near, fits, high_near, micro_near, sum_near, wider_near}
use Rattle.fr_course.proofs.Limits.{min_within, sum_fits, sum_within}
use Rattle.fr_course.proofs.Numbers.{micro_to_are, scale_is}
use Rattle.fr_course.proofs.corners.odd_start_to.Goals as goal

before_near : (c : goal.After-result-1) → IsWithin (pos 2_900_000_000_000_000_000) (c.args.course.now.even.high +ℤ c.rest_to.result)
before_near c = wider_near (record { le = tt }) (sum_near (high_near {bound = pos 1_900_000_000_000_000_000} c.requires.course.even) c.rest_to.ensures.within)

behind_near : (c : goal.After-result-1) → IsWithin (pos 2_900_000_000_000_000_000) (c.args.course.now.odd.high -ℤ c.action_from.result)
behind_near c = wider_near (record { le = tt }) (difference_near (high_near {bound = pos 1_900_000_000_000_000_000} c.requires.course.odd) c.action_from.ensures.within)

middle_near : (c : goal.After-result-1) → IsWithin (pos 2_900_000_000_000_000_000) c.between_to.result
middle_near c = wider_near (record { le = tt }) c.between_to.ensures.within

inner : (c : goal.After-result-1) → c.min.result ≡ int_min (c.args.course.now.odd.high -ℤ c.action_from.result) c.between_to.result
inner c =
    let second : FitsSigned w128 (c.args.course.now.odd.high) = fits (record { le = tt }) (high_near {bound = pos 1_900_000_000_000_000_000} c.requires.course.odd) in
    let two : FitsSigned w128 c.action_from.result = fits (record { le = tt }) c.action_from.ensures.within in
    let y : FitsSigned w128 (c.args.course.now.odd.high -ℤ c.action_from.result) = fits (record { le = tt }) (behind_near c) in
    let z : FitsSigned w128 c.between_to.result = fits (record { le = tt }) (middle_near c) in
    simp to_z-of_z at c.min.ensures.value

inner_near : (c : goal.After-result-1) → IsWithin (pos 2_900_000_000_000_000_000) c.min.result
inner_near c = subst (IsWithin (pos 2_900_000_000_000_000_000)) (sym (inner c)) (min_within (pos 2_900_000_000_000_000_000) (c.args.course.now.odd.high -ℤ c.action_from.result) c.between_to.result (behind_near c) (middle_near c))

outer : (c : goal.After-result-1) → c.min-2.result ≡ int_min (c.args.course.now.even.high +ℤ c.rest_to.result) c.min.result
outer c =
    let first : FitsSigned w128 (c.args.course.now.even.high) = fits (record { le = tt }) (high_near {bound = pos 1_900_000_000_000_000_000} c.requires.course.even) in
    let one : FitsSigned w128 c.rest_to.result = fits (record { le = tt }) c.rest_to.ensures.within in
    let x : FitsSigned w128 (c.args.course.now.even.high +ℤ c.rest_to.result) = fits (record { le = tt }) (before_near c) in
    let m : FitsSigned w128 c.min.result = fits (record { le = tt }) (inner_near c) in
    simp to_z-of_z at c.min-2.ensures.value

outer_near : (c : goal.After-result-1) → IsWithin (pos 2_900_000_000_000_000_000) c.min-2.result
outer_near c = subst (IsWithin (pos 2_900_000_000_000_000_000)) (sym (outer c)) (min_within (pos 2_900_000_000_000_000_000) (c.args.course.now.even.high +ℤ c.rest_to.result) c.min.result (before_near c) (inner_near c))

all : (c : goal.After-result-1) → c.min-2.result ≡ int_min (c.args.course.now.even.high +ℤ c.rest_to.result) (int_min (c.args.course.now.odd.high -ℤ c.action_from.result) c.between_to.result)
all c = outer c ∙ ap (int_min (c.args.course.now.even.high +ℤ c.rest_to.result)) (inner c)

pub returns-clause-value : goal.returns-clause-value
returns-clause-value c =
    let top : FitsSigned w128 c.min-2.result = fits (record { le = tt }) (outer_near c) in
    let micro : FitsSigned w128 c.args.scale.now.micro_to = fits (record { le = tt }) (micro_near (scale_is c.scale.view_is c.scale.invariant).micro_to) in
    let sum : FitsSigned w128 (c.min-2.result +ℤ c.args.scale.now.micro_to) = sum_fits c.min-2.result c.args.scale.now.micro_to (outer_near c) (scale_is c.scale.view_is c.scale.invariant).micro_to in
    simp (to_z-of_z, micro_to_are c.scale.view_is) (rw (all c, c.rest_to.ensures.value, c.action_from.ensures.value, c.between_to.ensures.value) refl)

pub returns-clause-within : goal.returns-clause-within
returns-clause-within c =
    let top : FitsSigned w128 c.min-2.result = fits (record { le = tt }) (outer_near c) in
    let micro : FitsSigned w128 c.args.scale.now.micro_to = fits (record { le = tt }) (micro_near (scale_is c.scale.view_is c.scale.invariant).micro_to) in
    let sum : FitsSigned w128 (c.min-2.result +ℤ c.args.scale.now.micro_to) = sum_fits c.min-2.result c.args.scale.now.micro_to (outer_near c) (scale_is c.scale.view_is c.scale.invariant).micro_to in
    simp (to_z-of_z, micro_to_are c.scale.view_is) (sum_within c.min-2.result c.args.scale.now.micro_to (outer_near c) (scale_is c.scale.view_is c.scale.invariant).micro_to)
