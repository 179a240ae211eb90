use Rattle.std.proofs.Common.{◌≡◌, FitsSigned, w64, ℤ, pos, refl, subst, sym}
use Rattle.std.specs.Prelude.{◌+ℤ◌}
use Rattle.std.specs.Int.{int_max}
use mir.Syntax.{w128}
use Rattle.std.proofs.lemmas.Int.{to_z-of_z}
use Rattle.fr_base.specs.Within.{IsBetween, IsWithin}
use Rattle.fr_course.specs.Readings.{most_ticks}
use Rattle.fr_course.proofs.Fits.{fits, fits64, micro_near, none_near, sum_near, wider_near}
use Rattle.fr_course.proofs.Limits.{max_within}
use Rattle.fr_course.proofs.Numbers.{drift_are, micro_to_are, scale_is}
use Rattle.fr_course.proofs.skews.most_even_skew.Goals as goal

greatest_near : (starts ends greatest : ℤ) → IsBetween (pos 0) (pos 6_000_000_000_000_000_000) starts → IsBetween (pos 0) (pos 6_000_000_000_000_000_000) ends → greatest ≡ int_max starts ends
    → IsWithin (pos 6_000_000_000_000_000_000) greatest
greatest_near starts ends greatest a b is = subst (IsWithin (pos 6_000_000_000_000_000_000)) (sym is) (max_within (pos 6_000_000_000_000_000_000) starts ends (none_near (record { le = tt }) a) (none_near (record { le = tt }) b))

ended_near : (x micro : ℤ) → IsWithin (pos 6_000_000_000_000_000_000) x → IsBetween (pos 1) (pos 1_001_000_000_000) micro → IsWithin (pos 6_100_000_000_000_000_000) (x +ℤ micro)
ended_near x micro near m = wider_near (record { le = tt }) (sum_near near (micro_near m))

pub overflow_add-max : goal.overflow_add-max
overflow_add-max c =
    let micro : FitsSigned w128 c.args.scale.now.micro_to = fits (record { le = tt }) (micro_near (scale_is c.scale.view_is c.scale.invariant).micro_to) in
    let starts : FitsSigned w128 c.most_at-starts.result = fits (record { le = tt }) (none_near (record { le = tt }) c.most_at-starts.ensures.within) in
    let ends : FitsSigned w128 c.most_at-ends.result = fits (record { le = tt }) (none_near (record { le = tt }) c.most_at-ends.ensures.within) in
    let greatest : c.max.result ≡ int_max c.most_at-starts.result c.most_at-ends.result = simp to_z-of_z at c.max.ensures.value in
    let near = greatest_near c.most_at-starts.result c.most_at-ends.result c.max.result c.most_at-starts.ensures.within c.most_at-ends.ensures.within greatest in
    let top : FitsSigned w128 c.max.result = fits (record { le = tt }) near in
    let end = ended_near c.max.result c.args.scale.now.micro_to near (scale_is c.scale.view_is c.scale.invariant).micro_to in
    let sum : FitsSigned w128 (c.max.result +ℤ c.args.scale.now.micro_to) = fits (record { le = tt }) end in
    simp (to_z-of_z, micro_to_are c.scale.view_is) sum

pub most_ticks-requires-clause-reading : goal.most_ticks-requires-clause-reading
most_ticks-requires-clause-reading c =
    let micro : FitsSigned w128 c.args.scale.now.micro_to = fits (record { le = tt }) (micro_near (scale_is c.scale.view_is c.scale.invariant).micro_to) in
    let starts : FitsSigned w128 c.most_at-starts.result = fits (record { le = tt }) (none_near (record { le = tt }) c.most_at-starts.ensures.within) in
    let ends : FitsSigned w128 c.most_at-ends.result = fits (record { le = tt }) (none_near (record { le = tt }) c.most_at-ends.ensures.within) in
    let greatest : c.max.result ≡ int_max c.most_at-starts.result c.most_at-ends.result = simp to_z-of_z at c.max.ensures.value in
    let near = greatest_near c.most_at-starts.result c.most_at-ends.result c.max.result c.most_at-starts.ensures.within c.most_at-ends.ensures.within greatest in
    let top : FitsSigned w128 c.max.result = fits (record { le = tt }) near in
    let end = ended_near c.max.result c.args.scale.now.micro_to near (scale_is c.scale.view_is c.scale.invariant).micro_to in
    let sum : FitsSigned w128 (c.max.result +ℤ c.args.scale.now.micro_to) = fits (record { le = tt }) end in
    simp (to_z-of_z, micro_to_are c.scale.view_is) end

pub returns : goal.returns
returns c =
    let micro : FitsSigned w128 c.args.scale.now.micro_to = fits (record { le = tt }) (micro_near (scale_is c.scale.view_is c.scale.invariant).micro_to) in
    let starts : FitsSigned w128 c.most_at-starts.result = fits (record { le = tt }) (none_near (record { le = tt }) c.most_at-starts.ensures.within) in
    let ends : FitsSigned w128 c.most_at-ends.result = fits (record { le = tt }) (none_near (record { le = tt }) c.most_at-ends.ensures.within) in
    let greatest : c.max.result ≡ int_max c.most_at-starts.result c.most_at-ends.result = simp to_z-of_z at c.max.ensures.value in
    let near = greatest_near c.most_at-starts.result c.most_at-ends.result c.max.result c.most_at-starts.ensures.within c.most_at-ends.ensures.within greatest in
    let top : FitsSigned w128 c.max.result = fits (record { le = tt }) near in
    let end = ended_near c.max.result c.args.scale.now.micro_to near (scale_is c.scale.view_is c.scale.invariant).micro_to in
    let sum : FitsSigned w128 (c.max.result +ℤ c.args.scale.now.micro_to) = fits (record { le = tt }) end in
    let r : FitsSigned w128 c.most_ticks.result = fits (record { le = tt }) c.most_ticks.ensures.within in
    let r64 : FitsSigned w64 c.most_ticks.result = fits64 c.most_ticks.ensures.within in
    let value : c.most_ticks.result ≡ most_ticks c.args.scale.now.drift (c.max.result +ℤ c.args.scale.now.micro_to) = simp (to_z-of_z, drift_are c.scale.view_is, micro_to_are c.scale.view_is) at c.most_ticks.ensures.value in
    simp to_z-of_z (rw (value, greatest, c.most_at-starts.ensures.value, c.most_at-ends.ensures.value) (record { value = refl }))
