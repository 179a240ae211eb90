use Rattle.std.proofs.Common.{◌≡◌, FitsSigned, w64, ℤ, pos, refl, subst, sym}
use Rattle.std.specs.Prelude.{◌+ℤ◌}
use Rattle.std.specs.Int.{int_max}
use mir.Syntax.{w128}
use Rattle.std.proofs.lemmas.Int.{to_z-of_z}
use Rattle.fr_base.specs.Within.{IsBetween, IsWithin}
use Rattle.fr_course.specs.Readings.{most_ticks}
use Rattle.fr_course.proofs.Fits.{fits, fits64, micro_near, none_near, sum_near, wider_near}
use Rattle.fr_course.proofs.Limits.{max_within}
use Rattle.fr_course.proofs.Numbers.{drift_are, micro_to_are, scale_is}
use Rattle.fr_course.proofs.skews.most_odd_skew.Goals as goal

-- the greatest of three distances, of which one is farther by a microtick
inner_near : (turns ends micro inner : ℤ) → IsBetween (pos 0) (pos 6_000_000_000_000_000_000) turns → IsBetween (pos 0) (pos 6_000_000_000_000_000_000) ends → IsBetween (pos 1) (pos 1_001_000_000_000) micro
    → inner ≡ int_max (turns +ℤ micro) ends → IsWithin (pos 6_050_000_000_000_000_000) inner
inner_near turns ends micro inner a b m is =
    subst (IsWithin (pos 6_050_000_000_000_000_000)) (sym is)
    (max_within (pos 6_050_000_000_000_000_000) (turns +ℤ micro) ends (wider_near (record { le = tt }) (sum_near (none_near (record { le = tt }) a) (micro_near m))) (wider_near (record { le = tt }) (none_near (record { le = tt }) b)))

outer_near : (starts inner outer : ℤ) → IsBetween (pos 0) (pos 6_000_000_000_000_000_000) starts → IsWithin (pos 6_050_000_000_000_000_000) inner → outer ≡ int_max starts inner
    → IsWithin (pos 6_050_000_000_000_000_000) outer
outer_near starts inner outer a near is =
    subst (IsWithin (pos 6_050_000_000_000_000_000)) (sym is) (max_within (pos 6_050_000_000_000_000_000) starts inner (wider_near (record { le = tt }) (none_near (record { le = tt }) a)) near)

ended_near : (x micro : ℤ) → IsWithin (pos 6_050_000_000_000_000_000) x → IsBetween (pos 1) (pos 1_001_000_000_000) micro → IsWithin (pos 6_100_000_000_000_000_000) (x +ℤ micro)
ended_near x micro near m = wider_near (record { le = tt }) (sum_near near (micro_near m))

pub overflow_add-max : goal.overflow_add-max
overflow_add-max c =
    let micro : FitsSigned w128 c.args.scale.now.micro_to = fits (record { le = tt }) (micro_near (scale_is c.scale.view_is c.scale.invariant).micro_to) in
    let turns : FitsSigned w128 c.most_at.result = fits (record { le = tt }) (none_near (record { le = tt }) c.most_at.ensures.within) in
    let moved : FitsSigned w128 (c.most_at.result +ℤ c.args.scale.now.micro_to) = fits (record { le = tt }) (sum_near (none_near (record { le = tt }) c.most_at.ensures.within) (micro_near (scale_is c.scale.view_is c.scale.invariant).micro_to)) in
    let ends : FitsSigned w128 c.most_at-ends.result = fits (record { le = tt }) (none_near (record { le = tt }) c.most_at-ends.ensures.within) in
    let inner : c.max.result ≡ int_max (c.most_at.result +ℤ c.args.scale.now.micro_to) c.most_at-ends.result = simp (to_z-of_z, micro_to_are c.scale.view_is) at c.max.ensures.value in
    let nearer = inner_near c.most_at.result c.most_at-ends.result c.args.scale.now.micro_to c.max.result c.most_at.ensures.within c.most_at-ends.ensures.within (scale_is c.scale.view_is c.scale.invariant).micro_to inner in
    let starts : FitsSigned w128 c.most_at-starts.result = fits (record { le = tt }) (none_near (record { le = tt }) c.most_at-starts.ensures.within) in
    let most : FitsSigned w128 c.max.result = fits (record { le = tt }) nearer in
    let outer : c.max-2.result ≡ int_max c.most_at-starts.result c.max.result = simp to_z-of_z at c.max-2.ensures.value in
    let near = outer_near c.most_at-starts.result c.max.result c.max-2.result c.most_at-starts.ensures.within nearer outer in
    let top : FitsSigned w128 c.max-2.result = fits (record { le = tt }) near in
    let end = ended_near c.max-2.result c.args.scale.now.micro_to near (scale_is c.scale.view_is c.scale.invariant).micro_to in
    let sum : FitsSigned w128 (c.max-2.result +ℤ c.args.scale.now.micro_to) = fits (record { le = tt }) end in
    simp (to_z-of_z, micro_to_are c.scale.view_is) sum

pub most_ticks-requires-clause-reading : goal.most_ticks-requires-clause-reading
most_ticks-requires-clause-reading c =
    let micro : FitsSigned w128 c.args.scale.now.micro_to = fits (record { le = tt }) (micro_near (scale_is c.scale.view_is c.scale.invariant).micro_to) in
    let turns : FitsSigned w128 c.most_at.result = fits (record { le = tt }) (none_near (record { le = tt }) c.most_at.ensures.within) in
    let moved : FitsSigned w128 (c.most_at.result +ℤ c.args.scale.now.micro_to) = fits (record { le = tt }) (sum_near (none_near (record { le = tt }) c.most_at.ensures.within) (micro_near (scale_is c.scale.view_is c.scale.invariant).micro_to)) in
    let ends : FitsSigned w128 c.most_at-ends.result = fits (record { le = tt }) (none_near (record { le = tt }) c.most_at-ends.ensures.within) in
    let inner : c.max.result ≡ int_max (c.most_at.result +ℤ c.args.scale.now.micro_to) c.most_at-ends.result = simp (to_z-of_z, micro_to_are c.scale.view_is) at c.max.ensures.value in
    let nearer = inner_near c.most_at.result c.most_at-ends.result c.args.scale.now.micro_to c.max.result c.most_at.ensures.within c.most_at-ends.ensures.within (scale_is c.scale.view_is c.scale.invariant).micro_to inner in
    let starts : FitsSigned w128 c.most_at-starts.result = fits (record { le = tt }) (none_near (record { le = tt }) c.most_at-starts.ensures.within) in
    let most : FitsSigned w128 c.max.result = fits (record { le = tt }) nearer in
    let outer : c.max-2.result ≡ int_max c.most_at-starts.result c.max.result = simp to_z-of_z at c.max-2.ensures.value in
    let near = outer_near c.most_at-starts.result c.max.result c.max-2.result c.most_at-starts.ensures.within nearer outer in
    let top : FitsSigned w128 c.max-2.result = fits (record { le = tt }) near in
    let end = ended_near c.max-2.result c.args.scale.now.micro_to near (scale_is c.scale.view_is c.scale.invariant).micro_to in
    let sum : FitsSigned w128 (c.max-2.result +ℤ c.args.scale.now.micro_to) = fits (record { le = tt }) end in
    simp (to_z-of_z, micro_to_are c.scale.view_is) end

pub returns : goal.returns
returns c =
    let micro : FitsSigned w128 c.args.scale.now.micro_to = fits (record { le = tt }) (micro_near (scale_is c.scale.view_is c.scale.invariant).micro_to) in
    let turns : FitsSigned w128 c.most_at.result = fits (record { le = tt }) (none_near (record { le = tt }) c.most_at.ensures.within) in
    let moved : FitsSigned w128 (c.most_at.result +ℤ c.args.scale.now.micro_to) = fits (record { le = tt }) (sum_near (none_near (record { le = tt }) c.most_at.ensures.within) (micro_near (scale_is c.scale.view_is c.scale.invariant).micro_to)) in
    let ends : FitsSigned w128 c.most_at-ends.result = fits (record { le = tt }) (none_near (record { le = tt }) c.most_at-ends.ensures.within) in
    let inner : c.max.result ≡ int_max (c.most_at.result +ℤ c.args.scale.now.micro_to) c.most_at-ends.result = simp (to_z-of_z, micro_to_are c.scale.view_is) at c.max.ensures.value in
    let nearer = inner_near c.most_at.result c.most_at-ends.result c.args.scale.now.micro_to c.max.result c.most_at.ensures.within c.most_at-ends.ensures.within (scale_is c.scale.view_is c.scale.invariant).micro_to inner in
    let starts : FitsSigned w128 c.most_at-starts.result = fits (record { le = tt }) (none_near (record { le = tt }) c.most_at-starts.ensures.within) in
    let most : FitsSigned w128 c.max.result = fits (record { le = tt }) nearer in
    let outer : c.max-2.result ≡ int_max c.most_at-starts.result c.max.result = simp to_z-of_z at c.max-2.ensures.value in
    let near = outer_near c.most_at-starts.result c.max.result c.max-2.result c.most_at-starts.ensures.within nearer outer in
    let top : FitsSigned w128 c.max-2.result = fits (record { le = tt }) near in
    let end = ended_near c.max-2.result c.args.scale.now.micro_to near (scale_is c.scale.view_is c.scale.invariant).micro_to in
    let sum : FitsSigned w128 (c.max-2.result +ℤ c.args.scale.now.micro_to) = fits (record { le = tt }) end in
    let r : FitsSigned w128 c.most_ticks.result = fits (record { le = tt }) c.most_ticks.ensures.within in
    let r64 : FitsSigned w64 c.most_ticks.result = fits64 c.most_ticks.ensures.within in
    let value : c.most_ticks.result ≡ most_ticks c.args.scale.now.drift (c.max-2.result +ℤ c.args.scale.now.micro_to) = simp (to_z-of_z, drift_are c.scale.view_is, micro_to_are c.scale.view_is) at c.most_ticks.ensures.value in
    simp to_z-of_z (rw (value, outer, inner, c.most_at-starts.ensures.value, c.most_at.ensures.value, c.most_at-ends.ensures.value) (record { value = refl }))
