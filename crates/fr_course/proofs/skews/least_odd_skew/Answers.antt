use Rattle.std.proofs.Common.{◌≡◌, FitsSigned, pos, refl, arith, rules}
use Rattle.std.specs.Prelude.{◌-ℤ◌}
use Rattle.std.specs.Int.{int_max}
use mir.Syntax.{w128}
use Rattle.std.proofs.lemmas.Int.{ints, to_z-of_z}
use Rattle.fr_base.specs.Within.{IsWithin}
use Rattle.std.proofs.Common.{w64}
use Rattle.fr_course.specs.Readings.{least_ticks}
use Rattle.fr_course.proofs.Limits.{max_within}
use Rattle.fr_course.proofs.Numbers.{drift_are, micro_to_are, scale_is}
use Rattle.fr_course.proofs.skews.least_odd_skew.Goals as goal

pub least_ticks-requires-clause-reading : goal.least_ticks-requires-clause-reading
least_ticks-requires-clause-reading c =
    let st : FitsSigned w128 (c.least_at-starts.result) = search rules in
    let tu : FitsSigned w128 (c.least_at.result) = search rules in
    let micro : FitsSigned w128 (c.args.scale.now.micro_to) = search rules in
    let turns : FitsSigned w128 (c.least_at.result -ℤ c.args.scale.now.micro_to) = omega (arith, ints, c.least_at.ensures.within, (scale_is c.scale.view_is c.scale.invariant).micro_to) in
    let m : FitsSigned w128 (c.max.result) = search rules in
    let max : c.max.result ≡ int_max c.least_at-starts.result (c.least_at.result -ℤ c.args.scale.now.micro_to) = simp (to_z-of_z, micro_to_are c.scale.view_is) at c.max.ensures.value in
    let x : IsWithin (pos 6_100_000_000_000_000_000) (c.least_at-starts.result) = record { low = omega (arith, ints, c.least_at-starts.ensures.within); high = omega (arith, ints, c.least_at-starts.ensures.within) } in
    let y : IsWithin (pos 6_100_000_000_000_000_000) (c.least_at.result -ℤ c.args.scale.now.micro_to) = record { low = omega (arith, ints, c.least_at.ensures.within, (scale_is c.scale.view_is c.scale.invariant).micro_to); high = omega (arith, ints, c.least_at.ensures.within, (scale_is c.scale.view_is c.scale.invariant).micro_to) } in
    simp to_z-of_z (rw max (max_within (pos 6_100_000_000_000_000_000) c.least_at-starts.result (c.least_at.result -ℤ c.args.scale.now.micro_to) x y))

pub returns : goal.returns
returns c =
    let st : FitsSigned w128 (c.least_at-starts.result) = search rules in
    let tu : FitsSigned w128 (c.least_at.result) = search rules in
    let micro : FitsSigned w128 (c.args.scale.now.micro_to) = search rules in
    let turns : FitsSigned w128 (c.least_at.result -ℤ c.args.scale.now.micro_to) = omega (arith, ints, c.least_at.ensures.within, (scale_is c.scale.view_is c.scale.invariant).micro_to) in
    let m : FitsSigned w128 (c.max.result) = search rules in
    let max : c.max.result ≡ int_max c.least_at-starts.result (c.least_at.result -ℤ c.args.scale.now.micro_to) = simp (to_z-of_z, micro_to_are c.scale.view_is) at c.max.ensures.value in
    let r : FitsSigned w128 (c.least_ticks.result) = search rules in
    let r64 : FitsSigned w64 c.least_ticks.result = omega (arith, ints, c.least_ticks.ensures.within) in
    let value : c.least_ticks.result ≡ least_ticks c.args.scale.now.drift c.max.result = simp (to_z-of_z, drift_are c.scale.view_is) at c.least_ticks.ensures.value in
    simp to_z-of_z (rw (value, max, c.least_at-starts.ensures.value, c.least_at.ensures.value) (record { value = refl }))
