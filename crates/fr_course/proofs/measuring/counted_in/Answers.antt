use Rattle.std.proofs.Common.{◌≡◌, ◌∙◌, FitsSigned, ℤ, pos, ap, ap₂, arith, rules}
use mir.Syntax.{w128}
use Rattle.std.proofs.lemmas.Int.{ints, to_z-of_z}
use Rattle.fr_base.specs.Within.{IsWithin}
use Rattle.fr_course.specs.Readings.{Interval}
use Rattle.fr_course.specs.Computed.{further_by, values_from, values_to}
use Rattle.fr_course.proofs.measuring.counted_in.Goals as goal

pub values_from-requires : goal.values_from-requires
values_from-requires c =
    let near = c.further_by-off.ensures.near (pos 6_200_000_000_000_000_000) c.requires.ticks in
    let fits : FitsSigned w128 c.further_by-off.result.low = omega (arith, ints, near, c.requires.error) in
    let within : IsWithin (pos 20_000_000_000_000_000_000) c.further_by-off.result.low = record { low = omega (arith, ints, near, c.requires.error); high = omega (arith, ints, near, c.requires.error) } in
    record { ticks = simp to_z-of_z within }

pub values_to-requires : goal.values_to-requires
values_to-requires c =
    let near = c.further_by-off.ensures.near (pos 6_200_000_000_000_000_000) c.requires.ticks in
    let fits : FitsSigned w128 c.further_by-off.result.high = omega (arith, ints, near, c.requires.error) in
    let within : IsWithin (pos 20_000_000_000_000_000_000) c.further_by-off.result.high = record { low = omega (arith, ints, near, c.requires.error); high = omega (arith, ints, near, c.requires.error) } in
    record { ticks = simp to_z-of_z within }

pub returns-clause-value : goal.returns-clause-value
returns-clause-value c =
    let near = c.further_by-off.ensures.near (pos 6_200_000_000_000_000_000) c.requires.ticks in
    let e : FitsSigned w128 c.args.error = search rules in
    let low : FitsSigned w128 c.further_by-off.result.low = omega (arith, ints, near, c.requires.error) in
    let high : FitsSigned w128 c.further_by-off.result.high = omega (arith, ints, near, c.requires.error) in
    let from_fits : FitsSigned w128 c.values_from.result = omega (arith, ints, c.values_from.ensures.within) in
    let to_fits : FitsSigned w128 c.values_to.result = omega (arith, ints, c.values_to.ensures.within) in
    let from : c.values_from.result ≡ values_from c.args.measuring.now c.further_by-off.result.low = simp to_z-of_z at c.values_from.ensures.value in
    let to : c.values_to.result ≡ values_to c.args.measuring.now c.further_by-off.result.high = simp to_z-of_z at c.values_to.ensures.value in
    let off : c.further_by-off.result ≡ further_by c.args.error c.args.ticks.now = c.further_by-off.ensures.value ∙ ap (λ (x : ℤ). further_by x c.args.ticks.now) (to_z-of_z w128 c.args.error e) in
    let pair : ℤ → ℤ → Interval = λ l h. record { low = l; high = h } in
    ap₂ pair
    (to_z-of_z w128 c.values_from.result from_fits ∙ from ∙ ap (λ (x : Interval). values_from c.args.measuring.now x.low) off)
    (to_z-of_z w128 c.values_to.result to_fits ∙ to ∙ ap (λ (x : Interval). values_to c.args.measuring.now x.high) off)
