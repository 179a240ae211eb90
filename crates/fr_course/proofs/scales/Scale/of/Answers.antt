use Rattle.std.proofs.Common.{◌≡◌, ◌∙◌, FitsSigned, ℤ, pos, ap, refl, w64, arith}
use Rattle.std.specs.Prelude.{◌*ℤ◌, ◌≤ℤ◌}
use mir.Syntax.{w128}
use Rattle.std.proofs.lemmas.Int.{ints, to_z-of_z}
use Rattle.fr_base.specs.Within.{IsBetween, IsWithin}
use Rattle.fr_bound.specs.Bounds.{cycle_change, longest_micro, shortest_micro}
use Rattle.fr_bound.specs.Checks.{least_cycle}
use Rattle.fr_time.specs.Position.{IsGrid}
use Rattle.fr_time.specs.declared.grid.Grid.{Grid}
use Rattle.fr_course.specs.Readings.{least_reading, most_cycle, most_reading}
use Rattle.fr_course.proofs.Fits.{between_near, fits}
use Rattle.fr_course.proofs.scales.Scale.of.Goals as goal

-- ---- the numbers of a grid

grid_macros : (grid : Grid) → IsGrid grid → IsBetween (pos 1) (pos 16_000) grid.macros
grid_macros grid is = record { low = omega (arith, ints, is.correction_from, is.correction_to); high = is.macros_to }

grid_correction : (grid : Grid) → IsGrid grid → IsBetween (pos 0) (pos 16_000) grid.correction
grid_correction grid is = record { low = omega (arith, ints, is.correction_from); high = omega (arith, ints, is.correction_to, is.macros_to) }

before_end : (grid : Grid) → IsGrid grid → grid.correction ≤ℤ grid.macros
before_end grid is = omega (arith, ints, is.correction_to)

fits64 : {x : ℤ} → IsWithin (pos 16_000) x → FitsSigned w64 x
fits64 near = omega (arith, ints, near.low, near.high)

-- ---- of the call

pub returns : goal.returns
returns c =
    let is = c.grid_of-grid.ensures.placeable.is_grid in
    let macros_near : IsWithin (pos 16_000) c.grid_of-grid.result.macros = between_near {least = pos 1} (record { le = tt }) (record { le = tt }) (grid_macros c.grid_of-grid.result is) in
    let correction_near : IsWithin (pos 16_000) c.grid_of-grid.result.correction = between_near {least = pos 0} (record { le = tt }) (record { le = tt }) (grid_correction c.grid_of-grid.result is) in
    let macros64 : FitsSigned w64 c.grid_of-grid.result.macros = fits64 macros_near in
    let macros_fits : FitsSigned w128 c.grid_of-grid.result.macros = fits (record { le = tt }) macros_near in
    let macros : c.grid_of-grid.result.macros ≡ c.args.params.now.macros = ap (λ (grid : Grid). grid.macros) c.grid_of-grid.ensures.value in
    let correction64 : FitsSigned w64 c.grid_of-grid.result.correction = fits64 correction_near in
    let correction_fits : FitsSigned w128 c.grid_of-grid.result.correction = fits (record { le = tt }) correction_near in
    let correction : c.grid_of-grid.result.correction ≡ c.args.params.now.correction = ap (λ (grid : Grid). grid.correction) c.grid_of-grid.ensures.value in
    let length_from_near : FitsSigned w128 c.least_reading.result = fits (record { le = tt }) c.least_reading.ensures.within in
    let length_from_fits : FitsSigned w128 c.shortest_cycle.result = fits (record { le = tt }) (between_near {least = pos 0} (record { le = tt }) (record { le = tt }) c.shortest_cycle.ensures.within) in
    let length_from_at : c.least_reading.result ≡ least_reading c.args.drift c.shortest_cycle.result = simp to_z-of_z at c.least_reading.ensures.value in
    let length_from_is : c.least_reading.result ≡ least_reading c.args.drift (pos (least_cycle c.args.params.now) *ℤ pos (shortest_micro c.args.params.now)) = length_from_at ∙ ap (least_reading c.args.drift) c.shortest_cycle.ensures.value in
    let length_to_near : FitsSigned w128 c.most_reading.result = fits (record { le = tt }) c.most_reading.ensures.within in
    let length_to_fits : FitsSigned w128 c.longest_cycle.result = fits (record { le = tt }) (between_near {least = pos 0} (record { le = tt }) (record { le = tt }) c.longest_cycle.ensures.within) in
    let length_to_at : c.most_reading.result ≡ most_reading c.args.drift c.longest_cycle.result = simp to_z-of_z at c.most_reading.ensures.value in
    let length_to_is : c.most_reading.result ≡ most_reading c.args.drift (most_cycle c.args.params.now *ℤ pos (longest_micro c.args.params.now)) = length_to_at ∙ ap (most_reading c.args.drift) c.longest_cycle.ensures.value in
    let change_near : FitsSigned w128 c.most_reading-2.result = fits (record { le = tt }) c.most_reading-2.ensures.within in
    let change_fits : FitsSigned w128 c.greatest_change.result = fits (record { le = tt }) (between_near {least = pos 0} (record { le = tt }) (record { le = tt }) c.greatest_change.ensures.within) in
    let change_at : c.most_reading-2.result ≡ most_reading c.args.drift c.greatest_change.result = simp to_z-of_z at c.most_reading-2.ensures.value in
    let change_is : c.most_reading-2.result ≡ most_reading c.args.drift (pos (cycle_change c.args.params.now)) = change_at ∙ ap (most_reading c.args.drift) c.greatest_change.ensures.value in
    let micro_from_near : FitsSigned w128 c.least_reading-2.result = fits (record { le = tt }) c.least_reading-2.ensures.within in
    let micro_from_fits : FitsSigned w128 c.shortest_micro.result = fits (record { le = tt }) (between_near {least = pos 998_500} (record { le = tt }) (record { le = tt }) c.shortest_micro.ensures.within) in
    let micro_from_at : c.least_reading-2.result ≡ least_reading c.args.drift c.shortest_micro.result = simp to_z-of_z at c.least_reading-2.ensures.value in
    let micro_from_is : c.least_reading-2.result ≡ least_reading c.args.drift (pos (shortest_micro c.args.params.now)) = micro_from_at ∙ ap (least_reading c.args.drift) c.shortest_micro.ensures.value in
    let micro_to_near : FitsSigned w128 c.most_reading-3.result = fits (record { le = tt }) c.most_reading-3.ensures.within in
    let micro_to_fits : FitsSigned w128 c.longest_micro.result = fits (record { le = tt }) (between_near {least = pos 998_500} (record { le = tt }) (record { le = tt }) c.longest_micro.ensures.within) in
    let micro_to_at : c.most_reading-3.result ≡ most_reading c.args.drift c.longest_micro.result = simp to_z-of_z at c.most_reading-3.ensures.value in
    let micro_to_is : c.most_reading-3.result ≡ most_reading c.args.drift (pos (longest_micro c.args.params.now)) = micro_to_at ∙ ap (most_reading c.args.drift) c.longest_micro.ensures.value in
    record { value = simp to_z-of_z (rw (length_from_is, length_to_is, change_is, micro_from_is, micro_to_is, macros, correction) refl) }

pub invariant_of-result : goal.invariant_of-result
invariant_of-result c =
    let is = c.grid_of-grid.ensures.placeable.is_grid in
    let short = c.least_reading-2.ensures.some (omega (arith, ints, c.shortest_micro.ensures.within)) in
    let long = c.most_reading-3.ensures.some (omega (arith, ints, c.longest_micro.ensures.within)) in
    let macros_near : IsWithin (pos 16_000) c.grid_of-grid.result.macros = between_near {least = pos 1} (record { le = tt }) (record { le = tt }) (grid_macros c.grid_of-grid.result is) in
    let correction_near : IsWithin (pos 16_000) c.grid_of-grid.result.correction = between_near {least = pos 0} (record { le = tt }) (record { le = tt }) (grid_correction c.grid_of-grid.result is) in
    let macros64 : FitsSigned w64 c.grid_of-grid.result.macros = fits64 macros_near in
    let macros_fits : FitsSigned w128 c.grid_of-grid.result.macros = fits (record { le = tt }) macros_near in
    let correction64 : FitsSigned w64 c.grid_of-grid.result.correction = fits64 correction_near in
    let correction_fits : FitsSigned w128 c.grid_of-grid.result.correction = fits (record { le = tt }) correction_near in
    let length_from_fits : FitsSigned w128 c.least_reading.result = fits (record { le = tt }) c.least_reading.ensures.within in
    let length_to_fits : FitsSigned w128 c.most_reading.result = fits (record { le = tt }) c.most_reading.ensures.within in
    let change_fits : FitsSigned w128 c.most_reading-2.result = fits (record { le = tt }) c.most_reading-2.ensures.within in
    let micro_from_fits : FitsSigned w128 c.least_reading-2.result = fits (record { le = tt }) c.least_reading-2.ensures.within in
    let micro_to_fits : FitsSigned w128 c.most_reading-3.result = fits (record { le = tt }) c.most_reading-3.ensures.within in
    simp to_z-of_z (record {
      drift = c.requires;
      macros_from = (grid_macros c.grid_of-grid.result is).low;
      macros_to = (grid_macros c.grid_of-grid.result is).high;
      correction_from = (grid_correction c.grid_of-grid.result is).low;
      correction_to = before_end c.grid_of-grid.result is;
      length_from = c.least_reading.ensures.within;
      length_to = c.most_reading.ensures.within;
      change = c.most_reading-2.ensures.within;
      micro_from = record { low = short; high = c.least_reading-2.ensures.within.high };
      micro_to = record { low = long; high = c.most_reading-3.ensures.within.high };
    })
