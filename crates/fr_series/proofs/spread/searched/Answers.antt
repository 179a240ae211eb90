use Rattle.std.proofs.Common.{◌≡◌, ◌∙◌, FitsSigned, ℤ, Option, w64, ap, sym, rules}
use Rattle.std.specs.Option.{option_or}
use Rattle.std.proofs.lemmas.Int.{to_z-of_z}
use Rattle.fr_skew.specs.Spreads.{spread_at}
use Rattle.fr_skew.specs.declared.peak.Peak.{Peak}
use Rattle.fr_series.specs.Scale.{above_at, first_above}
use Rattle.fr_series.proofs.Above.{above-next, above-none}
use Rattle.fr_series.proofs.spread.searched.Goals as goal

pub loop-macrotick-init : goal.loop-macrotick-init
loop-macrotick-init c = sym (above-none c.args.scale.now.grid c.args.cycle c.args.rows.now c.args.scale.now.precision)

pub loop-macrotick-preserved : goal.loop-macrotick-preserved
loop-macrotick-preserved c =
    let grid = c.args.scale.now.grid in
    let rows = c.args.rows.now in
    let limit : ℤ = c.args.scale.now.precision in
    let limit_fits : FitsSigned w64 limit = search rules in
    let macrotick = c.loop-macrotick.macrotick in
    let fits : FitsSigned w64 c.spread_at-skew.result = search rules in
    let skew : c.spread_at-skew.result ≡ spread_at grid c.args.cycle rows macrotick = c.spread_at-skew.ensures.value in
    let next : c.above_or-above.result ≡ option_or c.loop-macrotick.above (above_at limit (record { skew = c.spread_at-skew.result; cycle = c.args.cycle; macrotick = macrotick })) =
    simp to_z-of_z at c.above_or-above.ensures in
    next
    ∙ ap (λ (o : Option Peak). option_or o (above_at limit (record { skew = c.spread_at-skew.result; cycle = c.args.cycle; macrotick = macrotick }))) c.loop-macrotick.invariant
    ∙ ap (λ (x : ℤ). option_or (first_above grid c.args.cycle rows limit macrotick) (above_at limit (record { skew = x; cycle = c.args.cycle; macrotick = macrotick }))) skew
    ∙ sym (above-next grid c.args.cycle rows limit macrotick)
