use Rattle.std.proofs.Common.{◌≡◌, ◌∙◌, FitsSigned, ℤ, Option, Some, w64, subst, ap, sym, arith, rules}
use Rattle.std.specs.Prelude.{IsSome}
use Rattle.std.proofs.lemmas.Int.{to_z-of_z}
use Rattle.fr_skew.specs.Spreads.{spread_at}
use Rattle.fr_skew.specs.Sweep.{greater_of, greatest_within}
use Rattle.fr_skew.specs.declared.peak.Peak.{Peak}
use Rattle.fr_skew.proofs.Sweep.{greatest_there, greatest_within-next, greatest_within-none}
use Rattle.fr_skew.proofs.peak.swept_through.Goals as goal

pub loop-macrotick-init : goal.loop-macrotick-init
loop-macrotick-init c = sym (greatest_within-none c.args.grid.now c.args.cycle c.args.rows.now c.args.before)

pub loop-macrotick-preserved : goal.loop-macrotick-preserved
loop-macrotick-preserved c =
    let grid = c.args.grid.now in
    let macrotick = c.loop-macrotick.macrotick in
    let fits : FitsSigned w64 c.spread_at-skew.result = search rules in
    let skew : c.spread_at-skew.result ≡ spread_at grid c.args.cycle c.args.rows.now macrotick = c.spread_at-skew.ensures.value in
    let best : c.greater.result ≡ greater_of c.loop-macrotick.peak (record { skew = c.spread_at-skew.result; cycle = c.args.cycle; macrotick = macrotick }) =
    simp to_z-of_z at c.greater.ensures in
    ap Some best
    ∙ ap (λ (o : Option Peak). Some (greater_of o (record { skew = c.spread_at-skew.result; cycle = c.args.cycle; macrotick = macrotick }))) c.loop-macrotick.invariant
    ∙ ap (λ (x : ℤ). Some (greater_of (greatest_within grid c.args.cycle c.args.rows.now c.args.before macrotick) (record { skew = x; cycle = c.args.cycle; macrotick = macrotick }))) skew
    ∙ sym (greatest_within-next grid c.args.cycle c.args.rows.now c.args.before macrotick)

pub returns-clause-there : goal.returns-clause-there
returns-clause-there c =
    let P : Option Peak → Type 0 = IsSome in
    subst P (sym c.loop-macrotick.invariant) (greatest_there c.args.grid.now c.args.cycle c.args.rows.now c.args.before c.loop-macrotick.macrotick
    (omega (arith, c.loop-macrotick-test.false, c.macroticks-macrotick-end.ensures.some)))
