use Rattle.std.proofs.Common.{◌≡◌, ◌∙◌, ◌<◌, ℕ, ℤ, pos, Option, Some, FitsSigned, w64, ap, sym, arith, rules}
use Rattle.std.specs.Prelude.{◌≤ℤ◌, ◌<ℤ◌, nat_abs}
use Rattle.std.proofs.lemmas.Int.{ints, to_z-of_z}
use Rattle.fr_skew.specs.Spreads.{spread_at}
use Rattle.fr_skew.specs.Sweep.{greatest_within}
use Rattle.fr_skew.specs.declared.peak.Peak.{Peak}
use Rattle.fr_skew.proofs.Sweep.{greatest_kept}
use Rattle.fr_skew.proofs.bound.is_greatest.Goals as goal

pub returns-in-Some-clause-kept : goal.returns-in-Some-clause-kept
returns-in-Some-clause-kept c held =
    let grid = c.args.grid.now in
    let rows = c.args.rows.now in
    let peak : Peak = c.in-Some.peak in
    let macros : ℕ = nat_abs grid.macros in
    let bound_fits : FitsSigned w64 c.bound_of.result = search rules in
    let skew_fits : FitsSigned w64 peak.skew = search rules in
    let le : c.bound_of.result ≤ℤ peak.skew = grind (arith, ints, to_z-of_z, held) in
    let there : c.args.before ≡ Some peak = c.in-Some.is in
    let below : (macrotick : ℕ) → macrotick < macros → spread_at grid c.args.cycle rows macrotick ≤ℤ peak.skew =
    (λ macrotick less. trans (spread_at grid c.args.cycle rows macrotick) c.bound_of.result peak.skew (c.bound_of.ensures macrotick (in_cycle macrotick grid.macros grid.correction c.requires.grid.correction_from c.requires.grid.correction_to less)) le) in
    ap (λ (o : Option Peak). greatest_within grid c.args.cycle rows o macros) there ∙ greatest_kept grid c.args.cycle rows peak macros below ∙ sym there
  where
    trans : (a b c : ℤ) → a ≤ℤ b → b ≤ℤ c → a ≤ℤ c
    trans a b c one two = omega (arith, ints)

    in_cycle : (m : ℕ) (macros correction : ℤ) → pos 1 ≤ℤ correction → correction <ℤ macros → m < nat_abs macros → pos m ≤ℤ macros
    in_cycle m macros correction from to less = omega (arith, ints)
