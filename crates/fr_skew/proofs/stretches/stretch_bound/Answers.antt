use Rattle.std.proofs.Common.{ℤ, pos, FitsSigned, w64, arith}
use Rattle.std.specs.Prelude.{◌≤ℤ◌, ◌+ℤ◌}
use Rattle.std.proofs.lemmas.Int.{ints, to_z-of_z}
use Rattle.fr_skew.specs.Spreads.{spread_at}
use Rattle.fr_skew.proofs.Bounds.{most}
use Rattle.fr_skew.proofs.Pacing.{alike_bounded, paced_bounded}
use Rattle.fr_skew.proofs.Sections.{stretch_bounded}
use Rattle.fr_skew.proofs.stretches.stretch_bound.Goals as goal

pub returns-then-are_alike : goal.returns-then-are_alike
returns-then-are_alike c macrotick above below =
    let bound : ℤ = c.wider_end-widest.result in
    let ends = c.wider_end-widest.ensures in
    let whole : FitsSigned w64 bound = omega (arith, ints, ends.within.low, ends.within.high) in
    let near : spread_at c.args.grid.now c.args.cycle c.args.rows.now macrotick ≤ℤ bound =
    alike_bounded c.args.grid.now c.args.cycle c.args.rows.now c.args.from macrotick c.args.to bound c.requires.rows (c.are_alike.ensures c.if-are_alike.true)
    above (omega (arith, below)) ends.within.low ends.begins ends.ends in
    rw (to_z-of_z w64 bound whole) near

pub returns-then-keep_pace : goal.returns-then-keep_pace
returns-then-keep_pace c macrotick above below =
    let bound : ℤ = c.wider_end-widest.result in
    let ends = c.wider_end-widest.ensures in
    let whole : FitsSigned w64 bound = omega (arith, ints, ends.within.low, ends.within.high) in
    let near : spread_at c.args.grid.now c.args.cycle c.args.rows.now macrotick ≤ℤ bound =
    paced_bounded c.args.grid.now c.args.cycle c.args.rows.now c.args.from macrotick c.args.to bound c.requires.rows (c.keep_pace.ensures c.if-keep_pace.true)
    above (omega (arith, below)) ends.within.low ends.begins ends.ends in
    rw (to_z-of_z w64 bound whole) near

pub returns-else-keep_pace : goal.returns-else-keep_pace
returns-else-keep_pace c macrotick above below =
    let bound : ℤ = c.wider_end-widest.result in
    let ends = c.wider_end-widest.ensures in
    let whole : FitsSigned w64 bound = omega (arith, ints, ends.within.low, ends.within.high) in
    let sum : FitsSigned w64 (bound +ℤ pos 3000000) = omega (arith, ints, ends.within.low, ends.within.high) in
    let near : spread_at c.args.grid.now c.args.cycle c.args.rows.now macrotick ≤ℤ (bound +ℤ most +ℤ most) =
    stretch_bounded c.args.grid.now c.args.cycle c.args.rows.now c.args.from c.args.to macrotick bound c.requires.rows c.requires.stretch above below ends.within.low ends.begins ends.ends in
    rw (to_z-of_z w64 bound whole, to_z-of_z w64 (bound +ℤ pos 3000000) sum) (twice (spread_at c.args.grid.now c.args.cycle c.args.rows.now macrotick) bound near)
  where
    twice : (s b : ℤ) → s ≤ℤ (b +ℤ most +ℤ most) → s ≤ℤ (b +ℤ pos 3000000)
    twice s b le = omega (arith, ints)
