use Rattle.std.proofs.Common.{ℕ, ℤ, pos, ◌≤◌, sym, arith}
use Rattle.std.specs.Prelude.{◌≤ℤ◌, ◌<ℤ◌, nat_abs}
use Rattle.std.proofs.lemmas.Int.{ints}
use Rattle.fr_time.proofs.Floors.{natural}
use Rattle.fr_skew.proofs.Bounds.{spread_bounded}
use Rattle.fr_skew.proofs.laws.macroticks_lie_near.Goals as goal

pub returns : goal.returns
returns c bound grid cycle rows macrotick is_grid placed corners within =
    spread_bounded grid cycle rows (nat_abs grid.correction) (nat_abs grid.macros) macrotick bound placed
    (sym (natural grid.correction (from_one grid.correction is_grid.correction_from)))
    (sym (natural grid.macros (from_more grid.correction grid.macros is_grid.correction_from is_grid.correction_to)))
    (in_cycle macrotick grid.correction grid.macros is_grid.correction_from is_grid.correction_to within)
    corners.from corners.begins corners.evenly corners.turns corners.ends
  where
    from_one : (a : ℤ) → pos 1 ≤ℤ a → pos 0 ≤ℤ a
    from_one a one = omega (arith, ints)

    from_more : (a b : ℤ) → pos 1 ≤ℤ a → a <ℤ b → pos 0 ≤ℤ b
    from_more a b one less = omega (arith, ints)

    in_cycle : (m : ℕ) (a b : ℤ) → pos 1 ≤ℤ a → a <ℤ b → m ≤ nat_abs b → pos m ≤ℤ b
    in_cycle m a b one less le = omega (arith, ints)
