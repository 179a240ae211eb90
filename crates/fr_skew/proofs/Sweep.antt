-- The greatest skew of a cycle, macrotick by macrotick.
use Rattle.std.proofs.Common.{◌≡◌, ◌∙◌, ℕ, ℤ, Bool, false, ◌+◌, ◌<◌, ◌≤◌, List, zero, suc, Option, Some, refl, ap, add-one, arith}
use Rattle.std.specs.Prelude.{◌≤ℤ◌, int_lt, IsSome}
use Rattle.std.proofs.lemmas.Int.{ints}
use Rattle.fr_base.specs.declared.node_row.NodeRow.{NodeRow}
use Rattle.fr_time.specs.declared.grid.Grid.{Grid}
use Rattle.fr_skew.specs.Spreads.{spread_at}
use Rattle.fr_skew.specs.Sweep.{greater_by, greater_of, greatest_within}
use Rattle.fr_skew.specs.declared.peak.Peak.{Peak}

pub greatest_within-none : (grid : Grid) (cycle : ℕ) (rows : List NodeRow) (before : Option Peak) → greatest_within grid cycle rows before 0 ≡ before
unfolding greatest_within
greatest_within-none grid cycle rows before = refl

-- one more macrotick
pub greatest_within-next : (grid : Grid) (cycle : ℕ) (rows : List NodeRow) (before : Option Peak) (macrotick : ℕ) →
    greatest_within grid cycle rows before (macrotick + 1) ≡ Some (greater_of (greatest_within grid cycle rows before macrotick) (record { skew = spread_at grid cycle rows macrotick; cycle = cycle; macrotick = macrotick }))
unfolding greatest_within
greatest_within-next grid cycle rows before macrotick = rw (add-one macrotick) refl

-- where there is a macrotick there is a greatest skew
pub greatest_there : (grid : Grid) (cycle : ℕ) (rows : List NodeRow) (before : Option Peak) (count : ℕ) → 1 ≤ count → IsSome (greatest_within grid cycle rows before count)
unfolding greatest_within
greatest_there grid cycle rows before zero some = absurd (omega arith)
greatest_there grid cycle rows before (suc count) some = refl

-- where no macrotick of a cycle has a greater skew, the greatest one stays
int_lt_not : (a b : ℤ) → b ≤ℤ a → int_lt a b ≡ false
int_lt_not a b le = grind (arith, ints)

pub greatest_kept : (grid : Grid) (cycle : ℕ) (rows : List NodeRow) (peak : Peak) (count : ℕ) → ((macrotick : ℕ) → macrotick < count → spread_at grid cycle rows macrotick ≤ℤ peak.skew)
    → greatest_within grid cycle rows (Some peak) count ≡ Some peak
unfolding greatest_within
greatest_kept grid cycle rows peak zero below = refl
greatest_kept grid cycle rows peak (suc count) below =
    let later : Peak = record { skew = spread_at grid cycle rows count; cycle = cycle; macrotick = count } in
    ap (λ (o : Option Peak). Some (greater_of o later)) (greatest_kept grid cycle rows peak count (λ m less. below m (omega arith)))
    ∙ ap (λ (b : Bool). Some (greater_by b peak later)) (int_lt_not peak.skew (spread_at grid cycle rows count) (below count (omega arith)))
