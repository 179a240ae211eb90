-- The extent of some numbers tells how far they lie apart.
use Rattle.std.proofs.Common.{◌≡◌, ℕ, ℤ, pos, neg_ℤ, ◌≤ℤ◌, Bool, true, false, List, [], ◌∷◌, map, Option, Some, None, refl, ap, ◌∙◌, arith}
use Rattle.std.specs.Int.{int_max, int_min}
use Rattle.std.specs.List.{fold}
use Rattle.std.proofs.lemmas.Int.{ints}
use Rattle.fr_base.specs.States.{is_halted}
use Rattle.fr_base.specs.declared.node_row.NodeRow.{NodeRow}
use Rattle.fr_time.specs.Cycles.{is_odd}
use Rattle.fr_time.specs.Instant.{instant_of}
use Rattle.fr_time.specs.declared.grid.Grid.{Grid}
use Rattle.fr_skew.specs.Extents.{spread_by, with_instant, with_length, with_number, with_start, IsExtent, IsInstant}
use Rattle.fr_skew.specs.Spreads.{running, spread_at, spread_of}
use Rattle.fr_skew.specs.Sync.{cycle_length_by}
use Rattle.fr_skew.specs.declared.extent.Extent.{Extent}
use Rattle.fr_skew.specs.declared.sync.SyncBounds.{SyncBounds}

fold-some : (low high : ℤ) (xs : List ℤ) → fold with_number (Some (record { low = low; high = high })) xs ≡ Some (record { low = fold int_min low xs; high = fold int_max high xs })
fold-some low high [] = refl
fold-some low high (x ∷ xs) = fold-some (int_min low x) (int_max high x) xs

pub fold-none : (xs : List ℤ) → spread_by (fold with_number None xs) ≡ spread_of xs
fold-none [] = refl
fold-none (x ∷ xs) = ap spread_by (fold-some x x xs)

-- ---- the numbers of rows

fold-map : (number : NodeRow → ℤ) (extent : Option Extent) (rows : List NodeRow) → fold (λ o row. with_number o (number row)) extent rows ≡ fold with_number extent (map number rows)
fold-map number extent [] = refl
fold-map number extent (row ∷ rows) = fold-map number (with_number extent (number row)) rows

pub starts_are : (rows : List NodeRow) → spread_by (fold with_start None rows) ≡ spread_of (map (λ row. row.start) rows)
starts_are rows = ap spread_by (fold-map (λ row. row.start) None rows) ∙ fold-none (map (λ row. row.start) rows)

pub lengths_are : (bounds : SyncBounds) (rows : List NodeRow) → spread_by (fold (with_length bounds) None rows) ≡ spread_of (map (cycle_length_by bounds) rows)
lengths_are bounds rows = ap spread_by (fold-map (cycle_length_by bounds) None rows) ∙ fold-none (map (cycle_length_by bounds) rows)

-- ---- the instants of running nodes

fold-running_by : (grid : Grid) (cycle macrotick : ℕ) (extent : Option Extent) (row : NodeRow) (rows : List NodeRow) →
    ((start : Option Extent) → fold (with_instant grid cycle macrotick) start rows ≡ fold with_number start (map (λ node. instant_of grid node (is_odd cycle) (pos macrotick)) (running rows))) →
    (halted : Bool) → is_halted row.state ≡ halted →
    fold (with_instant grid cycle macrotick) extent (row ∷ rows) ≡ fold with_number extent (map (λ node. instant_of grid node (is_odd cycle) (pos macrotick)) (running (row ∷ rows)))
fold-running_by grid cycle macrotick extent row rows rest true is = rw is (rest extent)
fold-running_by grid cycle macrotick extent row rows rest false is = rw is (rest (with_number extent (instant_of grid row (is_odd cycle) (pos macrotick))))

fold-running : (grid : Grid) (cycle macrotick : ℕ) (extent : Option Extent) (rows : List NodeRow) →
    fold (with_instant grid cycle macrotick) extent rows ≡ fold with_number extent (map (λ node. instant_of grid node (is_odd cycle) (pos macrotick)) (running rows))
fold-running grid cycle macrotick extent [] = refl
fold-running grid cycle macrotick extent (row ∷ rows) =
    fold-running_by grid cycle macrotick extent row rows (λ start. fold-running grid cycle macrotick start rows) (is_halted row.state) refl

pub instants_are : (grid : Grid) (cycle macrotick : ℕ) (rows : List NodeRow) → spread_by (fold (with_instant grid cycle macrotick) None rows) ≡ spread_at grid cycle rows macrotick
unfolding spread_at
instants_are grid cycle macrotick rows =
    ap spread_by (fold-running grid cycle macrotick None rows)
    ∙ fold-none (map (λ node. instant_of grid node (is_odd cycle) (pos macrotick)) (running rows))

-- ---- the extent with one more number

pub widened_bounds : (extent : Extent) (x : ℤ) → IsExtent extent → IsInstant x → IsExtent (record { low = int_min extent.low x; high = int_max extent.high x })
widened_bounds extent x is at =
    let low_from : neg_ℤ (pos 1_111_000_000_000_000_000) ≤ℤ extent.low = is.low_from in
    let low_to : extent.low ≤ℤ extent.high = is.low_to in
    let high_to : extent.high ≤ℤ pos 1_111_000_000_000_000_000 = is.high_to in
    let from : neg_ℤ (pos 1_111_000_000_000_000_000) ≤ℤ x = at.low in
    let to : x ≤ℤ pos 1_111_000_000_000_000_000 = at.high in
    record { low_from = grind (arith, ints); low_to = grind (arith, ints); high_to = grind (arith, ints) }
