-- What the figures of a series rest on, and how they follow from those before a double cycle.
use Rattle.std.specs.Prelude.{ℕ, zero, suc, ◌+◌, ◌*◌, ℤ, pos, int_lt, nat_abs, Bool, not, ◌&&◌, List, Option, Some, None, unwrap_or, if◌then◌else◌}
use Rattle.std.specs.Option.{option_or}
use Rattle.fr_base.specs.declared.node_row.NodeRow.{NodeRow}
use Rattle.fr_bound.specs.Bounds.{precision_of}
use Rattle.fr_cluster.specs.Values.{Values}
use Rattle.fr_time.specs.Position.{grid_for, IsGrid}
use Rattle.fr_time.specs.declared.grid.Grid.{Grid}
use Rattle.fr_skew.specs.Spreads.{spread_at}
use Rattle.fr_skew.specs.Sweep.{greatest_within}
use Rattle.fr_skew.specs.Sync.{are_in_sync, sync_bounds_of, IsSyncBounds}
use Rattle.fr_skew.specs.declared.peak.Peak.{Peak}
use Rattle.fr_series.specs.declared.figures.Figures.{Figures}
use Rattle.fr_series.specs.declared.scale.Scale.{Scale}

-- the numbers of a cluster
abbrev pub scale_of : Values → Scale
scale_of p = record { grid = grid_for p; bounds = sync_bounds_of p; precision = pos (precision_of p) }

pub record IsScale (scale : Scale) : Type 0 where
  pub is_grid : IsGrid scale.grid
  pub is_bounds : IsSyncBounds scale.bounds

-- ---- the skew of one cycle

-- the greatest skew of a cycle and its first macrotick, by the rows of the correct nodes: 0 at macrotick 0 where none runs
abbrev pub peak_by : Grid → ℕ → List NodeRow → Option Peak
peak_by grid cycle rows = greatest_within grid cycle rows None (nat_abs grid.macros)

-- a skew where it is above a limit
abbrev pub above_at : ℤ → Peak → Option Peak
above_at limit peak = if int_lt limit peak.skew then Some peak else None

-- the first of so many macroticks of a cycle at which the skew is above a limit
unfoldable pub first_above : Grid → ℕ → List NodeRow → ℤ → ℕ → Option Peak
first_above grid cycle rows limit zero = None
first_above grid cycle rows limit (suc macrotick) =
    option_or (first_above grid cycle rows limit macrotick)
    (above_at limit (record { skew = spread_at grid cycle rows macrotick; cycle = cycle; macrotick = macrotick }))

-- ---- figures after one more double cycle

-- the first double cycle in sync in which no node follows, by whether this one is such a one
abbrev pub next_synced : ℕ → Bool → Option ℕ → Option ℕ
next_synced double free synced = option_or synced (if free then Some double else None)

-- the double cycle from which on none is in sync
abbrev pub next_lost : ℕ → Bool → Option ℕ → Option ℕ
next_lost double in_sync lost = if in_sync then None else Some (unwrap_or lost double)

-- the greatest skew since that first one, where there was one
abbrev pub next_greatest : Scale → ℕ → List NodeRow → List NodeRow → Option ℕ → Option Peak → Option Peak
next_greatest scale double even odd None greatest = None
next_greatest scale double even odd (Some first) greatest =
    greatest_within scale.grid (2 * double + 1) odd (greatest_within scale.grid (2 * double) even greatest (nat_abs scale.grid.macros)) (nat_abs scale.grid.macros)

-- the first place of a double cycle at which the skew is above the precision
abbrev pub above_in : Scale → ℕ → List NodeRow → List NodeRow → Option Peak
above_in scale double even odd =
    option_or (first_above scale.grid (2 * double) even scale.precision (nat_abs scale.grid.macros))
    (first_above scale.grid (2 * double + 1) odd scale.precision (nat_abs scale.grid.macros))

-- the first skew above the precision since then
abbrev pub next_above : Scale → ℕ → List NodeRow → List NodeRow → Option ℕ → Option Peak → Option Peak
next_above scale double even odd None above = None
next_above scale double even odd (Some first) above = option_or above (above_in scale double even odd)

-- all of them, by whether the double cycle is in sync and whether a node follows in it
abbrev pub next_figures : Scale → ℕ → List NodeRow → List NodeRow → Bool → Bool → Figures → Figures
next_figures scale double even odd in_sync following figures = record {
  synced = next_synced double (in_sync && not following) figures.synced;
  greatest = next_greatest scale double even odd (next_synced double (in_sync && not following) figures.synced) figures.greatest;
  lost = next_lost double in_sync figures.lost;
  above = next_above scale double even odd (next_synced double (in_sync && not following) figures.synced) figures.above;
}

abbrev pub followed : Scale → ℕ → List NodeRow → List NodeRow → Bool → Figures → Figures
followed scale double even odd following figures =
    next_figures scale double even odd (are_in_sync scale.bounds even odd) following figures
