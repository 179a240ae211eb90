-- What is gathered of the clocks of a cluster, cycle by cycle.
use Rattle.std.specs.Prelude.{ℕ, ◌+◌, ◌<◌, ◌≤◌, Bool, false, not, ◌&&◌, List, [], All, nat_abs, Option, Some, None, IsSome, if◌then◌else◌}
use Rattle.std.specs.Option.{option_or}
use Rattle.fr_base.specs.declared.node_row.NodeRow.{NodeRow}
use Rattle.fr_base.specs.Timed.{IsTimed}
use Rattle.fr_cluster.specs.Values.{Values}
use Rattle.fr_time.specs.Cycles.{double_cycle_of, is_odd}
use Rattle.fr_time.specs.Position.{grid_for, IsGrid}
use Rattle.fr_time.specs.declared.grid.Grid.{Grid}
use Rattle.fr_skew.specs.Sweep.{greatest_within}
use Rattle.fr_skew.specs.Sync.{are_in_sync, sync_bounds_of, IsSyncBounds}
use Rattle.fr_skew.specs.declared.peak.Peak.{Peak}
use Rattle.fr_skew.specs.declared.sync.SyncBounds.{SyncBounds}

-- What contracts see of a gauge: the grid and the bounds of its cluster, how many cycles were added, the greatest skew
-- and its first place, the first double cycle in sync in which no node follows, and of the last even cycle the rows and
-- whether a node followed in it.
pub record GaugeView : Type 0 where
  pub grid : Grid
  pub bounds : SyncBounds
  pub added : ℕ
  pub greatest : Option Peak
  pub synced : Option ℕ
  pub even : List NodeRow
  pub followed : Bool

-- the gauge of a cluster, of no cycle
abbrev pub fresh_gauge : Values → GaugeView
fresh_gauge p =
    record { grid = grid_for p; bounds = sync_bounds_of p; added = 0; greatest = None; synced = None; even = []; followed = false }

-- whether these rows of an even and an odd cycle are in sync, and no node follows in either cycle
abbrev pub are_free_in_sync : SyncBounds → List NodeRow → Bool → List NodeRow → Bool → Bool
are_free_in_sync bounds even followed odd following = are_in_sync bounds even odd && not followed && not following

-- the first double cycle in sync in which no node follows, after one more cycle
abbrev pub next_sync : SyncBounds → ℕ → List NodeRow → Bool → List NodeRow → Bool → Option ℕ → Option ℕ
next_sync bounds cycle even followed rows following synced =
    option_or synced
    (if is_odd cycle && are_free_in_sync bounds even followed rows following then Some (double_cycle_of cycle) else None)

-- a gauge and the rows of the next cycle, in which a node follows or none does
abbrev pub gauged : GaugeView → List NodeRow → Bool → GaugeView
gauged g rows following = record g {
  added = g.added + 1;
  greatest = greatest_within g.grid g.added rows g.greatest (nat_abs g.grid.macros);
  synced = next_sync g.bounds g.added g.even g.followed rows following g.synced;
  even = if is_odd g.added then g.even else rows;
  followed = if is_odd g.added then g.followed else following;
}

-- the numbers of a gauge
pub record IsGauge (g : GaugeView) : Type 0 where
  pub is_grid : IsGrid g.grid
  pub is_bounds : IsSyncBounds g.bounds
  pub few : g.added ≤ 200_000
  pub begun : 0 < g.added → IsSome g.greatest
  pub even_timed : All IsTimed g.even
