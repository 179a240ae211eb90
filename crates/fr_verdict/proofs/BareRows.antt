-- Without counts and cuts the records of a history lie as far apart, and are in sync in the same double cycles.
use Rattle.std.proofs.Common.{◌≡◌, ℕ, ◌==◌, pos, Bool, true, false, not, ◌&&◌, List, [], ◌∷◌, length, map, Option, Some, None, refl, ap, ◌∙◌}
use Rattle.std.specs.Prelude.{if◌then◌else◌}
use Rattle.std.specs.Option.{option_map, option_map_or}
use Rattle.std.proofs.lemmas.List.Folds.{list_all-map}
use Rattle.fr_base.specs.States.{is_active, is_halted}
use Rattle.fr_base.specs.declared.node_row.NodeRow.{NodeRow}
use Rattle.fr_bound.specs.Bounds.{lambda_of, pi_of}
use Rattle.fr_bound.specs.Sync.{cycle_length_of, has_synced_rates, is_in_sync, is_proper_length, lie_within}
use Rattle.fr_cluster.specs.Values.{Values}
use Rattle.fr_time.specs.Cycles.{even_cycle, is_odd, odd_cycle}
use Rattle.fr_time.specs.Instant.{instant_of}
use Rattle.fr_time.specs.Position.{grid_for}
use Rattle.fr_time.specs.declared.grid.Grid.{Grid}
use Rattle.fr_skew.specs.Spreads.{running, spread_at, spread_of}
use Rattle.fr_history.proofs.Lists.{map-map}
use Rattle.fr_history.specs.History.{History, Record, record_at}
use Rattle.fr_history.specs.Skew.{skew_at}
use Rattle.fr_history.specs.Sync.{is_sync_at, is_sync_by}
use Rattle.fr_trace.specs.Bare.{bare_history, bare_record, bare_row}
use Rattle.fr_verdict.proofs.Tracing.{long}

pub bare-at : (h : History) (n : ℕ) → record_at (bare_history h) n ≡ option_map bare_record (record_at h n)
unfolding record_at
bare-at [] n = refl
bare-at (r ∷ h) n = ap (λ (k : ℕ). if k == n then Some (bare_record r) else record_at (bare_history h) n) (long h) ∙ by (length h == n) (bare-at h n)
  where
    by : (b : Bool) → record_at (bare_history h) n ≡ option_map bare_record (record_at h n)
        → (if b then Some (bare_record r) else record_at (bare_history h) n) ≡ option_map bare_record (if b then Some r else record_at h n)
    by true e = refl
    by false e = e

-- ---- in sync

rates-bare : (p : Values) (rows : List NodeRow) → has_synced_rates p (map bare_row rows) ≡ has_synced_rates p rows
rates-bare p rows =
    λ i. list_all-map (λ (row : NodeRow). is_active row.state) bare_row rows i
    && lie_within (pos (lambda_of p)) (map-map (cycle_length_of p) bare_row rows i)
    && list_all-map (λ (row : NodeRow). is_proper_length p (cycle_length_of p row)) bare_row rows i

rows-bare : (p : Values) (even odd : List NodeRow) → is_in_sync p (map bare_row even) (map bare_row odd) ≡ is_in_sync p even odd
unfolding is_in_sync
rows-bare p even odd =
    λ i. rates-bare p even i && rates-bare p odd i && lie_within (pos (pi_of p)) (map-map (λ (row : NodeRow). row.start) bare_row even i)

pub sync-bare : (p : Values) (h : History) (double : ℕ) → is_sync_at p (bare_history h) double ≡ is_sync_at p h double
sync-bare p h double =
    (λ i. is_sync_by p (bare-at h (even_cycle double) i) (bare-at h (odd_cycle double) i))
    ∙ by (record_at h (even_cycle double)) (record_at h (odd_cycle double))
  where
    by : (even odd : Option Record) → is_sync_by p (option_map bare_record even) (option_map bare_record odd) ≡ is_sync_by p even odd
    by None odd = refl
    by (Some even) None = refl
    by (Some even) (Some odd) = rows-bare p even.rows odd.rows

-- ---- skew

running-bare : (rows : List NodeRow) → running (map bare_row rows) ≡ map bare_row (running rows)
running-bare [] = refl
running-bare (row ∷ rows) = by (not (is_halted row.state)) (running-bare rows)
  where
    by : (b : Bool) → running (map bare_row rows) ≡ map bare_row (running rows)
        → (if b then bare_row row ∷ running (map bare_row rows) else running (map bare_row rows)) ≡ map bare_row (if b then row ∷ running rows else running rows)
    by true e = ap (λ (l : List NodeRow). bare_row row ∷ l) e
    by false e = e

spread-bare : (grid : Grid) (cycle : ℕ) (rows : List NodeRow) (macrotick : ℕ) → spread_at grid cycle (map bare_row rows) macrotick ≡ spread_at grid cycle rows macrotick
unfolding spread_at
spread-bare grid cycle rows macrotick =
    ap (λ (l : List NodeRow). spread_of (map (λ row. instant_of grid row (is_odd cycle) (pos macrotick)) l)) (running-bare rows)
    ∙ ap spread_of (map-map (λ (row : NodeRow). instant_of grid row (is_odd cycle) (pos macrotick)) bare_row (running rows))

pub skew-bare : (p : Values) (h : History) (cycle macrotick : ℕ) → skew_at p (bare_history h) cycle macrotick ≡ skew_at p h cycle macrotick
skew-bare p h cycle macrotick =
    ap (λ (o : Option Record). option_map_or (λ r. spread_at (grid_for p) cycle r.rows macrotick) o (pos 0)) (bare-at h cycle)
    ∙ by (record_at h cycle)
  where
    by : (o : Option Record)
        → option_map_or (λ (r : Record). spread_at (grid_for p) cycle r.rows macrotick) (option_map bare_record o) (pos 0) ≡ option_map_or (λ (r : Record). spread_at (grid_for p) cycle r.rows macrotick) o (pos 0)
    by None = refl
    by (Some r) = spread-bare (grid_for p) cycle r.rows macrotick
