-- What a series tells of a run at its end.
use Rattle.std.specs.Prelude.{ℕ, ◌/◌, nat_abs, nat_lt, Bool, List, [], ◌∷◌, length, Option, Some, None, unwrap_or, if◌then◌else◌}
use Rattle.std.specs.Option.{option_or}
use Rattle.fr_base.specs.declared.node_row.NodeRow.{NodeRow}
use Rattle.fr_bound.specs.Sync.{is_in_sync}
use Rattle.fr_cluster.specs.Values.{Values}
use Rattle.fr_time.specs.Cycles.{even_cycle}
use Rattle.fr_time.specs.declared.grid.Grid.{Grid}
use Rattle.fr_skew.specs.Sweep.{greatest_within}
use Rattle.fr_skew.specs.declared.peak.Peak.{Peak}
use Rattle.fr_history.specs.History.{History}
use Rattle.fr_history.specs.Cycles.{Cycles, told_of}
use Rattle.fr_history.specs.Unfollowed.{first_unfollowed_sync_of}
use Rattle.fr_series.specs.Scale.{first_above, scale_of}
use Rattle.fr_series.specs.declared.figures.Figures.{Figures}
use Rattle.fr_series.specs.declared.scale.Scale.{Scale}

-- a test of a double cycle, by the rows of its even and of its odd cycle
abbrev pub DoubleTest : Type 0
DoubleTest = List NodeRow → List NodeRow → Bool

-- the greatest skew of a history from a cycle on, and its first place; none where it has no such cycle
unfoldable pub greatest_from : Grid → ℕ → History → Option Peak
greatest_from grid from [] = None
greatest_from grid from (r ∷ h) =
    if nat_lt (length h) from then None
    else greatest_within grid (length h) r.rows (greatest_from grid from h) (nat_abs grid.macros)

-- the first place of a history from a cycle on at which the skew is above the precision
unfoldable pub above_from : Scale → ℕ → History → Option Peak
above_from scale from [] = None
above_from scale from (r ∷ h) =
    if nat_lt (length h) from then None
    else option_or (above_from scale from h) (first_above scale.grid (length h) r.rows scale.precision (nat_abs scale.grid.macros))

-- the same from a double cycle on, if there is one
abbrev pub greatest_since : Grid → History → Option ℕ → Option Peak
greatest_since grid h None = None
greatest_since grid h (Some double) = greatest_from grid (even_cycle double) h

abbrev pub above_since : Scale → History → Option ℕ → Option Peak
above_since scale h None = None
above_since scale h (Some double) = above_from scale (even_cycle double) h

-- the least double cycle from which on none passes a test to the end of the history; none where the last does
unfoldable pub lost_by : DoubleTest → History → Option ℕ
lost_by test [] = None
lost_by test (r ∷ []) = None
lost_by test (odd ∷ even ∷ h) = if test even.rows odd.rows then None else Some (unwrap_or (lost_by test h) (length h / 2))

-- by a scale and a test of double cycles, of which one is the first to count, if there is such a one: the greatest skew since
-- then; from when on none passes; and the first skew above the precision since then
abbrev pub figures_by : Scale → DoubleTest → Option ℕ → Cycles → Figures
figures_by scale test first h = record {
  synced = first;
  greatest = greatest_since scale.grid (told_of h) first;
  lost = lost_by test (told_of h);
  above = above_since scale (told_of h) first;
}

-- the first double cycle in sync in which no node follows; the greatest skew since then; from when on the clocks are out of
-- sync; and the first skew above the precision since that first double cycle
unfoldable pub figures_of : Values → Cycles → Figures
figures_of p h = figures_by (scale_of p) (is_in_sync p) (first_unfollowed_sync_of p h) h
