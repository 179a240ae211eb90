-- What the sharper bounds say of a recorded trace: for which kind of cluster it counts, from when on it is in sharp sync, and how far
-- its clocks lie apart since then.
use Rattle.std.specs.Prelude.{ℕ, Bool, true, false, not, ◌&&◌, List, [], ◌∷◌, Option, Some, None, is_none, option_and_then, if◌then◌else◌}
use Rattle.fr_cluster.specs.Values.{Values}
use Rattle.fr_coverage.specs.First.{first_below}
use Rattle.fr_history.specs.History.{History, Record, record_at}
use Rattle.fr_promise.specs.SharpTested.{is_in_sharp_sync}
use Rattle.fr_series.specs.Basis.{sharp_scale_of}
use Rattle.fr_series.specs.Figures.{above_since, greatest_since}
use Rattle.fr_series.specs.declared.tally.SharpFigures.{SharpFigures}
use Rattle.fr_time.specs.Cycles.{even_cycle, odd_cycle}
use Rattle.fr_time.specs.Position.{grid_for}
use Rattle.fr_trace.specs.Trace.{TraceView}
use Rattle.fr_verdict.specs.Alike.{first_unlike}
use Rattle.fr_verdict.specs.SharpTraces.{recorded_flutter}
use Rattle.fr_verdict.specs.Sync.{first_synced_of, is_early}
use Rattle.fr_whole.specs.declared.traced_figures.TracedFigures.{TracedFigures}
use Rattle.fr_whole.specs.declared.traced_figures.TracedKind.{TracedKind}
use Rattle.fr_whole.specs.declared.traced_figures.TracedKind.TheVariants.{Alone, Alike, Beside}

-- whether the numbers of a kind are those beside arbitrary sync nodes
abbrev pub is_kind_beside : TracedKind → Bool
is_kind_beside Alone = false
is_kind_beside Alike = false
is_kind_beside Beside = true

-- ---- sharp sync

-- whether two records, if they are there, are in sharp sync, with lengths in their range
abbrev pub are_sharp_by : Bool → Values → Option Record → Option Record → Bool
are_sharp_by beside p None odd = false
are_sharp_by beside p (Some even) None = false
are_sharp_by beside p (Some even) (Some odd) = is_in_sharp_sync beside p (recorded_flutter p) even.rows odd.rows

abbrev pub is_sharp_at : Bool → Values → History → ℕ → Bool
is_sharp_at beside p h double = are_sharp_by beside p (record_at h (even_cycle double)) (record_at h (odd_cycle double))

-- a double cycle, where it is so and is not before the first one in sync, from which on all pairs are heard
abbrev pub sharp_at : Bool → Values → TraceView → ℕ → Option ℕ
sharp_at beside p t double =
    if not (is_early (first_synced_of p t) double) && is_sharp_at beside p t.history double then Some double else None

-- the first such one
abbrev pub first_recorded_sharp : Bool → Values → TraceView → Option ℕ
first_recorded_sharp beside p t = first_below (sharp_at beside p t) t.doubles

-- ---- the kind

-- from the first double cycle in sharp sync as without arbitrary nodes on each that the trace names is alike, or not
abbrev pub kind_from : Values → TraceView → Option ℕ → TracedKind
kind_from p t None = Beside
kind_from p t (Some double) = if is_none (first_unlike p t double) then Alike else Beside

abbrev pub kind_among : List ℕ → Values → TraceView → TracedKind
kind_among [] p t = Alone
kind_among (node ∷ nodes) p t = kind_from p t (first_recorded_sharp false p t)

abbrev pub kind_of_trace : Values → TraceView → TracedKind
kind_of_trace p t = kind_among t.arbitrary p t

-- ---- the figures

-- by the numbers beside arbitrary nodes or without: the first double cycle in sharp sync, the greatest skew since then, and the first
-- one above the sharper precision
abbrev pub recorded_figures : Bool → Values → TraceView → SharpFigures
recorded_figures beside p t = record {
  synced = first_recorded_sharp beside p t;
  greatest = greatest_since (grid_for p) t.history (first_recorded_sharp beside p t);
  above = above_since (sharp_scale_of beside p (recorded_flutter p)) t.history (first_recorded_sharp beside p t);
}

-- beside arbitrary nodes, the first double cycle since then in which some is not alike
abbrev pub unlike_since : TracedKind → Values → TraceView → Option ℕ → Option ℕ
unlike_since Alone p t synced = None
unlike_since Alike p t synced = None
unlike_since Beside p t synced = option_and_then (first_unlike p t) synced

-- those of a kind, and of the kind of a trace
abbrev pub figures_of_kind : TracedKind → Values → TraceView → TracedFigures
figures_of_kind kind p t = record {
  kind = kind;
  unlike = unlike_since kind p t (first_recorded_sharp (is_kind_beside kind) p t);
  sharp = recorded_figures (is_kind_beside kind) p t;
}

abbrev pub traced_figures_of : Values → TraceView → TracedFigures
traced_figures_of p t = figures_of_kind (kind_of_trace p t) p t
