-- What a sharper series rests on, and how its figures follow from those before a double cycle.
use Rattle.std.specs.Prelude.{◌≡◌, ℕ, ◌≤◌, nat_le, pos, Bool, true, not, ◌&&◌, List, Option, Some, None, is_none, unwrap_or, if◌then◌else◌}
use Rattle.fr_base.specs.declared.node_row.NodeRow.{NodeRow}
use Rattle.fr_cluster.specs.Values.{Values}
use Rattle.fr_coverage.specs.Coverage.{gap_from, some_join}
use Rattle.fr_coverage.specs.Flutter.{flutter_from, fluttering_from}
use Rattle.fr_drift.specs.View.{DriftView}
use Rattle.fr_script.specs.View.{ScriptView}
use Rattle.fr_time.specs.Position.{grid_for}
use Rattle.fr_skew.specs.Sync.{are_in_sync_by_even}
use Rattle.fr_history.specs.Cycles.{Cycles, told_of}
use Rattle.fr_promise.specs.HeldWalks.{lasts_by}
use Rattle.fr_promise.specs.JoinedHistories.{first_rates_last}
use Rattle.fr_sharp.specs.LossRuns.{is_through_losses, losses_of}
use Rattle.fr_bound.specs.SharpBounds.{sharp_near, sharp_precision}
use Rattle.fr_bound.specs.SharpChecks.{sharp_holds_of}
use Rattle.fr_sharp.specs.SharpStatement.{has_arbitrary}
use Rattle.fr_promise.specs.SharpTested.{first_sharp_sync_by, sharp_sync_bounds_of}
use Rattle.fr_series.specs.Figures.{above_since, figures_of, greatest_since}
use Rattle.fr_series.specs.Scale.{followed, next_above, next_greatest, next_synced, IsScale}
use Rattle.fr_sharp.specs.SharpCovered.{first_sharp_gap}
use Rattle.fr_series.specs.declared.basis.Basis.{Basis}
use Rattle.fr_series.specs.declared.course.Course.{Course}
use Rattle.fr_series.specs.declared.scale.Scale.{Scale}
use Rattle.fr_series.specs.declared.tally.SharpFigures.{SharpFigures}
use Rattle.fr_series.specs.declared.tally.Tally.{Tally}

-- the sharper numbers of a cluster, beside arbitrary sync nodes or without, for a flutter
abbrev pub sharp_scale_of : Bool → Values → ℕ → Scale
sharp_scale_of beside p flutter = record {
  grid = grid_for p;
  bounds = sharp_sync_bounds_of beside p flutter;
  precision = pos (sharp_precision beside p flutter);
}

-- those of a run, for its flutter from a double cycle on
abbrev pub scale_from : Values → DriftView → ScriptView → ℕ → Scale
scale_from p d s double = sharp_scale_of (has_arbitrary p s) p (flutter_from p d s double)

-- a double cycle is no later than another one, if there is that
abbrev pub stays_for : Option ℕ → ℕ → Bool
stays_for None double = true
stays_for (Some last) double = nat_le double last

-- the numbers of a run from a double cycle on, and up to which one they stay, where they do not to its end
pub record IsCourse (p : Values) (d : DriftView) (s : ScriptView) (from : ℕ) (course : Course) : Type 0 where
  pub scale : course.scale ≡ scale_from p d s from
  pub stays : (later : ℕ) → from ≤ later → stays_for course.until later ≡ true → flutter_from p d s later ≡ flutter_from p d s from

-- both kinds of numbers divide a cycle alike
pub record AreScales (older sharp : Scale) : Type 0 where
  pub grid : sharp.grid ≡ older.grid
  pub older_is : IsScale older
  pub sharp_is : IsScale sharp

-- its first double cycle in sharp sync in which no node follows, each by the numbers from it on, and the one from which on all is
-- asked: that one, or the first where there is none
abbrev pub first_sharp_of : Values → DriftView → ScriptView → Cycles → Option ℕ
first_sharp_of p d s h = first_sharp_sync_by (has_arbitrary p s) p (flutter_from p d s) h

abbrev pub asked_from : Values → DriftView → ScriptView → Cycles → ℕ
asked_from p d s h = unwrap_or (first_sharp_of p d s h) 0

-- for how many double cycles sharp sync lasts, on and on without a number, where the run is sharply covered; and else for how many the
-- rate limit holds the walk of lengths; for none where the second check fails
abbrev pub sync_held : Bool → Bool → Values → ℕ → Option ℕ
sync_held covered beside p flutter =
    if sharp_holds_of 2 flutter (sharp_near beside p flutter) p then lasts_by covered p flutter else Some 0

-- where a correct node joins, for as many as the rate limit holds the walk and suffices for first rates
abbrev pub sharp_held : Bool → Bool → Bool → Values → ℕ → Option ℕ
sharp_held joins covered beside p flutter = if joins then first_rates_last p flutter else sync_held covered beside p flutter

-- that of the run of some parameters, a drift and a script from a double cycle on, where its delays flutter by so many ticks
abbrev pub basis_by : Values → DriftView → ScriptView → ℕ → ℕ → Basis
basis_by p d s from flutter = record {
  from = from;
  fluttering = fluttering_from p d s from;
  flutter = flutter;
  beside = has_arbitrary p s;
  lasts = sharp_held (some_join p s) (is_none (first_sharp_gap p d s from flutter)) (has_arbitrary p s) p flutter;
  gap = first_sharp_gap p d s from flutter;
  lost = (losses_of p d s from flutter).doubles;
  last_lost = (losses_of p d s from flutter).last;
  through = is_through_losses p s flutter (gap_from p d s from) (losses_of p d s from flutter);
  peak = (losses_of p d s from flutter).peak;
  place = (losses_of p d s from flutter).place;
  precision = pos (sharp_precision (has_arbitrary p s) p flutter);
}

-- with its own
abbrev pub basis_of : Values → DriftView → ScriptView → ℕ → Basis
basis_of p d s from = basis_by p d s from (flutter_from p d s from)

-- ---- figures

-- those of sharp sync: its first double cycle in which no node follows; the greatest skew since then; and the first skew above the
-- sharper precision since then
abbrev pub sharp_figures_of : Values → DriftView → ScriptView → Cycles → SharpFigures
sharp_figures_of p d s h = record {
  synced = first_sharp_of p d s h;
  greatest = greatest_since (grid_for p) (told_of h) (first_sharp_of p d s h);
  above = above_since (scale_from p d s (asked_from p d s h)) (told_of h) (first_sharp_of p d s h);
}

-- both
abbrev pub tally_of : Values → DriftView → ScriptView → Cycles → Tally
tally_of p d s h = record { older = figures_of p h; sharp = sharp_figures_of p d s h }

-- after one more double cycle, by whether it is in sharp sync and whether a node follows in it
abbrev pub next_sharply : Scale → ℕ → List NodeRow → List NodeRow → Bool → Bool → SharpFigures → SharpFigures
next_sharply scale double even odd in_sync following figures = record {
  synced = next_synced double (in_sync && not following) figures.synced;
  greatest = next_greatest scale double even odd (next_synced double (in_sync && not following) figures.synced) figures.greatest;
  above = next_above scale double even odd (next_synced double (in_sync && not following) figures.synced) figures.above;
}

abbrev pub sharply_followed : Scale → ℕ → List NodeRow → List NodeRow → Bool → SharpFigures → SharpFigures
sharply_followed scale double even odd following figures =
    next_sharply scale double even odd (are_in_sync_by_even scale.bounds even odd) following figures

abbrev pub tallied : Scale → Scale → ℕ → List NodeRow → List NodeRow → Bool → Tally → Tally
tallied older sharp double even odd following tally = record {
  older = followed older double even odd following tally.older;
  sharp = sharply_followed sharp double even odd following tally.sharp;
}
