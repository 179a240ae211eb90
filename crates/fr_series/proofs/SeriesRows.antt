-- The text of some cycles and of one more double cycle, and their figures.
use Rattle.std.proofs.Common.{◌≡◌, ◌∙◌, ℕ, ◌+◌, ◌*◌, ◌≤◌, ◌||◌, List, [], ◌++◌, refl, ap}
use Rattle.fr_base.specs.declared.node_row.NodeRow.{NodeRow}
use Rattle.fr_cluster.specs.Setting.{Setting}
use Rattle.fr_cluster.specs.Values.{Values}
use Rattle.fr_time.specs.Position.{grid_for}
use Rattle.fr_skew.specs.Sync.{are_in_sync, sync_bounds_of}
use Rattle.fr_skew.proofs.Closeness.{in_sync_is}
use Rattle.fr_history.specs.Next.{cycles_of, next_cycle}
use Rattle.fr_history.proofs.RunsExist.{length-cycles_of}
use Rattle.fr_series.specs.Figures.{figures_of}
use Rattle.fr_series.specs.Scale.{followed, scale_of}
use Rattle.fr_series.specs.SeriesText.{double_by, series_rows}
use Rattle.fr_series.proofs.Doubles.{GrowsBy, added_at, cycles-two, followed_at, rows_at, told-next, told-none, told-upto, told_upto}
use Rattle.fr_series.proofs.Following.{figures-next}

-- what a double cycle adds
abbrev pub series_double : Values → ℕ → List NodeRow → List NodeRow → List ℕ
series_double p cycle even odd = double_by (grid_for p) (are_in_sync (sync_bounds_of p) even odd) cycle even odd

series_grows : (p : Values) → GrowsBy (series_rows p) (series_double p)
unfolding series_rows
series_grows p = record { none = refl; two = λ h even odd. rw (in_sync_is p even.rows odd.rows) refl }

-- the text of so many cycles, and that of a double cycle
abbrev pub text_upto : Setting → ℕ → List ℕ
text_upto x cycles = told_upto (series_rows x.params) x cycles

abbrev pub text_at : Setting → ℕ → List ℕ
text_at x double = added_at (series_double x.params) x double

pub rows-none : (x : Setting) → text_upto x (2 * 0) ≡ []
rows-none x = told-none (series_rows x.params) (series_double x.params) (series_grows x.params) x

pub rows-next : (x : Setting) (double : ℕ) → text_upto x (2 * (double + 1)) ≡ text_upto x (2 * double) ++ text_at x double
rows-next x double = told-next (series_rows x.params) (series_double x.params) (series_grows x.params) x double

pub rows-upto : (x : Setting) (n all : ℕ) → n ≤ all → (rest : List ℕ) × (text_upto x (2 * all) ≡ text_upto x (2 * n) ++ rest)
rows-upto x n all le = told-upto (series_rows x.params) (series_double x.params) (series_grows x.params) x n all le

pub figures-at : (x : Setting) (double : ℕ) →
    figures_of x.params (cycles_of x (2 * (double + 1)))
    ≡ followed (scale_of x.params) double (rows_at x (2 * double)) (rows_at x (2 * double + 1)) (followed_at x (2 * double) || followed_at x (2 * double + 1)) (figures_of x.params (cycles_of x (2 * double)))
figures-at x double =
    ap (figures_of x.params) (cycles-two x double)
    ∙ figures-next x.params (cycles_of x (2 * double)) (next_cycle x (cycles_of x (2 * double))) (next_cycle x (cycles_of x (2 * double + 1))) double (length-cycles_of x (2 * double))
