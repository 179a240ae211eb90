-- The double cycles of a world, as they are written.
use Rattle.std.specs.Prelude.{◌≡◌, ℕ, ◌+◌, ◌*◌, ◌<◌, Bool, not, ◌||◌, List, Option, unwrap_or}
use Rattle.fr_base.specs.declared.node_row.NodeRow.{NodeRow}
use Rattle.fr_drift.specs.Questions.{doubles_of}
use Rattle.fr_history.specs.Next.{cycles_of, next_cycle}
use Rattle.fr_history.specs.Unfollowed.{is_none}
use Rattle.fr_skew.specs.Sync.{are_in_sync, are_in_sync_by_even}
use Rattle.fr_world.specs.World.{WorldView, setting_after}
use Rattle.fr_series.specs.SeriesText.{double_by}
use Rattle.fr_series.specs.Basis.{first_sharp_of, tally_of, IsCourse}
use Rattle.fr_series.specs.Scale.{scale_of, IsScale}
use Rattle.fr_series.specs.SharpLosses.{from_of, IsHeldSince}
use Rattle.fr_series.specs.SharpText.{sharp_double_by, sharp_double_text}
use Rattle.fr_series.specs.declared.known.Known.{Known}
use Rattle.fr_series.specs.declared.tally.Tally.{Tally}
use Rattle.fr_sharp.specs.LossSteps.{LossDouble}
use Rattle.fr_series.specs.declared.kept.Kept.{Kept}
use Rattle.fr_series.specs.declared.scale.Scale.{Scale}

-- the first double cycle in sharp sync of so many of a world's run in which no node follows
abbrev pub first_sharp_at : WorldView → ℕ → Option ℕ
first_sharp_at w double = first_sharp_of w.params w.drift w.script (cycles_of (setting_after w) (2 * double))

-- a world has run all cycles before a double cycle, and that one is still to be run; its number is small
pub record IsAtDouble (w : WorldView) (double : ℕ) : Type 0 where
  pub at : w.cycles ≡ 2 * double
  pub more : double < doubles_of w.drift
  pub few : double < 100_000

-- the rows of a cycle of a world's run
abbrev pub rows_of : WorldView → ℕ → List NodeRow
rows_of w cycle = (next_cycle (setting_after w) (cycles_of (setting_after w) cycle)).told.rows

-- whether a node follows in it, and whether one does in a double cycle
abbrev pub is_followed : WorldView → ℕ → Bool
is_followed w cycle = not (is_none (next_cycle (setting_after w) (cycles_of (setting_after w) cycle)).followers)

abbrev pub is_double_followed : WorldView → ℕ → Bool
is_double_followed w cycle = is_followed w cycle || is_followed w (cycle + 1)

-- the text of a double cycle, by the rows of its two cycles
abbrev pub text_of_double : Scale → ℕ → List NodeRow → List NodeRow → List ℕ
text_of_double scale double even odd = double_by scale.grid (are_in_sync scale.bounds even odd) (2 * double) even odd

-- what is known of a run behind so many of its double cycles: the numbers of a series, those by which the next double cycle is in sharp
-- sync, what it rests on from the first one in sharp sync on, and its figures
pub record IsKnown (w : WorldView) (double : ℕ) (known : Known) (spread : LossDouble) (tally : Tally) : Type 0 where
  pub older : known.older ≡ scale_of w.params
  pub proper : IsScale known.older
  pub sharp : IsScale known.course.scale
  pub course : IsCourse w.params w.drift w.script (unwrap_or (first_sharp_at w double) double) known.course
  pub begun : from_of known.basis ≡ first_sharp_at w double
  pub held : IsHeldSince w.params w.drift w.script double known.basis spread
  pub figures : tally ≡ tally_of w.params w.drift w.script (cycles_of (setting_after w) (2 * double))

-- that of a sharper series
abbrev pub sharp_text_of_double : Scale → Scale → Kept → ℕ → List NodeRow → List NodeRow → List ℕ
sharp_text_of_double older sharp kept double even odd =
    sharp_double_by older.grid (are_in_sync older.bounds even odd) (are_in_sync_by_even sharp.bounds even odd) kept (2 * double) even odd

-- of a double cycle of a world's run
abbrev pub sharp_double_at : WorldView → ℕ → List ℕ
sharp_double_at w double =
    sharp_double_text w.params w.drift w.script (first_sharp_at w double) (first_sharp_at w (double + 1)) double (rows_of w (2 * double))
    (rows_of w (2 * double + 1))
