-- The series of the run that accepted files decide.
use Rattle.std.specs.Prelude.{◌≡◌, ℕ, ◌*◌, List, None, length}
use Rattle.fr_cluster.specs.Values.{Values}
use Rattle.fr_coverage.specs.Coverage.{first_gap}
use Rattle.fr_coverage.specs.Decided.{setting_of}
use Rattle.fr_drift.specs.Questions.{doubles_of}
use Rattle.fr_drift.specs.View.{DriftView}
use Rattle.fr_script.specs.View.{ScriptView}
use Rattle.fr_history.specs.Cycles.{Cycles}
use Rattle.fr_history.specs.Lawful.{IsLawful}
use Rattle.fr_history.specs.Unfollowed.{IsUnfollowedSyncAt}
use Rattle.fr_series.specs.Figures.{figures_of}
use Rattle.fr_series.specs.SeriesMeaning.{AreFiguresOf}
use Rattle.fr_series.specs.SeriesText.{above_text, series_of, synced_text, within_text}

-- what is told at the end of a run that kept its precision since it came into sync and no node followed: the last double
-- cycle is in sync, and the skew stayed within the precision
pub record TellsInSync (params : Values) (h : Cycles) : Type 0 where
  pub synced : synced_text (figures_of params h).lost ≡ synced_text None
  pub within : within_text (figures_of params h).synced (figures_of params h).above ≡ above_text None

-- a text is the series of the lawful cycles of that run: there is one such list of all its cycles and no other. Where the run
-- is covered and a double cycle of it is in sync in which no node follows, it says of the last one that it is in sync, and that
-- the skew stayed within the precision; and its figures mean what they are called
pub record IsSeriesText (params : Values) (drift : DriftView) (script : ScriptView) (text : List ℕ) : Type 0 where
  pub cycles : Cycles
  pub lawful : IsLawful (setting_of params drift script) cycles
  pub whole : length cycles ≡ 2 * doubles_of drift
  pub shown : text ≡ series_of params cycles
  pub stays :
      first_gap params drift script ≡ None → (double : ℕ) → IsUnfollowedSyncAt params cycles double → TellsInSync params cycles
  pub figures : AreFiguresOf params cycles (figures_of params cycles)
