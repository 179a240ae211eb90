-- The sharper series of the run that accepted files decide.
use Rattle.std.specs.Prelude.{◌≡◌, ◌↔◌, ℕ, ◌+◌, ◌*◌, ◌≤◌, true, false, List, Option, Some, None, IfSome, length}
use Rattle.fr_cluster.specs.Values.{Values}
use Rattle.fr_coverage.specs.Coverage.{some_join}
use Rattle.fr_coverage.specs.Decided.{setting_of}
use Rattle.fr_coverage.specs.Flutter.{flutter_from}
use Rattle.fr_drift.specs.Files.{DriftFits}
use Rattle.fr_drift.specs.Questions.{doubles_of}
use Rattle.fr_drift.specs.View.{DriftView}
use Rattle.fr_script.specs.Files.{ScriptFits}
use Rattle.fr_script.specs.View.{ScriptView}
use Rattle.fr_skew.specs.declared.peak.Peak.{Peak}
use Rattle.fr_history.specs.Cycles.{Cycles}
use Rattle.fr_history.specs.Lawful.{IsLawful}
use Rattle.fr_sharp.specs.JoinedFiles.{KeepsSharplyJoined}
use Rattle.fr_sharp.specs.SharpStatement.{has_arbitrary, KeepsSharply}
use Rattle.fr_promise.specs.SharpTested.{IsFirstSharpSyncBy}
use Rattle.fr_series.specs.Basis.{basis_of, sharp_figures_of}
use Rattle.fr_sharp.specs.SharpCovered.{first_sharp_gap, IsCoveredSharply}
use Rattle.fr_series.specs.SharpMeaning.{AreSharpFigures}
use Rattle.fr_series.specs.SharpText.{sharp_above_text, sharp_series_by, sharp_within_text}
use Rattle.fr_series.specs.declared.tally.SharpFigures.{SharpFigures}

-- what figures tell of the skew since a double cycle, where the clocks stay so for so many since then, on and on without a number,
-- in a run of so many: that none was above the sharper precision, where they do to the end; and in any case no place in those for
-- which they do
pub record TellsSharply (lasts : Option ℕ) (doubles first : ℕ) (figures : SharpFigures) : Type 0 where
  pub within :
      IfSome lasts (λ held. doubles ≤ first + held) → sharp_within_text figures.synced figures.above ≡ sharp_above_text None
  pub late : (peak : Peak) → figures.above ≡ Some peak → IfSome lasts (λ held. 2 * (first + held) ≤ peak.cycle)

-- where a correct node joins, the drift and the script fit the parameters
abbrev pub FitsToJoin : Values → DriftView → ScriptView → Type 0
FitsToJoin p d s = some_join p s ≡ true → DriftFits p d × ScriptFits p s

-- what a run keeps from its first double cycle in sharp sync on in which no node follows, where no correct node joins and where one
-- does, and what is told of it
pub record KeepsAndTells (p : Values) (d : DriftView) (s : ScriptView) (h : Cycles) (first : ℕ) : Type 0 where
  pub keeps : some_join p s ≡ false → KeepsSharply (has_arbitrary p s) (setting_of p d s) (flutter_from p d s first) h first
  pub joined : some_join p s ≡ true → KeepsSharplyJoined (has_arbitrary p s) (setting_of p d s) (flutter_from p d s first) h first
  pub tells : TellsSharply (basis_of p d s first).lasts (doubles_of d) first (sharp_figures_of p d s h)

-- a text is the sharper series of the lawful cycles of that run: there is one such list of all its cycles and no other. It says
-- that the run is sharply covered from its first double cycle in sharp sync on exactly where it is, and then the run keeps from there
-- on what the promise says, with its own flutter from there on; and its figures mean what they are called
pub record IsSharpSeriesText (params : Values) (drift : DriftView) (script : ScriptView) (text : List ℕ) : Type 0 where
  pub cycles : Cycles
  pub lawful : IsLawful (setting_of params drift script) cycles
  pub whole : length cycles ≡ 2 * doubles_of drift
  pub shown : text ≡ sharp_series_by params drift script cycles
  pub covered :
      (from : ℕ)
      → (first_sharp_gap params drift script from (flutter_from params drift script from) ≡ None)
      ↔ IsCoveredSharply params drift script from (flutter_from params drift script from)
  pub keeps :
      (first : ℕ) → IsFirstSharpSyncBy (has_arbitrary params script) params (flutter_from params drift script) cycles first
      → IsCoveredSharply params drift script first (flutter_from params drift script first)
      → KeepsAndTells params drift script cycles first
  pub figures : AreSharpFigures params drift script cycles
