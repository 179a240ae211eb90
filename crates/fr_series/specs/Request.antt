-- What the words of `flexray-series` ask for.
use Rattle.std.specs.Prelude.{◌≡◌, ℕ, List, [], ◌∷◌, codes, Option, Some, None}
use Rattle.fr_program.specs.Command.{Command}
use Rattle.fr_program.specs.Program.{Program}
use Rattle.fr_report.specs.Files.{run_command}
use Rattle.fr_report.specs.Names.{RunNames, run_names_of}
use Rattle.fr_series.specs.SeriesAnswer.{IsSeriesText}
use Rattle.fr_series.specs.SharpAnswer.{IsSharpSeriesText}
use Rattle.fr_series.specs.declared.request.Request.{Request}
use Rattle.fr_series.specs.declared.request.Request.TheVariants.{Series, SharpSeries}

-- the series of the run of these files, and its sharper series
pub data SeriesAsked : Type 0 where
  series : (names : RunNames) → SeriesAsked
  sharp_series : (names : RunNames) → SeriesAsked

-- the words ask for this: `PARAMS DRIFT SCRIPT`; `PARAMS DRIFT SCRIPT sharp`
abbrev pub AsksSeries : List (List ℕ) → SeriesAsked → Type 0
AsksSeries words (series names) = words ≡ names.params ∷ names.drift ∷ names.script ∷ []
AsksSeries words (sharp_series names) = words ≡ names.params ∷ names.drift ∷ names.script ∷ codes "sharp" ∷ []

-- what a request asks for
abbrev pub series_asked : Request → SeriesAsked
series_asked (Series files) = series (run_names_of files)
series_asked (SharpSeries files) = sharp_series (run_names_of files)

-- what words are read as: a request that asks for what they ask for, or none
abbrev pub IsSeriesRequest : List (List ℕ) → Option Request → Type 0
IsSeriesRequest words None = (asked : SeriesAsked) → AsksSeries words asked → ⊥
IsSeriesRequest words (Some request) = AsksSeries words (series_asked request)

-- the files of what was asked for, and what may be written of their run
abbrev pub series_command : SeriesAsked → Command
series_command (series names) = run_command IsSeriesText names
series_command (sharp_series names) = run_command IsSharpSeriesText names

-- the program
abbrev pub series_program : Program SeriesAsked
series_program = record { asks_for = AsksSeries; command_of = series_command; usage = codes "usage: flexray-series PARAMS DRIFT SCRIPT" }
