-- That whatever the words of `flexray-series` ask for has one status.
use Rattle.std.specs.Prelude.{ℕ, List, length}
use Rattle.fr_text.specs.Defined.{DefinesOneStatus}
use Rattle.fr_series.specs.Request.{AsksSeries, SeriesAsked, series_command}

-- where words ask for something, the bytes of as many files as it names define one status
abbrev pub HasOneStatusEachSeries : Type 0
HasOneStatusEachSeries =
    (words : List (List ℕ)) (asked : SeriesAsked) → AsksSeries words asked
    → DefinesOneStatus (series_command asked).files (length (series_command asked).names)
