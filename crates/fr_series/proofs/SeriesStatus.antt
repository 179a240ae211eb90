-- Whatever words of `flexray-series` ask for, the bytes of the files define one status.
use Rattle.fr_report.specs.Files.{run_files}
use Rattle.fr_text.specs.Defined.{DefinesOneStatus}
use Rattle.fr_series.specs.Request.{series, sharp_series}
use Rattle.fr_series.specs.SeriesAnswer.{IsSeriesText}
use Rattle.fr_series.specs.SharpAnswer.{IsSharpSeriesText}
use Rattle.fr_series.specs.Statuses.{HasOneStatusEachSeries}

pub each_series : DefinesOneStatus (run_files IsSeriesText) 3 → DefinesOneStatus (run_files IsSharpSeriesText) 3 → HasOneStatusEachSeries
each_series older sharp words (series names) asks = older
each_series older sharp words (sharp_series names) asks = sharp
