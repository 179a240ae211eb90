use Rattle.fr_report.proofs.RunDecided.{one_text}
use Rattle.fr_series.specs.SeriesAnswer.{IsSeriesText}
use Rattle.fr_series.proofs.SeriesDecided.{same_series}
use Rattle.fr_series.proofs.laws.files_decide_the_series.Goals as goal

pub returns : goal.returns
returns c = one_text IsSeriesText (same_series c.files_decide_one_run.ensures.only) c.one_answer.ensures c.one_answer-2.ensures c.one_answer-3.ensures
