use Rattle.fr_report.proofs.RunDecided.{one_text}
use Rattle.fr_series.specs.SharpAnswer.{IsSharpSeriesText}
use Rattle.fr_series.proofs.SharpDecided.{same_sharp_series}
use Rattle.fr_series.proofs.sharp_laws.files_decide_the_sharp_series.Goals as goal

pub returns : goal.returns
returns c = one_text IsSharpSeriesText (same_sharp_series c.files_decide_one_run.ensures.only) c.one_answer.ensures c.one_answer-2.ensures c.one_answer-3.ensures
