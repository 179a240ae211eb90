use Rattle.fr_series.specs.SeriesAnswer.{IsSeriesText}
use Rattle.fr_series.specs.SeriesText.{series_text}
use Rattle.fr_series.specs.SharpAnswer.{IsSharpSeriesText}
use Rattle.fr_series.specs.SharpText.{sharp_series_text}
use Rattle.fr_report.proofs.RunStatus.{run_status}
use Rattle.fr_series.proofs.status_laws.a_series_has_one_status.Goals as goal

pub returns-clause-older : goal.returns-clause-older
returns-clause-older c = run_status (record { params_one = c.one_answer.ensures; params_some = c.some_answer.ensures; drift_one = c.one_answer-2.ensures; drift_some = c.some_answer-2.ensures; script_one = c.one_answer-3.ensures; script_some = c.some_answer-3.ensures; sane = c.accepted_are_sane.ensures }) IsSeriesText series_text c.a_series_is_lawful.ensures

pub returns-clause-sharp : goal.returns-clause-sharp
returns-clause-sharp c = run_status (record { params_one = c.one_answer.ensures; params_some = c.some_answer.ensures; drift_one = c.one_answer-2.ensures; drift_some = c.some_answer-2.ensures; script_one = c.one_answer-3.ensures; script_some = c.some_answer-3.ensures; sane = c.accepted_are_sane.ensures }) IsSharpSeriesText sharp_series_text
    (λ p d s sane drift script proper. c.a_sharp_series_is_lawful.ensures p d s sane (λ joins. (drift, script)) proper)
