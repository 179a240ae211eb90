use Rattle.fr_series.specs.SharpText.{sharp_series_text}
use Rattle.fr_whole.proofs.SharpReports.{sharp_report_of}
use Rattle.fr_whole.proofs.sharp_report_laws.a_sharp_report_is_lawful.Goals as goal

pub returns : goal.returns
returns c = λ p d s sane drift script proper.
    sharp_report_of c.files_decide_one_run.ensures.only p d s (sharp_series_text p d s) (c.a_run_is_lawful.ensures.text p d s sane drift script proper) (λ from. c.each_kind_is_found.ensures p d s from sane)
    (c.a_sharp_series_is_lawful.ensures p d s sane (λ joins. (drift, script)) proper)
