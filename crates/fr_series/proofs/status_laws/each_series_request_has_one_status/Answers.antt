use Rattle.fr_series.proofs.SeriesStatus.{each_series}
use Rattle.fr_series.proofs.status_laws.each_series_request_has_one_status.Goals as goal

pub returns : goal.returns
returns c = each_series c.a_series_has_one_status.ensures.older c.a_series_has_one_status.ensures.sharp
