use Rattle.std.proofs.Common.{refl}
use Rattle.fr_series.specs.Request.{series_program}
use Rattle.flexray_c.proofs.Calls.{same_call}
use Rattle.flexray_c.proofs.requests.flexray_series.Goals as goal

pub returns : goal.returns
returns c = same_call series_program _ _ _ _ _ _ refl c.new.ensures c.answer_series.ensures
