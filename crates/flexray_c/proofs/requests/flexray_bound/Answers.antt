use Rattle.std.proofs.Common.{refl}
use Rattle.fr_whole.specs.Whole.{flexray_program}
use Rattle.flexray_c.proofs.Calls.{same_call}
use Rattle.flexray_c.proofs.requests.flexray_bound.Goals as goal

pub returns : goal.returns
returns c = same_call flexray_program _ _ _ _ _ _ refl c.new.ensures c.answer_flexray.ensures
