use Rattle.std.proofs.Common.{refl}
use Rattle.fr_whole.proofs.PowerOnTexts.{checks_are_asked}
use Rattle.fr_whole.proofs.power_on_laws.a_power_on_is_told.Goals as goal

pub returns : goal.returns
returns c = λ p flutter. record { shown = refl; checked = checks_are_asked p flutter; promise = c.power_on_comes_into_sync.ensures p flutter }
