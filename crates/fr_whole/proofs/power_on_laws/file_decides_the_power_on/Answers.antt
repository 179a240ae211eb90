use Rattle.fr_whole.proofs.PowerOnTexts.{one_power_on}
use Rattle.fr_whole.proofs.power_on_laws.file_decides_the_power_on.Goals as goal

pub returns : goal.returns
returns c = one_power_on c.one_answer.ensures
