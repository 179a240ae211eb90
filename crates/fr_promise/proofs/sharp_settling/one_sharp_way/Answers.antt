use Rattle.fr_promise.proofs.OneWay.{one_sharp_way}
use Rattle.fr_promise.proofs.sharp_settling.one_sharp_way.Goals as goal

pub returns : goal.returns
returns c = one_sharp_way
