use Rattle.fr_promise.proofs.TestedLemmas.{sharp_sync_from, to_sharp_sync}
use Rattle.fr_promise.proofs.tested.sharp_sync_is_tested.Goals as goal

pub returns : goal.returns
returns c = λ beside p flutter even odd. (sharp_sync_from beside p flutter even odd, to_sharp_sync beside p flutter even odd)
