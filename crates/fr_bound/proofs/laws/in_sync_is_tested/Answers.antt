use Rattle.fr_bound.proofs.Sync.{in_sync_from, to_in_sync}
use Rattle.fr_bound.proofs.laws.in_sync_is_tested.Goals as goal

pub returns : goal.returns
returns c = λ p even odd. (in_sync_from p even odd, to_in_sync p even odd)
