use Rattle.fr_promise.proofs.FreeLemmas.{first_sharp_sync_by_is, first_sharp_sync_is_one, never_sharp_sync}
use Rattle.fr_promise.proofs.tested.one_first_sharp_sync.Goals as goal

pub returns-clause-found : goal.returns-clause-found
returns-clause-found c = first_sharp_sync_by_is

pub returns-clause-none : goal.returns-clause-none
returns-clause-none c = never_sharp_sync

pub returns-clause-one : goal.returns-clause-one
returns-clause-one c = first_sharp_sync_is_one
