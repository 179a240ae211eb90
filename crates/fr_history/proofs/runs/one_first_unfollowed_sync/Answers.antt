use Rattle.fr_history.proofs.UnfollowedSync.{first_unfollowed_sync_is, first_unfollowed_sync_is_one, never_unfollowed_sync}
use Rattle.fr_history.proofs.runs.one_first_unfollowed_sync.Goals as goal

pub returns-clause-found : goal.returns-clause-found
returns-clause-found c = first_unfollowed_sync_is

pub returns-clause-none : goal.returns-clause-none
returns-clause-none c = never_unfollowed_sync

pub returns-clause-one : goal.returns-clause-one
returns-clause-one c = first_unfollowed_sync_is_one
