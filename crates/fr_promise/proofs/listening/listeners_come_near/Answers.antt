use Rattle.fr_promise.proofs.SharpListened.{counted_length_is_near, sharp_catches_suffice, sharp_first_length_is_near, sharp_first_rate_is_within, sharp_first_start_is_near}
use Rattle.fr_promise.proofs.listening.listeners_come_near.Goals as goal

pub returns-clause-counted : goal.returns-clause-counted
returns-clause-counted c = counted_length_is_near

pub returns-clause-rate : goal.returns-clause-rate
returns-clause-rate c = sharp_first_rate_is_within

pub returns-clause-length : goal.returns-clause-length
returns-clause-length c = sharp_first_length_is_near

pub returns-clause-start : goal.returns-clause-start
returns-clause-start c = sharp_first_start_is_near

pub returns-clause-suffice : goal.returns-clause-suffice
returns-clause-suffice c = sharp_catches_suffice
