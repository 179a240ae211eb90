use Rattle.fr_seen.proofs.ObservedLaws.{numbers_are_found, seen_numbers_are_found, timely_frames_are_near}
use Rattle.fr_seen.proofs.observed.numbers_are_found.Goals as goal

pub returns-clause-count : goal.returns-clause-count
returns-clause-count c = numbers_are_found

pub returns-clause-near : goal.returns-clause-near
returns-clause-near c = timely_frames_are_near

pub returns-clause-seen : goal.returns-clause-seen
returns-clause-seen c = seen_numbers_are_found
