use Rattle.fr_runs.proofs.Listened.{caught_length_is_near, first_rate_is_within, first_lengths_are_near, followers_lengths_are_near}
use Rattle.fr_runs.proofs.listening.references_are_caught.Goals as goal

pub returns-clause-caught : goal.returns-clause-caught
returns-clause-caught c = caught_length_is_near

pub returns-clause-rate : goal.returns-clause-rate
returns-clause-rate c = first_rate_is_within

pub returns-clause-lengths : goal.returns-clause-lengths
returns-clause-lengths c = first_lengths_are_near

pub returns-clause-followers : goal.returns-clause-followers
returns-clause-followers c = followers_lengths_are_near
