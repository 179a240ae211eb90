use Rattle.fr_seen.proofs.TermLaws.{offsets_are_seen, rate_steps_are_seen}
use Rattle.fr_seen.proofs.terms.terms_are_seen.Goals as goal

pub returns-clause-offset : goal.returns-clause-offset
returns-clause-offset c = offsets_are_seen

pub returns-clause-rate : goal.returns-clause-rate
returns-clause-rate c = rate_steps_are_seen
