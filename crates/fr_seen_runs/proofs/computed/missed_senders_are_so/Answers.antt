use Rattle.fr_seen_runs.proofs.ComputedFaults.{missed_is_so}
use Rattle.fr_seen_runs.proofs.computed.missed_senders_are_so.Goals as goal

pub returns : goal.returns
returns c = missed_is_so c.terms_are_computed.ensures.offset c.terms_are_computed.ensures.rate
