use Rattle.fr_promise.proofs.HeardNumbers.{clean_again, later_spreads_are_less, meeting_stays, spreads_are_below_lost, spreads_go}
use Rattle.fr_promise.proofs.among.heard_numbers.Goals as goal

pub returns-clause-goes : goal.returns-clause-goes
returns-clause-goes c = spreads_go

pub returns-clause-later : goal.returns-clause-later
returns-clause-later c = later_spreads_are_less

pub returns-clause-again : goal.returns-clause-again
returns-clause-again c = clean_again

pub returns-clause-meeting : goal.returns-clause-meeting
returns-clause-meeting c = meeting_stays

pub returns-clause-below : goal.returns-clause-below
returns-clause-below c = spreads_are_below_lost
