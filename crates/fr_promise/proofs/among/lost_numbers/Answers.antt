use Rattle.fr_promise.proofs.AmongNumbers.{every_second_costs, heard_again, lost_spread_goes}
use Rattle.fr_promise.proofs.HeardNumbers.{lost_is_by}
use Rattle.fr_promise.proofs.among.lost_numbers.Goals as goal

pub returns-clause-case : goal.returns-clause-case
returns-clause-case c = lost_is_by

pub returns-clause-goes : goal.returns-clause-goes
returns-clause-goes c = lost_spread_goes

pub returns-clause-again : goal.returns-clause-again
returns-clause-again c = heard_again

pub returns-clause-second : goal.returns-clause-second
returns-clause-second c = every_second_costs
