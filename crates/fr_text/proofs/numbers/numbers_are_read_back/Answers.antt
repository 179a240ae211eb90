use Rattle.fr_text.proofs.Written.{natural-decimal, number-decimal, within-signed}
use Rattle.fr_text.proofs.numbers.numbers_are_read_back.Goals as goal

pub returns-clause-number : goal.returns-clause-number
returns-clause-number c = number-decimal

pub returns-clause-natural : goal.returns-clause-natural
returns-clause-natural c = natural-decimal

pub returns-clause-signed : goal.returns-clause-signed
returns-clause-signed c = within-signed
