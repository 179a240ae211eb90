use Rattle.fr_text.proofs.Plain.{decimal-plain, hexadecimal-plain, signed-plain}
use Rattle.fr_text.proofs.numbers.fields_are_plain.Goals as goal

pub returns-clause-natural : goal.returns-clause-natural
returns-clause-natural c = decimal-plain

pub returns-clause-signed : goal.returns-clause-signed
returns-clause-signed c = signed-plain

pub returns-clause-hexadecimal : goal.returns-clause-hexadecimal
returns-clause-hexadecimal c = hexadecimal-plain
