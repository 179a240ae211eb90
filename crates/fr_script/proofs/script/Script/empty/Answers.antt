use Rattle.std.proofs.Common.{refl}
use Rattle.fr_script.proofs.Adding.{none-fits, none-sane, none-stands}
use Rattle.fr_script.proofs.script.Script.empty.Goals as goal

pub of-requires : goal.of-requires
of-requires c = none-sane _ refl refl c.new.ensures c.new-2.ensures

pub returns-clause-stands : goal.returns-clause-stands
returns-clause-stands c = rw c.of.ensures (none-stands _ refl refl c.new.ensures c.new-2.ensures)

pub returns-clause-fits : goal.returns-clause-fits
returns-clause-fits c = λ p. rw c.of.ensures (none-fits p _ (none-stands _ refl refl c.new.ensures c.new-2.ensures))
