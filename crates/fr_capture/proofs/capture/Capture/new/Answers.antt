use Rattle.fr_capture.proofs.Beginning.{none_opened}
use Rattle.fr_capture.proofs.Filling.{none_stands}
use Rattle.fr_capture.proofs.capture.Capture.new.Goals as goal

pub invariant_of-result : goal.invariant_of-result
invariant_of-result c = none_opened c.args.channel c.new.result c.new.ensures

pub returns-clause-stands : goal.returns-clause-stands
returns-clause-stands c = none_stands c.args.channel c.new.result c.new.ensures
