use Rattle.fr_precision.proofs.InstantLaws.{macroticks_lie_between, macroticks_lie_within, precision_holds_lem}
use Rattle.fr_precision.proofs.instants.precision_holds.Goals as goal

pub returns-clause-within : goal.returns-clause-within
returns-clause-within c = macroticks_lie_within

pub returns-clause-between : goal.returns-clause-between
returns-clause-between c = macroticks_lie_between

pub returns-clause-precision : goal.returns-clause-precision
returns-clause-precision c = precision_holds_lem
