use Rattle.std.proofs.Common.{arith}
use Rattle.fr_cold.proofs.Runs.{at-start, rest-start}
use Rattle.fr_cold.proofs.cold.Cold.new.Goals as goal

pub returns-clause-stands : goal.returns-clause-stands
returns-clause-stands c = λ v. record { within = omega arith; states = at-start c.args._params.now v c.new.result c.new.ensures }

pub returns-clause-rest : goal.returns-clause-rest
returns-clause-rest c = λ v. rest-start c.args._params.now v
