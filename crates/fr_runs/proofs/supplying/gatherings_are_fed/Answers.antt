use Rattle.fr_runs.proofs.Fed.{gatherings_are_fed, lawful_cycles_are_fed}
use Rattle.fr_runs.proofs.supplying.gatherings_are_fed.Goals as goal

pub returns-clause-double : goal.returns-clause-double
returns-clause-double c = gatherings_are_fed

pub returns-clause-cycles : goal.returns-clause-cycles
returns-clause-cycles c = lawful_cycles_are_fed
