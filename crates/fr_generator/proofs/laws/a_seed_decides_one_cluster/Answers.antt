use Rattle.fr_generator.proofs.Seeds.{drift_is_accepted, one_cluster, script_is_accepted}
use Rattle.fr_generator.proofs.laws.a_seed_decides_one_cluster.Goals as goal

pub returns-clause-drift : goal.returns-clause-drift
returns-clause-drift c = drift_is_accepted

pub returns-clause-script : goal.returns-clause-script
returns-clause-script c = script_is_accepted

pub returns-clause-one : goal.returns-clause-one
returns-clause-one c = one_cluster
