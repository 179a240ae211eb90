use Rattle.fr_nm.proofs.Found.{has-none, has-vector, vector-is}
use Rattle.fr_nm.proofs.vector_laws.a_record_that_counts_has_its_vector.Goals as goal

pub returns-clause-counts : goal.returns-clause-counts
returns-clause-counts c = vector-is

pub returns-clause-has : goal.returns-clause-has
returns-clause-has c = has-vector

pub returns-clause-none : goal.returns-clause-none
returns-clause-none c = has-none
