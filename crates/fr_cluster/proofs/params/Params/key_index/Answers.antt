use Rattle.fr_cluster.specs.View.{values_of_params}
use Rattle.fr_cluster.proofs.KeyIndexes.{key_index-lt}
use Rattle.fr_cluster.proofs.params.Params.key_index.Goals as goal

pub returns-clause-most : goal.returns-clause-most
returns-clause-most c = key_index-lt (values_of_params c.self.inside) c.args.slot c.key_index.result c.self.invariant c.key_index.ensures
