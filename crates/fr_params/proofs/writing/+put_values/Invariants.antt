use Rattle.std.proofs.Common.{length}
use Rattle.fr_params.proofs.writing.+put_values.Given as goal

abbrev pub decreases-put_values : goal.decreases-put_values
decreases-put_values g l = length l.names.now
