use Rattle.fr_params.proofs.Accepted.{assembles-files}
use Rattle.fr_params.proofs.laws.an_accepted_file_is_assembled.Goals as goal

pub returns : goal.returns
returns c = assembles-files
