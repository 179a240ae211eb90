use Rattle.fr_generator.proofs.MadeFiles.{made-files-accepted}
use Rattle.fr_generator.proofs.laws.made_files_are_accepted.Goals as goal

pub returns : goal.returns
returns c = made-files-accepted
