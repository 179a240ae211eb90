use Rattle.std.proofs.Common.{refl}
use Rattle.fr_params.specs.declared.names.Version.TheVariants.{One}
use Rattle.fr_params.proofs.draft.Draft.new.Goals as goal

pub returns : goal.returns
returns c = record { version = refl; tables = c.new.ensures One }
