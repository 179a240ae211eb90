use Rattle.std.proofs.Common.{refl}
use Rattle.fr_params.proofs.Tables.{tables-nil}
use Rattle.fr_params.proofs.draft.Tables.new.Goals as goal

pub returns : goal.returns
returns c = λ version. tables-nil version _ refl refl refl
