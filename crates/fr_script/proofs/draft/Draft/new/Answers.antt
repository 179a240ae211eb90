use Rattle.std.proofs.Common.{refl}
use Rattle.fr_script.proofs.Tables.{draft-nil}
use Rattle.fr_script.proofs.draft.Draft.new.Goals as goal

pub returns-clause-none : goal.returns-clause-none
returns-clause-none c = draft-nil _ refl refl refl c.new.ensures c.new-2.ensures refl
