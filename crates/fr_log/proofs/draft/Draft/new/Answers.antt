use Rattle.std.proofs.Common.{refl}
use Rattle.fr_log.proofs.Tables.{draft-nil}
use Rattle.fr_log.proofs.draft.Draft.new.Goals as goal

pub returns-clause-none : goal.returns-clause-none
returns-clause-none c = draft-nil _ refl refl refl refl refl refl c.new.ensures.items
