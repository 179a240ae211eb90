use Rattle.std.proofs.Common.{refl}
use Rattle.fr_cold.proofs.Tables.{draft-nil}
use Rattle.fr_cold.proofs.draft.Draft.new.Goals as goal

pub returns : goal.returns
returns c = draft-nil _ refl c.new.ensures.empty c.new-2.ensures.empty c.new.ensures.ordered c.new-2.ensures.ordered
