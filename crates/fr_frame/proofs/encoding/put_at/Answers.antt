use Rattle.std.proofs.Common.{rules}
use Rattle.std.proofs.lemmas.Slice.{overwrites}
use Rattle.fr_frame.proofs.encoding.put_at.Goals as goal

pub returns-clause-others : goal.returns-clause-others
returns-clause-others c = search (rules, overwrites)
