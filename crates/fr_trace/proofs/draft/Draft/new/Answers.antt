use Rattle.std.proofs.Common.{refl}
use Rattle.fr_trace.proofs.Starting.{none-said}
use Rattle.fr_trace.proofs.draft.Draft.new.Goals as goal

pub returns : goal.returns
returns c = λ p. none-said p _ c.new.ensures.items c.new-2.ensures.items c.new-3.ensures.items c.new-4.ensures.items c.new-5.ensures.items refl refl refl
