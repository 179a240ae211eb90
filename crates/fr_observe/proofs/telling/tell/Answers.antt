use Rattle.fr_observe.proofs.Told.{told_is, told_none}
use Rattle.std.proofs.Common.{sym}
use Rattle.fr_observe.proofs.telling.tell.Goals as goal

pub returns-in-None : goal.returns-in-None
returns-in-None g c = told_is (sym c.in-None.is) (told_none (g.O.Sink.state c.args.out.now) c.args.first.now)
