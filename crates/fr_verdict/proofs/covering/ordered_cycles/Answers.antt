use Rattle.std.proofs.Common.{sym, subst}
use Rattle.std.specs.Prelude.{All}
use Rattle.fr_history.specs.History.{History}
use Rattle.fr_trace.specs.Lasting.{IsTracedRecord}
use Rattle.fr_verdict.proofs.Records.{ordered_each}
use Rattle.fr_verdict.proofs.covering.ordered_cycles.Goals as goal

pub returns-clause-ordered : goal.returns-clause-ordered
returns-clause-ordered c = ordered_each c.cycles.result.now (subst (λ (h : History). All IsTracedRecord h) (sym c.cycles.ensures.history) c.cycles.ensures.sane.records)
