use Rattle.std.proofs.Common.{sym, subst}
use Rattle.std.specs.Prelude.{All}
use Rattle.fr_history.specs.History.{History}
use Rattle.fr_trace.specs.Lasting.{IsTracedRecord}
use Rattle.fr_verdict.proofs.Records.{ordered_each, timed_each}
use Rattle.fr_check.proofs.alike.heard_cycles.Goals as goal

pub returns-clause-heard : goal.returns-clause-heard
returns-clause-heard c =
    let cycles = c.cycles.result.now in
    let each = subst (λ (h : History). All IsTracedRecord h) (sym c.cycles.ensures.history) c.cycles.ensures.sane.records in
    λ k d lt. record { timed = timed_each cycles each k d lt; ordered = ordered_each cycles each k d lt }
