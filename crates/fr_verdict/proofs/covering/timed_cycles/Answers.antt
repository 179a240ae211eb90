use Rattle.std.proofs.Common.{◌≡◌, ap, sym, subst, arith, length}
use Rattle.fr_trace.specs.Cycles.{history_by}
use Rattle.std.specs.Prelude.{All}
use Rattle.fr_history.specs.History.{History}
use Rattle.fr_trace.specs.Lasting.{IsTracedRecord}
use Rattle.fr_verdict.proofs.Parts.{history_length}
use Rattle.fr_verdict.proofs.Records.{timed_each}
use Rattle.fr_verdict.proofs.covering.timed_cycles.Goals as goal

pub returns-clause-timed : goal.returns-clause-timed
returns-clause-timed c = timed_each c.cycles.result.now (subst (λ (h : History). All IsTracedRecord h) (sym c.cycles.ensures.history) c.cycles.ensures.sane.records)

pub returns-clause-few : goal.returns-clause-few
returns-clause-few c =
    let long = history_length c.cycles.result.now in
    let same : length (history_by c.cycles.result.now) ≡ length c.args.trace.now.history = ap (λ (h : History). length h) c.cycles.ensures.history in
    let whole = c.cycles.ensures.sane.whole in
    let few = c.cycles.ensures.sane.doubles_to in
    omega arith
