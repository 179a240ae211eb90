use Rattle.std.proofs.Common.{◌∙◌, sym}
use Rattle.fr_trace.specs.Cycles.{history_by, kept_of}
use Rattle.fr_verdict.proofs.Records.{no_record, record_of_cycle, row_of_none, row_of_record}
use Rattle.fr_verdict.proofs.covering.row_at.Goals as goal

pub returns-then-cycle-cycles-clause-value : goal.returns-then-cycle-cycles-clause-value
returns-then-cycle-cycles-clause-value c =
    c.timed_row.ensures.value
    ∙ sym (row_of_record (history_by c.args.cycles.now) c.args.cycle c.args.node (kept_of c.index-cycles-cycle.result)
    (record_of_cycle c.args.cycles.now c.args.cycle c.index-cycles-cycle.result c.if-cycle-cycles.true c.index-cycles-cycle.is))

pub returns-else-cycle-cycles-clause-value : goal.returns-else-cycle-cycles-clause-value
returns-else-cycle-cycles-clause-value c =
    sym (row_of_none (history_by c.args.cycles.now) c.args.cycle c.args.node (no_record c.args.cycles.now c.args.cycle c.if-cycle-cycles.false))
