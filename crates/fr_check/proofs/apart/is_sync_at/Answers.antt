use Rattle.std.proofs.Common.{◌<◌, ◌∙◌, ap, ap₂, sym, length, arith}
use Rattle.fr_history.specs.History.{record_at}
use Rattle.fr_history.specs.Sync.{is_sync_by}
use Rattle.fr_time.specs.Cycles.{even_cycle, odd_cycle}
use Rattle.fr_trace.specs.Cycles.{history_by}
use Rattle.fr_verdict.proofs.Records.{no_record, record_of_cycle}
use Rattle.fr_check.proofs.Followed.{not_there}
use Rattle.fr_check.proofs.apart.is_sync_at.Goals as goal

pub returns-then-even-cycles : goal.returns-then-even-cycles
returns-then-even-cycles c =
    let cycles = c.args.cycles.now in
    let double = c.args.double in
    let lt = c.if-even-cycles.true in
    let early : even_cycle double < length cycles = omega arith in
    c.are_in_sync.ensures
    ∙ sym (ap₂ (is_sync_by c.args.params.now)
    (record_of_cycle cycles (even_cycle double) c.index-cycles-even.result early c.index-cycles-even.is)
    (record_of_cycle cycles (odd_cycle double) c.index-cycles-even-then-even-cycles.result lt c.index-cycles-even-then-even-cycles.is))

pub returns-else-even-cycles : goal.returns-else-even-cycles
returns-else-even-cycles c =
    let cycles = c.args.cycles.now in
    let double = c.args.double in
    sym (ap (is_sync_by c.args.params.now (record_at (history_by cycles) (even_cycle double))) (no_record cycles (odd_cycle double) c.if-even-cycles.false)
    ∙ not_there c.args.params.now (record_at (history_by cycles) (even_cycle double)))
