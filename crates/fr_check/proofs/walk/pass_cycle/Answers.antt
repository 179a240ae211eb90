use Rattle.std.proofs.Common.{◌+◌, ◌<◌, List, length, take, drop, subst, arith}
use Rattle.fr_base.specs.declared.node_row.NodeRow.{NodeRow}
use Rattle.fr_trace.specs.Cycles.{history_by, kept_of}
use Rattle.fr_trace.specs.Items.{items_by}
use Rattle.fr_verdict.proofs.Parts.{take_one_of}
use Rattle.fr_check.specs.Corrections.{IsCorrection}
use Rattle.fr_check.proofs.Sounded.{item_of}
use Rattle.fr_check.proofs.Walking.{along_found, along_more, first_parts, no_item, rows_along}
use Rattle.fr_check.proofs.walk.pass_cycle.Goals as goal

pub loop-row-init : goal.loop-row-init
unfolding items_by
loop-row-init c = (no_item c.args.params.now c.args.trace.now c.args.number, omega arith, omega arith)

pub pass_row-requires-clause-kept : goal.pass_row-requires-clause-kept
pass_row-requires-clause-kept c = λ odd.
    let rows = c.args.cycle.now.rows.items in
    let p = c.args.params.now in
    subst (IsCorrection p (history_by c.args.behind.now) c.args.cycle.now.devs.items c.args.corrections.now)
    (item_of rows c.deref-row-items.result.now c.loop-row.row-index c.row-item.result c.deref-row-items.ensures.value c.row-item.is)
    (c.requires.here odd c.loop-row.row-index c.row-item.result (subst (λ (xs : List NodeRow). c.loop-row.row-index < length xs) c.deref-row-items.ensures.value c.loop-row-test.true))

pub returns-in-Err-clause-found : goal.returns-in-Err-clause-found
returns-in-Err-clause-found c =
    let h = history_by c.args.behind.now in
    let r = kept_of c.args.cycle.now in
    let rows = c.args.cycle.now.rows.items in
    along_found (items_by h r) (rows_along h r) c.args.params.now c.args.trace.now c.args.number c.loop-row.next
    (take c.loop-row.row-index rows) (take (c.loop-row.row-index + 1) rows) (drop (c.loop-row.row-index + 1) rows) rows c.row-item.result c.in-Err.breach
    (take_one_of rows c.deref-row-items.result.now c.loop-row.row-index c.row-item.result c.deref-row-items.ensures.value c.loop-row-test.true c.row-item.is) (first_parts rows (c.loop-row.row-index + 1))
    c.loop-row.invariant.0 c.loop-row.invariant.1 c.in-Err.ensures.found

pub loop-row-preserved : goal.loop-row-preserved
loop-row-preserved c =
    let h = history_by c.args.behind.now in
    let r = kept_of c.args.cycle.now in
    let rows = c.args.cycle.now.rows.items in
    let more =
    along_more (items_by h r) (rows_along h r) c.args.params.now c.args.trace.now c.args.number c.loop-row.next c.in-Ok.after
    (take c.loop-row.row-index rows) (take (c.loop-row.row-index + 1) rows) c.row-item.result
    (take_one_of rows c.deref-row-items.result.now c.loop-row.row-index c.row-item.result c.deref-row-items.ensures.value c.loop-row-test.true c.row-item.is)
    c.loop-row.invariant.0 c.loop-row.invariant.1 c.in-Ok.ensures.none c.in-Ok.ensures.next in
    let before = c.loop-row.invariant.2 in
    let step = c.in-Ok.ensures.most in
    (more.0, more.1, omega arith)
