use Rattle.std.proofs.Common.{◌<◌, ◌+◌, ◌∙◌, List, length, take, refl, subst, sym}
use Rattle.fr_base.specs.declared.node_row.NodeRow.{NodeRow}
use Rattle.fr_time.specs.Instant.{KeepsLimits}
use Rattle.fr_trace.specs.Cycles.{history_by}
use Rattle.fr_verdict.proofs.Parts.{take_one_of}
use Rattle.fr_check.proofs.Kept.{one_kept}
use Rattle.fr_check.proofs.Sounded.{above_all, item_of}
use Rattle.fr_check.proofs.corrections.Corrections.compute.Goals as goal

pub both_terms-requires-clause-row : goal.both_terms-requires-clause-row
both_terms-requires-clause-row c =
    let rows = c.args.cycle.now.rows.items in
    let keeps =
    subst (KeepsLimits c.args.params.now)
    (item_of rows c.deref-row-items.result.now c.loop-row.row-index c.row-item.result c.deref-row-items.ensures.value c.row-item.is)
    (c.requires.cycle.rows c.loop-row.row-index c.row-item.result (subst (λ (xs : List NodeRow). c.loop-row.row-index < length xs) c.deref-row-items.ensures.value c.loop-row-test.true)) in
    keeps.rate

pub loop-row-preserved : goal.loop-row-preserved
loop-row-preserved c =
    let rows = c.args.cycle.now.rows.items in
    let k = c.loop-row.row-index in
    let lt = subst (λ (xs : List NodeRow). k < length xs) c.deref-row-items.ensures.value c.loop-row-test.true in
    let at = sym (item_of rows c.deref-row-items.result.now k c.row-item.result c.deref-row-items.ensures.value c.row-item.is) in
    one_kept c.args.params.now (history_by c.args.behind.now) c.args.cycle.now.devs.items (take k rows) (take (k + 1) rows) c.row-item.result c.loop-row.self c.put.new.self
    (take_one_of rows c.deref-row-items.result.now k c.row-item.result c.deref-row-items.ensures.value c.loop-row-test.true c.row-item.is)
    (above_all rows (take k rows) k c.row-item.result c.requires.cycle.ascend refl lt at)
    (c.put.ensures.here ∙ c.both_terms.ensures) c.put.ensures.others c.loop-row.invariant
