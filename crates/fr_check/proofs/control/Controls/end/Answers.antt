use Rattle.std.proofs.Common.{take, ◌+◌, [], refl, subst, sym}
use Rattle.fr_base.specs.declared.node_row.NodeRow.{NodeRow}
use Rattle.fr_verdict.proofs.Parts.{take_one_more}
use Rattle.fr_check.specs.Corrections.{IsCorrection}
use Rattle.fr_check.proofs.Controlling.{one_stepped, stood_still}
use Rattle.fr_check.proofs.Sounded.{above_all}
use Rattle.fr_check.proofs.control.Controls.end.Goals as goal

pub loop-row-init : goal.loop-row-init
loop-row-init c = λ p h odds kept hold node from to. stood_still p h odds [] c.args.self.now node (hold node from to) refl

pub loop-row-preserved : goal.loop-row-preserved
loop-row-preserved c = λ p h odds kept hold node from to.
    let rows = c.args.rows.now in
    let k = c.loop-row.row-index in
    one_stepped p h odds (take k rows) (take (k + 1) rows) c.row-item.result c.args.corrections.now c.loop-row.self c.end_of.new.self node
    (take_one_more rows k c.row-item.result c.loop-row-test.true c.row-item.is)
    (above_all rows (take k rows) k c.row-item.result c.requires refl c.loop-row-test.true c.row-item.is)
    (subst (λ (row : NodeRow). IsCorrection p h odds c.args.corrections.now row) (sym c.row-item.is) (kept k c.row-item.result c.loop-row-test.true))
    (c.loop-row.invariant p h odds kept hold node from to) c.end_of.ensures.here c.end_of.ensures.others
