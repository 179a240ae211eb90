use Rattle.std.proofs.Common.{◌≤◌, List, All, FitsSigned, w32, of_z, to_z, length, subst, arith}
use Rattle.std.proofs.lemmas.Int.{to_z-of_z}
use Rattle.std.proofs.lemmas.List.{take_all}
use Rattle.std.proofs.lemmas.List.Elements.{All-more}
use Rattle.fr_base.specs.declared.node_row.NodeRow.{NodeRow}
use Rattle.fr_skew.specs.Alike.{HasRate}
use Rattle.fr_skew.proofs.alike.have_rate.Goals as goal

pub loop-row-preserved : goal.loop-row-preserved
loop-row-preserved c =
    let Has : NodeRow → Type 0 = HasRate (to_z w32 (of_z w32 c.args.rate)) in
    All-more Has c.args.rows.now c.loop-row.row-index c.row-item.result c.loop-row-test.true c.loop-row.invariant
    (subst Has c.row-item.is (c.has_rate.ensures c.if-not-has_rate.false))

pub returns : goal.returns
returns c held =
    let rows = c.args.rows.now in
    let rate : FitsSigned w32 c.args.rate = c.ranges.rate in
    let done : length rows ≤ c.loop-row.row-index = omega arith in
    let Has : List NodeRow → Type 0 = All (HasRate c.args.rate) in
    subst Has (take_all c.loop-row.row-index rows done) (simp to_z-of_z at c.loop-row.invariant)
