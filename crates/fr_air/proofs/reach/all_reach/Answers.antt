use Rattle.std.proofs.Common.{◌≤◌, List, All, length, subst, arith}
use Rattle.std.proofs.lemmas.List.{take_all}
use Rattle.std.proofs.lemmas.List.Elements.{All-more}
use Rattle.fr_base.specs.declared.node_row.NodeRow.{NodeRow}
use Rattle.fr_air.specs.Reaching.{ReachesAll}
use Rattle.fr_air.proofs.reach.all_reach.Goals as goal

pub loop-row-preserved : goal.loop-row-preserved
loop-row-preserved c =
    let Has : NodeRow → Type 0 = ReachesAll c.args.files.now c.args.cycle c.args.rows.now in
    All-more Has c.args.rows.now c.loop-row.row-index c.row-item.result c.loop-row-test.true c.loop-row.invariant
    (subst Has c.row-item.is (c.reaches_all.ensures c.if-not-reaches_all.false))

pub returns : goal.returns
returns c held =
    let rows = c.args.rows.now in
    let done : length rows ≤ c.loop-row.row-index = omega arith in
    let Has : List NodeRow → Type 0 = All (ReachesAll c.args.files.now c.args.cycle rows) in
    subst Has (take_all c.loop-row.row-index rows done) c.loop-row.invariant
