use Rattle.std.proofs.Common.{◌≤◌, List, All, length, subst, arith}
use Rattle.std.proofs.lemmas.List.{take_all}
use Rattle.std.proofs.lemmas.List.Elements.{All-more}
use Rattle.fr_base.specs.declared.node_row.NodeRow.{NodeRow}
use Rattle.fr_air.specs.Reaching.{Reaches}
use Rattle.fr_air.proofs.reach.reaches_each.Goals as goal

pub loop-row-preserved : goal.loop-row-preserved
loop-row-preserved c =
    let Has : NodeRow → Type 0 = Reaches c.args.files.now c.args.cycle c.args.sender.now c.args.channel in
    All-more Has c.args.rows.now c.loop-row.row-index c.row-item.result c.loop-row-test.true c.loop-row.invariant
    (subst Has c.row-item.is (c.reaches.ensures c.if-not-reaches.false))

pub returns : goal.returns
returns c held can =
    let rows = c.args.rows.now in
    let done : length rows ≤ c.loop-row.row-index = omega arith in
    let Has : List NodeRow → Type 0 = All (Reaches c.args.files.now c.args.cycle c.args.sender.now c.args.channel) in
    subst Has (take_all c.loop-row.row-index rows done) c.loop-row.invariant
