use Rattle.std.proofs.Common.{◌≤◌, List, All, length, take, slice_index_or, subst, ◌∙◌, arith}
use Rattle.std.proofs.lemmas.List.{take_all}
use Rattle.std.proofs.lemmas.List.Elements.{All-more}
use Rattle.fr_base.specs.declared.node_row.NodeRow.{NodeRow}
use Rattle.fr_air.specs.Lines.{LiesInSight}
use Rattle.fr_air.proofs.Lying.{wider}
use Rattle.fr_air.proofs.lines.spread_of.Goals as goal

pub loop-row-preserved : goal.loop-row-preserved
loop-row-preserved c =
    let p = c.args.params.now in
    let rows = c.args.rows.now in
    let Lies : NodeRow → Type 0 = LiesInSight p c.in-Some.wider in
    record {
      base = c.in-Some.ensures.wider.base ∙ c.loop-row.invariant.base;
      spread = c.in-Some.ensures.spread;
      rows = All-more Lies rows c.loop-row.row-index c.row-item.result c.loop-row-test.true
          (λ k d within. wider p c.loop-row.spread c.in-Some.wider (slice_index_or (take c.loop-row.row-index rows) k d) c.in-Some.ensures.wider (c.loop-row.invariant.rows k d within))
          (subst Lies c.row-item.is c.in-Some.ensures.row);
    }

pub returns-clause-rows : goal.returns-clause-rows
returns-clause-rows c =
    let rows = c.args.rows.now in
    let done : length rows ≤ c.loop-row.row-index = omega arith in
    let Have : List NodeRow → Type 0 = All (LiesInSight c.args.params.now c.loop-row.spread) in
    subst Have (take_all c.loop-row.row-index rows done) c.loop-row.invariant.rows
