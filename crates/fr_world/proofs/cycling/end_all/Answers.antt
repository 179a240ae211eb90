use Rattle.std.proofs.Common.{◌≡◌, ◌<◌, ◌++◌, [], ◌∷◌, ◌∙◌, List, length, map, take, get_or, ap, ap₂, sym, subst, arith}
use Rattle.std.specs.Prelude.{All}
use Rattle.std.proofs.lemmas.List.{map_more}
use Rattle.std.proofs.lemmas.List.Elements.{All-push, All-set}
use Rattle.fr_base.specs.declared.node_row.NodeRow.{NodeRow}
use Rattle.fr_time.proofs.Placing.{placeable_lem}
use Rattle.fr_node.specs.Cycle.{ended, ended_row_of_node}
use Rattle.fr_node.specs.Fits.{NodeFits}
use Rattle.fr_air.proofs.Loops.{swept-more, swept-next}
use Rattle.fr_world.proofs.Sweeps.{rows-below}
use Rattle.fr_time.specs.Placed.{IsPlacedRow}
use Rattle.fr_time.specs.Position.{grid_for}
use Rattle.fr_world.proofs.cycling.end_all.Goals as goal

pub push-requires-clause-above : goal.push-requires-clause-above
push-requires-clause-above c =
    let p = c.args.files.now.params in
    let nodes = c.args.nodes.now in
    let i = c.loop-node.node-index in
    let node = c.node-item.result in
    let lt : i < length nodes = omega arith in
    let at : node ≡ get_or nodes i node = swept-next (ended p) nodes c.loop-node.nodes i node lt c.loop-node.invariant.0 c.node-item.is in
    let row : c.end-row.result ≡ ended_row_of_node p node = c.end-row.ensures.row ∙ ap (ended_row_of_node p) (sym c.node-item.is) in
    let P : NodeRow → List NodeRow → Type 0 = λ new rows. All (λ earlier. earlier.node < new.node) rows in
    subst (P c.end-row.result) (sym c.loop-node.invariant.2)
    (let Q : NodeRow → Type 0 = λ new. P new (map (ended_row_of_node p) (take i nodes)) in subst Q (sym row) (rows-below p nodes i node c.requires.nodes.ascending lt at))

pub loop-node-preserved : goal.loop-node-preserved
loop-node-preserved c =
    let p = c.args.files.now.params in
    let nodes = c.args.nodes.now in
    let i = c.loop-node.node-index in
    let node = c.node-item.result in
    let lt : i < length nodes = omega arith in
    let at : node ≡ get_or nodes i node = swept-next (ended p) nodes c.loop-node.nodes i node lt c.loop-node.invariant.0 c.node-item.is in
    let stepped : c.end-row.new.self ≡ ended p node = c.end-row.ensures.after ∙ ap (ended p) (sym c.node-item.is) in
    let row : c.end-row.result ≡ ended_row_of_node p (get_or nodes i node) = c.end-row.ensures.row ∙ ap (ended_row_of_node p) (sym c.node-item.is ∙ at) in
    let row_is = c.end-row.ensures.ended.proper in
    let placed : IsPlacedRow (grid_for p) c.end-row.result = record {
      placeable = placeable_lem p c.end-row.result.rate c.end-row.result.offset c.sane.ensures row_is.rate.low row_is.rate.high row_is.offset.low row_is.offset.high;
      timed = row_is.timed;
    } in (
      swept-more (ended p) nodes c.loop-node.nodes i node c.end-row.new.self lt c.loop-node.invariant.0 c.node-item.is stepped,
      All-set (NodeFits p) c.loop-node.nodes i c.end-row.new.self c.end-row.ensures.fits c.loop-node.invariant.1,
      c.push.ensures ∙ ap₂ (λ rows new. rows ++ new ∷ []) c.loop-node.invariant.2 row ∙ sym (map_more (ended_row_of_node p) nodes i node lt),
      subst (All (IsPlacedRow (grid_for p))) (sym c.push.ensures) (All-push (IsPlacedRow (grid_for p)) c.loop-node.rows c.end-row.result c.loop-node.invariant.3 placed),
    )
