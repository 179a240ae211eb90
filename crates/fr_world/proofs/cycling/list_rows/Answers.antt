use Rattle.std.proofs.Common.{◌≡◌, ◌<◌, ◌++◌, [], ◌∷◌, ◌∙◌, List, length, map, take, get_or, ap, ap₂, sym, subst, arith}
use Rattle.std.specs.Prelude.{All}
use Rattle.std.proofs.lemmas.List.{map_more}
use Rattle.std.proofs.lemmas.List.Elements.{All-map, All-push}
use Rattle.fr_base.specs.declared.node_row.NodeRow.{NodeRow}
use Rattle.fr_base.specs.Within.{IsWithin}
use Rattle.fr_node.specs.View.{NodeView, node_row_of}
use Rattle.fr_air.specs.Cycling.{IsReady}
use Rattle.fr_air.specs.Sending.{IsEarlyRow}
use Rattle.fr_world.proofs.Sweeps.{All-at, below}
use Rattle.fr_world.proofs.cycling.list_rows.Goals as goal

pub push-requires-clause-above : goal.push-requires-clause-above
push-requires-clause-above c =
    let nodes = c.args.nodes.now in
    let i = c.loop-node.node-index in
    let node = c.node-item.result in
    let lt : i < length nodes = omega arith in
    let P : NodeRow → List NodeRow → Type 0 = λ new rows. All (λ earlier. earlier.node < new.node) rows in
    subst (P c.row.result) (sym c.loop-node.invariant.0)
    (let Q : NodeRow → Type 0 = λ new. P new (map node_row_of (take i nodes)) in
    subst Q (sym c.row.ensures.value)
    (All-map (λ row. row.node < (node_row_of node).node) node_row_of (take i nodes) (below (λ (a : NodeView) (b : NodeView). a.id < b.id) nodes i node c.requires.nodes.ascending lt c.node-item.is)))

pub loop-node-preserved : goal.loop-node-preserved
loop-node-preserved c =
    let nodes = c.args.nodes.now in
    let i = c.loop-node.node-index in
    let node = c.node-item.result in
    let lt : i < length nodes = omega arith in
    let row : c.row.result ≡ node_row_of (get_or nodes i node) = c.row.ensures.value ∙ ap node_row_of c.node-item.is in
    let ready : IsReady c.args.files.now c.args.cycle node = All-at (IsReady c.args.files.now c.args.cycle) nodes i node lt c.node-item.is c.requires.ready in
    let rate = subst (λ (r : NodeRow). IsWithin c.args.files.now.params.rate_limit r.rate) (sym c.row.ensures.value) ready.fits.rate in
    let offset = ap (λ (r : NodeRow). r.offset) c.row.ensures.value in
    let early : IsEarlyRow c.args.files.now.params c.row.result = record { timed = c.row.ensures.timed; rate = rate; offset = offset } in (
      c.push.ensures ∙ ap₂ (λ rows new. rows ++ new ∷ []) c.loop-node.invariant.0 row ∙ sym (map_more node_row_of nodes i node lt),
      subst (All (IsEarlyRow c.args.files.now.params)) (sym c.push.ensures) (All-push (IsEarlyRow c.args.files.now.params) c.loop-node.rows c.row.result c.loop-node.invariant.1 early),
    )
