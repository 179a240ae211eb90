use Rattle.std.proofs.Math.Seq.{drop-cons}
use Rattle.std.proofs.Common.{◌≡◌, ◌∙◌, ℕ, suc, ◌+◌, ◌<◌, ◌≤◌, List, ◌∷◌, ◌++◌, Ok, Some, get_or, slice_get, drop, length, ap, sym, subst, arith}
use Rattle.std.specs.List.{flat_map}
use Rattle.std.proofs.lemmas.List.{drop_all}
use Rattle.std.proofs.lemmas.Option.{get_or_from_slice_get}
use Rattle.fr_base.specs.Device.{Puts}
use Rattle.fr_base.proofs.Putting.{cut, puts_none, then}
use Rattle.fr_cluster.specs.declared.nodes.NodeSpec.{NodeSpec}
use Rattle.fr_findings.specs.Census.{census_rows, census_text}
use Rattle.fr_findings.proofs.census.put_census.Goals as goal

-- one node, and those behind it
more : (f : NodeSpec → List ℕ) (nodes : List NodeSpec) (place : ℕ) (node : NodeSpec) → place < length nodes → slice_get nodes place ≡ Some node
    → f node ++ flat_map f (drop (place + 1) nodes) ≡ flat_map f (drop place nodes)
more f nodes place node lt is =
    let at : get_or nodes place node ≡ node = get_or_from_slice_get nodes place node node is in
    let one : place + 1 ≡ suc place = omega arith in
    let cut_is : drop place nodes ≡ node ∷ drop (place + 1) nodes = drop-cons nodes place node lt ∙ (λ i. at i ∷ drop (sym one i) nodes) in
    ap (flat_map f) (sym cut_is)

pub loop-place-preserved : goal.loop-place-preserved
loop-place-preserved g c = λ result after put.
    let f : NodeSpec → List ℕ = census_rows c.args.log.now c.args.seen.now in
    let nodes = c.args.params.now.nodes in
    let place = c.loop-place.place in
    let node = c.node_at.result.now in
    let text : f node ++ flat_map f (drop (place + 1) nodes) ≡ flat_map f (drop place nodes) = more f nodes place node (omega arith) c.node_at.ensures in
    c.loop-place.invariant result after
    (subst (Puts result (g.O.Sink.state c.loop-place.out) after) text
    (then {text = f node} {rest = flat_map f (drop (place + 1) nodes)} result c.in_ok-put_sender.ensures put))

pub returns-in_err-put_sender : goal.returns-in_err-put_sender
unfolding census_text
returns-in_err-put_sender g c =
    let f : NodeSpec → List ℕ = census_rows c.args.log.now c.args.seen.now in
    let nodes = c.args.params.now.nodes in
    let place = c.loop-place.place in
    let node = c.node_at.result.now in
    let text : f node ++ flat_map f (drop (place + 1) nodes) ≡ flat_map f (drop place nodes) = more f nodes place node (omega arith) c.node_at.ensures in
    c.loop-place.invariant _ _
    (subst (Puts c.from_residual.result (g.O.Sink.state c.loop-place.out) (g.O.Sink.state c.put_sender.new.out)) text
    (cut {text = f node} c.from_residual.result (flat_map f (drop (place + 1) nodes)) c.in_err-put_sender.ensures c.from_residual.ensures.0))

pub returns : goal.returns
unfolding census_text
returns g c =
    let f : NodeSpec → List ℕ = census_rows c.args.log.now c.args.seen.now in
    let nodes = c.args.params.now.nodes in
    let a = g.O.Sink.state c.loop-place.out in
    let done : length nodes ≤ c.loop-place.place = omega (arith, c.node_count-place-end.ensures.value) in
    c.loop-place.invariant _ _ (subst (λ (l : List NodeSpec). Puts (Ok tt) a a (flat_map f l)) (sym (drop_all c.loop-place.place nodes done)) (puts_none a))
