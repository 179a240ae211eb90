use Rattle.std.proofs.Common.{◌≡◌, ℕ, ◌+◌, ◌<◌, ◌≤◌, List, drop, get_or, length, refl, sym, arith}
use Rattle.std.specs.List.{flat_map}
use Rattle.std.proofs.lemmas.Option.{get_or_from_slice_get}
use Rattle.fr_cluster.specs.declared.nodes.NodeSpec.{NodeSpec}
use Rattle.fr_observe.specs.Faults.{node_missing}
use Rattle.fr_observe.specs.declared.fault.Fault.{Fault}
use Rattle.fr_observe.proofs.Told.{told_end, told_next, told_stop}
use Rattle.fr_observe.proofs.missing.put_all_missing.Goals as goal

pub loop-place-preserved : goal.loop-place-preserved
loop-place-preserved g c = λ result after last rest.
    let s = c.args.scene.now in
    let f : NodeSpec → List Fault = node_missing s.log.now s.span s.before.now s.here.now s.number in
    let nodes = s.params.now.nodes in
    let place = c.loop-place.place in
    let node = c.node_at.result.now in
    let at : node ≡ get_or nodes place node = sym (get_or_from_slice_get nodes place node node c.node_at.ensures) in
    c.loop-place.invariant result after last
    (told_next f (flat_map f) (λ x xs. refl) result nodes place node (omega arith) at c.in_ok-put_node_missing.ensures rest)

pub returns-in_err-put_node_missing : goal.returns-in_err-put_node_missing
returns-in_err-put_node_missing g c =
    let s = c.args.scene.now in
    let f : NodeSpec → List Fault = node_missing s.log.now s.span s.before.now s.here.now s.number in
    let nodes = s.params.now.nodes in
    let place = c.loop-place.place in
    let node = c.node_at.result.now in
    let at : node ≡ get_or nodes place node = sym (get_or_from_slice_get nodes place node node c.node_at.ensures) in
    c.loop-place.invariant _ _ _
    (told_stop f (flat_map f) (λ x xs. refl) c.from_residual.result nodes place node (omega arith) at c.in_err-put_node_missing.ensures c.from_residual.ensures.0)

pub returns : goal.returns
returns g c =
    let s = c.args.scene.now in
    let f : NodeSpec → List Fault = node_missing s.log.now s.span s.before.now s.here.now s.number in
    c.loop-place.invariant _ _ _
    (
    told_end f (flat_map f) (λ x xs. refl) (g.O.Sink.state c.loop-place.out) c.loop-place.first s.params.now.nodes c.loop-place.place refl
    (omega arith)
    )
