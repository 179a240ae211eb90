use Rattle.std.proofs.Common.{◌≡◌, ◌<◌, ◌≤◌, length, get_or, nat_lt, true, ℕ, ap, sym, arith, ◌∙◌}
use Rattle.std.proofs.lemmas.List.{get_or_default}
use Rattle.fr_node.specs.View.{NodeView}
use Rattle.fr_world.proofs.Passed.{put-inserts}
use Rattle.fr_world.proofs.joining.place_of.Goals as goal

pub returns-then-id-clause-value : goal.returns-then-id-clause-value
returns-then-id-clause-value c node same =
    let nodes = c.args.nodes.now in
    let i = c.loop-place.place in
    let other : NodeView = c.index-nodes-place.result in
    let one : c.id.inside.0 ≡ c.args.id = c.id.view_is in
    let two : c.id-in-loop-place-2.inside.0 ≡ other.id = c.id-in-loop-place-2.view_is ∙ c.id-in-loop-place.ensures in
    let less : node.id < other.id = omega (arith, one, two, same, c.if-id.true) in
    let greater : nat_lt node.id other.id ≡ true = grind arith in
    let lt : i < length nodes = c.loop-place-test.true in
    let at : get_or nodes i node ≡ other = get_or_default nodes i node other lt ∙ sym c.index-nodes-place.is in
    put-inserts (λ (n : NodeView). n.id) node nodes i (omega (arith, lt))
    (λ k d lower. ap (λ (id : ℕ). nat_lt id (get_or nodes k d).id) same ∙ c.loop-place.invariant k d lower)
    (λ within. ap (λ (n : NodeView). nat_lt node.id n.id) at ∙ greater)

pub returns-clause-value : goal.returns-clause-value
returns-clause-value c node same =
    let nodes = c.args.nodes.now in
    let i = c.loop-place.place in
    let done : length nodes ≤ i = c.loop-place-test.false in
    put-inserts (λ (n : NodeView). n.id) node nodes (length nodes) (omega arith)
    (λ k d lt. ap (λ (id : ℕ). nat_lt id (get_or nodes k d).id) same ∙ c.loop-place.invariant k d (omega (arith, done, lt)))
    (λ lt. absurd (omega (arith, lt)))
