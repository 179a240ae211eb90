use Rattle.std.proofs.Common.{◌≡◌, ◌∙◌, None, get_or, sym, arith}
use Rattle.std.proofs.lemmas.List.Sums.{fold_more}
use Rattle.std.proofs.lemmas.Option.{get_or_from_slice_get}
use Rattle.fr_judging.specs.Obstacles.{or_unseen}
use Rattle.fr_judging.proofs.unseen.first_unseen.Goals as goal

pub loop-place-preserved : goal.loop-place-preserved
loop-place-preserved c =
    let nodes = c.args.params.now.nodes in
    let place = c.loop-place.place in
    let node = c.node_at.result.now in
    let step = or_unseen c.args.log.now c.args.here.now c.args.double in
    let at : get_or nodes place node ≡ node = get_or_from_slice_get nodes place node node c.node_at.ensures in
    c.or_unseen-first.ensures
    ∙ (λ i. step (c.loop-place.invariant i) (sym at i))
    ∙ sym (fold_more step None nodes place node (omega arith))
