use Rattle.std.proofs.Common.{◌≡◌, ◌+◌, ◌<◌, ◌≤◌, cond, count_by, is_some, length, take, arith}
use Rattle.fr_sightings.proofs.Counted.{counted-more}
use Rattle.fr_sightings.proofs.nodes.keyed_count.Goals as goal

pub loop-place-preserved : goal.loop-place-preserved
loop-place-preserved c =
    let nodes = c.args.params.now.nodes in
    let place = c.loop-place.place in
    let node = c.node_at.result.now in
    let more : count_by (λ n. is_some n.key) (take (place + 1) nodes) ≡ count_by (λ n. is_some n.key) (take place nodes) + cond (is_some node.key) 1 0 =
    counted-more (λ n. is_some n.key) nodes place node (omega arith) c.node_at.ensures in
    record {
      value = omega (arith, more, c.loop-place.invariant.value, c.keyed-count.ensures.value);
      few = omega (arith, c.loop-place.invariant.few, c.keyed-count.ensures.most);
    }
