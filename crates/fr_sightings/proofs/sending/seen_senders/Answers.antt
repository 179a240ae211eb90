use Rattle.std.proofs.Common.{◌≡◌, ◌∙◌, ◌+◌, ◌<◌, ◌≤◌, List, ◌++◌, All, Option, filter_map, take, length, option_to_list, ap, sym, subst, arith}
use Rattle.fr_cluster.specs.declared.nodes.NodeSpec.{NodeSpec}
use Rattle.fr_sightings.specs.Ranges.{IsProperSender}
use Rattle.fr_sightings.specs.Senders.{seen_sender}
use Rattle.fr_sightings.specs.declared.sender.Sender.{Sender}
use Rattle.fr_sightings.proofs.Gathering.{all-more, kept-few, mapped-more}
use Rattle.fr_sightings.proofs.sending.seen_senders.Goals as goal

pub loop-place-preserved : goal.loop-place-preserved
loop-place-preserved c =
    let scale = c.args.observed.now.scale.now in
    let nodes = c.args.observed.now.params.now.nodes in
    let h : NodeSpec → Option Sender = seen_sender scale c.args.observed.now.params.now c.args.observed.now.log.now c.args.here.now c.args.next.now c.args.double in
    let place = c.loop-place.place in
    let node = c.static_node-node.result.now in
    let lt : place < length nodes = omega arith in
    let so_far = c.loop-place.senders.items in
    let found : c.seen_sender.result ≡ h node = c.seen_sender.ensures.value in
    let now : c.keep.new.senders.items ≡ so_far ++ option_to_list c.seen_sender.result = c.keep.ensures in
    record {
      value =
          now
          ∙ ap (λ (o : Option Sender). so_far ++ option_to_list o) found
          ∙ ap (λ (l : List Sender). l ++ option_to_list (h node)) c.loop-place.invariant.value
          ∙ sym (mapped-more h nodes place node lt c.static_node-node.ensures.value);
      few = subst (λ (l : List Sender). length l ≤ place + 1) (sym now) (kept-few so_far c.seen_sender.result place c.loop-place.invariant.few);
      proper =
          subst (All (IsProperSender scale)) (sym now)
          (all-more (IsProperSender scale) so_far c.seen_sender.result c.loop-place.invariant.proper c.seen_sender.ensures.proper);
    }
