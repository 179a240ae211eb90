use Rattle.std.proofs.Common.{◌≡◌, ◌<◌, ◌≤◌, ◌∙◌, List, length, get_or, ap, sym, subst, arith}
use Rattle.std.specs.Prelude.{All, filter_map}
use Rattle.std.proofs.lemmas.List.{take_all}
use Rattle.std.proofs.lemmas.Option.{get_or_from_slice_get}
use Rattle.fr_cluster.specs.declared.nodes.NodeSpec.{NodeSpec}
use Rattle.fr_node.specs.Listening.{ListenerView}
use Rattle.fr_world.proofs.Beginners.{all-listen, given-few, given-more, listeners-given}
use Rattle.fr_air.specs.Listening.{IsListener}
use Rattle.fr_world.specs.Succeeding.{listener_now}
use Rattle.fr_world.proofs.beginning.begin_listening.Goals as goal

pub push_listener-requires : goal.push_listener-requires
push_listener-requires c =
    let a = c.args in
    let specs = a.files.now.params.nodes in
    let i = c.loop-place.place in
    let lt : i < length specs = omega arith in
    let few : length c.loop-place.listeners.items ≤ i = given-few (listener_now a.files.now a.double) specs i c.loop-place.listeners.items (omega arith) c.loop-place.invariant.0 in
    record { room = omega (arith, few, lt, c.sane.ensures.lists.few_nodes, c.loop-place.invariant.1, c.requires.room) }

pub loop-place-preserved : goal.loop-place-preserved
loop-place-preserved c =
    let a = c.args in
    let specs = a.files.now.params.nodes in
    let i = c.loop-place.place in
    let spec = c.node_at.result.now in
    let lt : i < length specs = omega arith in
    let at : spec ≡ get_or specs i spec = sym (get_or_from_slice_get specs i spec spec c.node_at.ensures) in
    (given-more (listener_now a.files.now a.double) specs i spec c.loop-place.listeners.items c.push_listener.new.listeners.items lt at c.loop-place.invariant.0 c.push_listener.ensures.pushed, c.push_listener.ensures.capacity ∙ c.loop-place.invariant.1)

pub returns-clause-begun : goal.returns-clause-begun
returns-clause-begun c =
    let a = c.args in
    let specs = a.files.now.params.nodes in
    let done : length specs ≤ c.loop-place.place = omega arith in
    c.loop-place.invariant.0
    ∙ ap (λ (some : List NodeSpec). filter_map (listener_now a.files.now a.double) some) (take_all c.loop-place.place specs done)
    ∙ sym (listeners-given a.files.now a.double c.requires.proper)

pub returns-clause-listeners : goal.returns-clause-listeners
returns-clause-listeners c =
    let a = c.args in
    let specs = a.files.now.params.nodes in
    let done : length specs ≤ c.loop-place.place = omega arith in
    let P : List ListenerView → Type 0 = All (IsListener a.files.now) in
    subst P (sym (c.loop-place.invariant.0 ∙ ap (λ (some : List NodeSpec). filter_map (listener_now a.files.now a.double) some) (take_all c.loop-place.place specs done)))
    (all-listen a.files.now a.double specs c.requires.proper)
