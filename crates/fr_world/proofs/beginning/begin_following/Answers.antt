use Rattle.std.proofs.Common.{◌<◌, ◌≤◌, ◌∙◌, ◌+◌, List, Option, length, drop, ap, arith}
use Rattle.std.specs.Prelude.{filter_map}
use Rattle.fr_node.specs.Listening.{ListenerView}
use Rattle.fr_node.specs.View.{NodeView}
use Rattle.fr_air.specs.Placing.{put_all}
use Rattle.fr_world.proofs.Beginners.{begun-all, begun-fits, begun-next}
use Rattle.fr_world.specs.Succeeding.{first_now}
use Rattle.fr_world.proofs.beginning.begin_following.Goals as goal

pub begin_one-requires-clause-few : goal.begin_one-requires-clause-few
begin_one-requires-clause-few c =
    let a = c.args in
    let first : ListenerView → Option NodeView = first_now a.files.now a.cycle in
    let i = c.loop-listener.listener-index in
    let lt : i < length a.listeners.now = omega arith in
    begun-fits first a.listeners.now i c.listener-item.result c.loop-listener.followers.items (put_all (λ n. n.id) (filter_map first a.listeners.now) a.followers.now.items) lt c.listener-item.is c.loop-listener.invariant.0 c.requires.few

pub loop-listener-preserved : goal.loop-listener-preserved
loop-listener-preserved c =
    let a = c.args in
    let first : ListenerView → Option NodeView = first_now a.files.now a.cycle in
    let i = c.loop-listener.listener-index in
    let lt : i < length a.listeners.now = omega arith in
    let target : List NodeView = put_all (λ n. n.id) (filter_map first a.listeners.now) a.followers.now.items in (
      ap (put_all (λ n. n.id) (filter_map first (drop (i + 1) a.listeners.now))) c.begin_one.ensures.begun
          ∙ begun-next first a.listeners.now i c.listener-item.result c.loop-listener.followers.items target lt c.listener-item.is c.loop-listener.invariant.0,
      c.begin_one.ensures.fit,
      c.begin_one.ensures.room,
    )

pub returns-clause-begun : goal.returns-clause-begun
returns-clause-begun c =
    let a = c.args in
    let first : ListenerView → Option NodeView = first_now a.files.now a.cycle in
    let done : length a.listeners.now ≤ c.loop-listener.listener-index = omega arith in
    begun-all first a.listeners.now c.loop-listener.listener-index c.loop-listener.followers.items (put_all (λ n. n.id) (filter_map first a.listeners.now) a.followers.now.items) done c.loop-listener.invariant.0
