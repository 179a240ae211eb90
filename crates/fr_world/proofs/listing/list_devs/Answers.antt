use Rattle.std.proofs.Common.{◌≡◌, ◌≤◌, ◌++◌, List, [], length, arith}
use Rattle.std.proofs.Math.Nat.{mul-le-mul_left}
use Rattle.fr_base.specs.declared.dev.Dev.{Dev}
use Rattle.fr_node.specs.View.{NodeView}
use Rattle.fr_world.proofs.Sweeps.{flat-more, later-node}
use Rattle.fr_air.specs.Listing.{listed_of}
use Rattle.fr_world.proofs.listing.list_devs.Goals as goal

pub list_node-requires-clause-later : goal.list_node-requires-clause-later
list_node-requires-clause-later c =
    let a = c.args in
    later-node a.params.now a.odd a.keys.now a.nodes.now c.loop-node.node-index c.node-item.result c.loop-node.devs.entries c.requires.nodes.ascending c.loop-node-test.true c.node-item.is c.loop-node.invariant.0

pub loop-node-preserved : goal.loop-node-preserved
loop-node-preserved c =
    let a = c.args in
    let i = c.loop-node in
    let f : NodeView → List Dev = listed_of a.params.now a.odd a.keys.now in
    let now : c.list_node.new.devs.entries ≡ i.devs.entries ++ f c.node-item.result = c.list_node.ensures.entries_are in (
      flat-more f a.nodes.now i.node-index c.node-item.result [] i.devs.entries c.list_node.new.devs.entries c.loop-node-test.true c.node-item.is i.invariant.0 now,
      omega (arith, i.invariant.1, c.list_node.ensures.room),
      omega (arith, i.invariant.2, c.list_node.ensures.kept),
    )

pub list_node-requires-clause-room : goal.list_node-requires-clause-room
list_node-requires-clause-room c =
    let k = length c.args.keys.now in
    let i = c.loop-node.node-index in
    let few : i ≤ 63 = omega arith in
    omega (arith, c.loop-node.invariant.1, mul-le-mul_left k few)
