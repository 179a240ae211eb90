use Rattle.std.proofs.Common.{◌≡◌, ◌<◌, ◌≤◌, ◌∙◌, length, ap, sym, subst, arith}
use Rattle.std.specs.Prelude.{All}
use Rattle.std.proofs.lemmas.Grind.{common_steps}
use Rattle.std.proofs.lemmas.List.{take_all}
use Rattle.fr_node.specs.View.{NodeView}
use Rattle.fr_air.proofs.Loops.{swept-more}
use Rattle.fr_world.proofs.Sweeps.{all-more}
use Rattle.fr_air.specs.Cycling.{begun_in, IsReady}
use Rattle.fr_world.proofs.cycling.begin_all.Goals as goal

pub loop-node-preserved : goal.loop-node-preserved
loop-node-preserved c =
    let a = c.args in
    let i = c.loop-node.node-index in
    let node = c.node-item.result in
    let new = c.begin_one.new.node in
    let f : NodeView → NodeView = begun_in a.files.now a.cycle in
    let lt : i < length a.nodes.now = omega arith in
    let within : i < length c.loop-node.nodes = omega arith in
    let stepped : new ≡ f node = c.begin_one.ensures.node_is ∙ ap f (sym c.node-item.is) in (
      swept-more f a.nodes.now c.loop-node.nodes i node new lt c.loop-node.invariant.0 c.node-item.is stepped,
      all-more (IsReady a.files.now a.cycle) c.loop-node.nodes i new within c.begin_one.ensures.ready c.loop-node.invariant.1,
    )

pub returns : goal.returns
returns c =
    let done : length c.loop-node.nodes ≤ c.loop-node.node-index = omega arith in record {
      nodes_are = grind (arith, common_steps);
      ready = subst (All (IsReady c.args.files.now c.args.cycle)) (take_all c.loop-node.node-index c.loop-node.nodes done) c.loop-node.invariant.1;
    }
