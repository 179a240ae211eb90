use Rattle.std.proofs.Common.{◌≡◌, ◌<◌, ◌∙◌, length, ap, sym, arith}
use Rattle.std.proofs.lemmas.List.Elements.{All-set}
use Rattle.fr_node.specs.Cycle.{ended}
use Rattle.fr_node.specs.Fits.{NodeFits}
use Rattle.fr_air.proofs.Loops.{swept-more}
use Rattle.fr_world.proofs.cycling.end_followers.Goals as goal

pub loop-node-preserved : goal.loop-node-preserved
loop-node-preserved c =
    let p = c.args.files.now.params in
    let followers = c.args.followers.now in
    let i = c.loop-node.node-index in
    let node = c.node-item.result in
    let lt : i < length followers = omega arith in
    let stepped : c.end.new.self ≡ ended p node = c.end.ensures.after ∙ ap (ended p) (sym c.node-item.is) in (
      swept-more (ended p) followers c.loop-node.followers i node c.end.new.self lt c.loop-node.invariant.0 c.node-item.is stepped,
      All-set (NodeFits p) c.loop-node.followers i c.end.new.self c.end.ensures.fits c.loop-node.invariant.1,
    )
