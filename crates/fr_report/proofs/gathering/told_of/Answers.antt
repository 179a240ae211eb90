use Rattle.std.specs.Result.{result_err}
use Rattle.fr_report.proofs.Telling.{clocks_behind, nodes-few, told_of_world}
use Rattle.fr_world.specs.World.{WorldView, setting_after, world_cycles}
use Rattle.fr_report.proofs.gathering.told_of.Goals as goal

pub clocks_of-clocks-requires-clause-few : goal.clocks_of-clocks-requires-clause-few
clocks_of-clocks-requires-clause-few c =
    let w : WorldView = c.args.world.now in
    nodes-few (setting_after w) c.params-params.ensures.sane (world_cycles w) c.nodes.result.now c.nodes.ensures.value

pub returns : goal.returns
returns c =
    let w : WorldView = c.args.world.now in
    let behind = clocks_behind (setting_after w) c.args.report.now c.nodes.result.now c.clocks_of-clocks.result (world_cycles w) c.nodes.ensures.value c.requires c.clocks_of-clocks.ensures in
    told_of_world w c.params-params.result.now c.drift.result.now c.script.result.now c.args.report.now (result_err c.args.gap) c.clocks_of-clocks.result c.told.result
    c.params-params.ensures.value c.drift.ensures.value c.script.ensures.value c.told.ensures c.requires behind
