use Rattle.std.proofs.Common.{◌∙◌, ap, sym, arith, count_by}
use Rattle.std.proofs.lemmas.List.{take_all}
use Rattle.fr_coverage.specs.Links.{is_sync}
use Rattle.fr_sharp.proofs.MeetingNumbers.{keys_counted}
use Rattle.fr_sharp.proofs.meeting_costs.sync_nodes.Goals as goal

pub returns : goal.returns
returns c =
    let nodes = c.args.nodes.now in
    c.loop-place.invariant.value
    ∙ ap (count_by is_sync) (take_all c.loop-place.place nodes (omega (arith, c.loop-place-test.false, c.len-place-end.ensures)))
    ∙ sym (keys_counted nodes)
