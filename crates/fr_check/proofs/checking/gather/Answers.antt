use Rattle.std.proofs.Common.{◌∙◌, ap, subst, sym}
use Rattle.fr_base.specs.Rows.{AreAscendingRows}
use Rattle.fr_trace.specs.Cycles.{history_by}
use Rattle.fr_verdict.specs.Sync.{may_follow}
use Rattle.fr_check.specs.Followed.{followed_by}
use Rattle.fr_check.proofs.Gathering.{few_added, gauge_more, placed_rows}
use Rattle.fr_check.proofs.checking.gather.Goals as goal

pub fill-requires-clause-ascend : goal.fill-requires-clause-ascend
fill-requires-clause-ascend c = subst AreAscendingRows (sym c.deref.ensures.value) c.requires.cycle.ascend

pub add-requires-clause-in_run : goal.add-requires-clause-in_run
add-requires-clause-in_run c = few_added c.args.params.now c.args.trace.now c.args.gauge.now c.args.behind.now c.requires.holds c.requires.few

pub add-requires-clause-rows : goal.add-requires-clause-rows
add-requires-clause-rows c =
    placed_rows c.args.params.now c.args.gauge.now (followed_by c.args.trace.now (history_by c.args.behind.now)) c.grid_of-grid.result c.args.cycle.now c.fill.new.list c.requires.holds c.grid_of-grid.ensures.placeable c.grid_of-grid.ensures.value c.requires.cycle
    (c.fill.ensures ∙ c.deref.ensures.value)

pub returns : goal.returns
returns c =
    gauge_more c.args.params.now c.args.trace.now c.args.gauge.now c.add.new.self (history_by c.args.behind.now) c.args.cycle.now c.fill.new.list c.may_follow.result c.add.ensures (c.fill.ensures ∙ c.deref.ensures.value)
    (c.may_follow.ensures ∙ ap (may_follow c.args.trace.now) c.double_behind.ensures.value) c.requires.holds
