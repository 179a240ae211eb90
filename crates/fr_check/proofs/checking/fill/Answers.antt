use Rattle.fr_check.proofs.Sounded.{above_all, room_for}
use Rattle.fr_check.proofs.checking.fill.Goals as goal

pub push-requires-clause-room : goal.push-requires-clause-room
push-requires-clause-room c = room_for c.args.rows.now c.loop-row.list c.loop-row.row-index c.loop-row.invariant c.loop-row-test.true c.requires.few

pub push-requires-clause-above : goal.push-requires-clause-above
push-requires-clause-above c =
    above_all c.args.rows.now c.loop-row.list c.loop-row.row-index c.row-item.result c.requires.ascend c.loop-row.invariant c.loop-row-test.true c.row-item.is
