use Rattle.fr_air.proofs.reach.reach_of.Goals as goal

pub returns-then-is_whole : goal.returns-then-is_whole
returns-then-is_whole c whole = record { apart = c.requires.apart; all = c.is_whole.ensures c.if-is_whole.true; listening = c.whole_reach.ensures }

pub returns-else-is_whole : goal.returns-else-is_whole
returns-else-is_whole c = c.no_reach.ensures c.args.files.now c.args.cycle c.args.rows.now
