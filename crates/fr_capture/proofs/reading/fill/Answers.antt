use Rattle.fr_capture.proofs.Beginning.{filled_kept, filled_short, filled_enough}
use Rattle.fr_capture.proofs.reading.fill.Goals as goal

pub returns-clause-kept : goal.returns-clause-kept
returns-clause-kept c =
    filled_kept c.args.kept.now c.fill_once-first.new.kept c.fill_once-second.new.kept c.args.piece.now c.fill_once-first.result c.fill_once-second.result
    c.fill_once-first.ensures.within c.fill_once-first.ensures.kept c.fill_once-second.ensures.kept

pub returns-clause-short : goal.returns-clause-short
returns-clause-short c =
    filled_short c.args.kept.now c.fill_once-first.new.kept c.fill_once-second.new.kept _ c.fill_once-first.ensures.short c.fill_once-second.ensures.kept c.fill_once-second.ensures.short

pub returns-clause-enough : goal.returns-clause-enough
returns-clause-enough c =
    filled_enough c.args.kept.now c.fill_once-first.new.kept c.fill_once-second.new.kept c.args.piece.now _ c.fill_once-first.result c.fill_once-second.result
    c.fill_once-first.ensures.within c.fill_once-second.ensures.within c.fill_once-second.ensures.kept c.fill_once-first.ensures.enough c.fill_once-second.ensures.enough
